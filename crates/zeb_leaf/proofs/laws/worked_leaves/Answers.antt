-- Each example by the definitions.
use Rattle.zeb_leaf.proofs.Cited.{[], refl}
use Rattle.zeb_leaf.proofs.Walked.{empty_leaf}
use Rattle.zeb_leaf.proofs.WorkedLeaves.{leaf_blocks, leaf_bytes_shared, leaf_empty_term, leaf_shared, no_block, no_cut, no_falling, no_level, no_long, no_many, no_more, no_records, no_shared, no_short, no_utf8, no_whole_utf8}
use Rattle.zeb_leaf.proofs.laws.worked_leaves.Goals as goal

pub returns : goal.returns
returns c = record {
  spelled = (leaf_shared, leaf_blocks, leaf_empty_term, leaf_bytes_shared);
  none = (empty_leaf [] refl, (no_long, (no_shared, (no_short, (no_falling, (no_level, (no_records, (no_many, (no_cut, (no_more, (no_block, (no_utf8, (no_whole_utf8, tt)))))))))))));
}
