-- Each example by the definitions.
use Rattle.zeb_blocks.proofs.WorkedBlocks.{no_cut, no_empty, no_large, no_level, no_long, no_outside, no_padded, no_zero, spelled_long, spelled_next_block, spelled_next_place, spelled_next_record, spelled_next_unit, spelled_one}
use Rattle.zeb_lower_laws.proofs.blocks.worked_examples.Goals as goal

pub returns : goal.returns
returns c = record {
  spelled = (spelled_one, spelled_next_unit, spelled_next_place, spelled_next_record);
  other_blocks = (spelled_next_block, spelled_long);
  none = (no_empty, (no_zero, (no_cut, (no_padded, (no_level, (no_outside, (no_large, (no_long, tt))))))));
}
