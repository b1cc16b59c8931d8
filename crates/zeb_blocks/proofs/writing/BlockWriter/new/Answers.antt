-- A list without a posting has no bytes.
use Rattle.zeb_blocks.proofs.Cited.{refl}
use Rattle.zeb_blocks.specs.Left.{postings_at}
use Rattle.zeb_blocks.proofs.Pushing.{written_none}
use Rattle.zeb_blocks.proofs.writing.BlockWriter.new.Goals as goal

pub invariant_of-result : goal.invariant_of-result
invariant_of-result c = written_none c.args.block c.new.result.items c.requires c.new.ensures.items

pub returns : goal.returns
unfolding postings_at
returns c = refl
