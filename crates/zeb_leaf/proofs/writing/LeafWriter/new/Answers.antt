-- A leaf without entries has no bytes.
use Rattle.zeb_leaf.proofs.Cited.{refl}
use Rattle.zeb_leaf.specs.Leaves.{entries_bytes}
use Rattle.zeb_leaf.proofs.writing.LeafWriter.new.Goals as goal

pub returns : goal.returns
unfolding entries_bytes
returns c = rw (c.new.ensures.items, c.in_ok-with_capacity.ensures.items) refl
