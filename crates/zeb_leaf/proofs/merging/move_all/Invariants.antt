-- What was moved so far, and what is left, are all.
use Rattle.zeb_leaf.proofs.Cited.{◌≡◌, ◌++◌, length}
use Rattle.zeb_leaf.proofs.merging.move_all.Given as goal

abbrev pub invariant-loop-entry : goal.invariant-loop-entry
invariant-loop-entry l = l.merged.items ++ l.left.items ≡ l.fn.merged.items ++ l.fn.left.items

abbrev pub decreases-loop-entry : goal.decreases-loop-entry
decreases-loop-entry l = length l.left.items
