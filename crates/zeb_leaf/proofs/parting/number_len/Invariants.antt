-- What was counted, and what is left of the number.
use Rattle.zeb_leaf.proofs.Cited.{◌≡◌, ◌+◌, length}
use Rattle.zeb_blocks.specs.Numbers.{uleb}
use Rattle.zeb_leaf.proofs.parting.number_len.Given as goal

abbrev pub invariant-loop-left : goal.invariant-loop-left
invariant-loop-left l = l.len + length (uleb l.left) ≡ length (uleb l.fn.number) + 1

abbrev pub decreases-loop-left : goal.decreases-loop-left
decreases-loop-left l = l.left
