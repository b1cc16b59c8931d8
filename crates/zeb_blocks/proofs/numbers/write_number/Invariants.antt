-- What was put, and what is left of the number.
use Rattle.zeb_blocks.proofs.Cited.{◌≡◌, ◌++◌, ℕ, List}
use Rattle.zeb_blocks.specs.Numbers.{uleb}
use Rattle.zeb_blocks.proofs.numbers.write_number.Given as goal

abbrev pub invariant-loop-left : goal.invariant-loop-left
invariant-loop-left l = record {
  spelled : l.out.items ++ uleb l.left ≡ l.initial.out.items ++ uleb l.fn.number;
  begun : (part : List ℕ) × (l.out.items ≡ l.initial.out.items ++ part);
}

abbrev pub decreases-loop-left : goal.decreases-loop-left
decreases-loop-left l = l.left
