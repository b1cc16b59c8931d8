-- What those so far count.
use Rattle.zeb_leaf.proofs.Cited.{◌≡◌, sum_by, take, Held}
use Rattle.zeb_leaf.proofs.counting.records_said.Given as goal

abbrev pub invariant-loop-one : goal.invariant-loop-one
invariant-loop-one l = l.records ≡ sum_by (λ (one : Held). one.records) (take l.one-index l.held)
