-- The pieces so far are of the register, and below the end.
use Rattle.zeb_leaves.proofs.Cited.{AllByRecursion, take, option_map, KeyOfBlock}
use Rattle.zeb_leaves.specs.PrivateTurning.{IsBelow, IsTextOf}
use Rattle.zeb_leaves.proofs.turning.count_covered.Given as goal

abbrev pub invariant-loop-count : goal.invariant-loop-count
invariant-loop-count l = record {
  register : AllByRecursion (IsTextOf l.at) (take l.count l.pieces);
  below : AllByRecursion (IsBelow (option_map (λ (k : KeyOfBlock). (k.term.now, k.block)) l.end)) (take l.count l.pieces);
}
