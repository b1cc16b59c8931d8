use Rattle.zeb_packed.proofs.Cited.{take, AllByRecursion, IsInBlock}
use Rattle.zeb_packed.proofs.packed_runs.run_length.Given as goal

abbrev pub invariant-loop-at : goal.invariant-loop-at
invariant-loop-at l = AllByRecursion (IsInBlock l.block) (take l.at l.changes)
