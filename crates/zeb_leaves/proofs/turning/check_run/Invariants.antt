-- The changes so far can all be stored.
use Rattle.zeb_leaves.proofs.Cited.{take, AreStorable}
use Rattle.zeb_leaves.proofs.turning.check_run.Given as goal

abbrev pub invariant-loop-one : goal.invariant-loop-one
invariant-loop-one l = AreStorable (take l.one-index l.run)
