use Rattle.zeb_change.proofs.Cited.{AllZip, take}
use Rattle.zeb_change.proofs.TakenKeys.{IsInRun}
use Rattle.zeb_change.proofs.writing.run_of.Given as goal

abbrev pub invariant-loop-one : goal.invariant-loop-one
invariant-loop-one l = AllZip IsInRun (take l.one-index l.given) l.run.items
