use Rattle.zeb_change.proofs.Cited.{AllZip, take}
use Rattle.zeb_change.proofs.TakenKeys.{GivesTaken}
use Rattle.zeb_change.proofs.writing.given_each.Given as goal

abbrev pub invariant-loop-one : goal.invariant-loop-one
invariant-loop-one l = AllZip GivesTaken (take l.one-index l.taken) l.all.items
