use Rattle.zeb_register.proofs.Cited.{take, AllByRecursion, IsStorableChange}
use Rattle.zeb_register.proofs.checked_changes.check_changes.Given as goal

abbrev pub invariant-loop-change : goal.invariant-loop-change
invariant-loop-change l = AllByRecursion IsStorableChange (take l.change-index l.changes)
