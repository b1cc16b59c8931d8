-- The changes so far leave places.
use Rattle.zeb_packed.proofs.Cited.{AllByRecursion, take, LeavesPlaces}
use Rattle.zeb_packed.proofs.new_rows.leave_places.Given as goal

abbrev pub invariant-loop-change : goal.invariant-loop-change
invariant-loop-change l = AllByRecursion LeavesPlaces (take l.change-index l.changes)
