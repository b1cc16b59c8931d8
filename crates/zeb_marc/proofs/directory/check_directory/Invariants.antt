-- The checks of the entries so far have passed, so those of the others decide.
use Rattle.zeb_marc.proofs.Cited.{◌≡◌, length, first_failing, directory_checks}
use Rattle.zeb_marc.proofs.directory.check_directory.Given as goal

abbrev pub invariant-loop-rest : goal.invariant-loop-rest
invariant-loop-rest l = first_failing (directory_checks l.area l.rest) ≡ first_failing (directory_checks l.area l.fn.directory)

abbrev pub decreases-loop-rest : goal.decreases-loop-rest
decreases-loop-rest l = length l.rest
