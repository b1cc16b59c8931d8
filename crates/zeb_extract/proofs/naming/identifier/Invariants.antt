use Rattle.zeb_extract.proofs.Cited.{◌≡◌, first_fitting}
use Rattle.zeb_extract.proofs.naming.identifier.Given as goal

abbrev pub invariant-loop-unit : goal.invariant-loop-unit
invariant-loop-unit l = first_fitting l.rule l.unit-iterator ≡ first_fitting l.rule l.initial.unit-iterator
