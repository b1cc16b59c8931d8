use Rattle.zeb_extract.proofs.Cited.{◌≡◌, ◌++◌, unit_targets, listing}
use Rattle.zeb_extract.proofs.entries.occurrences.Given as goal

abbrev pub invariant-loop-unit : goal.invariant-loop-unit
invariant-loop-unit l =
    l.found.items ++ listing (unit_targets l.profile) l.unit-iterator ≡ listing (unit_targets l.profile) l.initial.unit-iterator
