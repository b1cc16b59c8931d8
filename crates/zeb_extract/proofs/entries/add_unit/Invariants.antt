use Rattle.zeb_extract.proofs.Cited.{◌≡◌, ◌++◌, flat_map, unit_text, targets_left, listed_in}
use Rattle.zeb_extract.proofs.entries.add_unit.Given as goal

abbrev pub invariant-loop-index : goal.invariant-loop-index
invariant-loop-index l =
    l.found.items ++ flat_map (listed_in (unit_text l.unit)) (targets_left l.index-iterator)
    ≡ l.initial.found.items ++ flat_map (listed_in (unit_text l.unit)) (targets_left l.initial.index-iterator)
