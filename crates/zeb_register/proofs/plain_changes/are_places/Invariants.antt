use Rattle.zeb_register.proofs.Cited.{◌≡◌, map, take, length, first_two, place_row}
use Rattle.zeb_register.proofs.plain_changes.are_places.Given as goal

abbrev pub invariant-loop-at : goal.invariant-loop-at
invariant-loop-at l = (map first_two (take l.at l.rows) ≡ map place_row (take l.at l.places)) × (length l.rows ≡ length l.places)
