use Rattle.zeb_change.proofs.Cited.{◌≡◌, map, take, place_in}
use Rattle.zeb_change.proofs.noting.set_places.Given as goal

abbrev pub invariant-loop-occurrence : goal.invariant-loop-occurrence
invariant-loop-occurrence l = record { so_far : l.places.items ≡ map place_in (take l.occurrence-index l.occurrences) }
