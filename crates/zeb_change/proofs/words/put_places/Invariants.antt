use Rattle.zeb_change.proofs.Cited.{◌≡◌, ◌++◌, take, place_words}
use Rattle.zeb_change.proofs.words.put_places.Given as goal

abbrev pub invariant-loop-place : goal.invariant-loop-place
invariant-loop-place l = record { so_far : l.words.items ≡ l.initial.words.items ++ place_words (take l.place-index l.places) }
