use Rattle.zeb_change.proofs.NoteWords.{AreLeft}
use Rattle.zeb_change.proofs.words.take_places.Given as goal

abbrev pub invariant-loop : goal.invariant-loop
invariant-loop l = record { so_far : AreLeft l.words l.left l.count l.counter l.fn.places.items l.places.items }
