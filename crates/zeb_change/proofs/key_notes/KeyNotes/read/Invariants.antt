use Rattle.zeb_change.proofs.Cited.{◌≡◌, length}
use Rattle.zeb_change.proofs.NoteWords.{AreUnread}
use Rattle.zeb_change.proofs.key_notes.KeyNotes.read.Given as goal

abbrev pub invariant-loop : goal.invariant-loop
invariant-loop l = record {
  many : length l.counts.items ≡ l.counter;
  told : AreUnread l.self l.left l.counter l.counts.items l.places.items;
}
