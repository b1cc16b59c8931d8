use Rattle.zeb_change.proofs.Cited.{change_in}
use Rattle.zeb_change.proofs.NoteWords.{parts_put}
use Rattle.zeb_change.proofs.key_notes.KeyNotes.note.Goals as goal

pub returns-clause-words : goal.returns-clause-words
returns-clause-words c = rw (
  c.in_ok-put_places-2.ensures,
  c.in_ok-put_places.ensures,
  c.in_ok-put_number-3.ensures,
  c.in_ok-put_number-2.ensures,
  c.in_ok-put_number.ensures,
) (parts_put c.args.self.now.words.items (change_in c.args.change))
