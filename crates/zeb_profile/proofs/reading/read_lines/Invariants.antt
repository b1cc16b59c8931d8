use Rattle.zeb_profile.proofs.Cited.{◌≡◌, [], directives_in, placed_after, NotesClashes}
use Rattle.zeb_profile.proofs.TellingLines.{telling_from}
use Rattle.zeb_profile.proofs.reading.read_lines.Given as goal

abbrev pub invariant-loop-index : goal.invariant-loop-index
invariant-loop-index l = record {
  clashes : NotesClashes l.repeats (directives_in l.placed.items);
  read : placed_after l.placed.items (telling_from l.index l.line-items) ≡ placed_after [] (telling_from 0 l.line-items);
}
