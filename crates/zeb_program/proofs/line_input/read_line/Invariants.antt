use Rattle.zeb_program.proofs.Cited.{◌≡◌, ◌≤◌, ◌+◌, ◌-◌, false, vec_len, Consumes}
use Rattle.zeb_program.proofs.LineInputLemmas.{HasNoLf}
use Rattle.zeb_program.proofs.line_input.read_line.Given as goal

-- The bytes so far came off the front of the source's, and no LF is among them.
abbrev pub invariant-loop-byte : goal.invariant-loop-byte
invariant-loop-byte g l =
    record {
      sound : g.R.Source.has_failed l.source ≡ false;
      room : vec_len l.line ≤ l.most + 1;
      none : HasNoLf l.line.items;
      taken : Consumes (g.R.Source.remaining l.initial.source) (g.R.Source.remaining l.source) l.line.items;
    }

abbrev pub decreases-loop-byte : goal.decreases-loop-byte
decreases-loop-byte g l = l.most + 1 - vec_len l.line
