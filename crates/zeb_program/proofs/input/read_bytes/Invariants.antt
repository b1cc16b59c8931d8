use Rattle.zeb_program.proofs.Cited.{◌≡◌, ◌≤◌, ◌+◌, ◌-◌, false, vec_len, Consumes}
use Rattle.zeb_program.proofs.input.read_bytes.Given as goal

-- The bytes so far came off the front of the source's.
abbrev pub invariant-loop-portion : goal.invariant-loop-portion
invariant-loop-portion g l =
    record {
      sound : g.R.Source.has_failed l.source ≡ false;
      able : g.R.Source.may_fail l.initial.source ≡ false → g.R.Source.may_fail l.source ≡ false;
      room : vec_len l.bytes ≤ l.most + 1;
      taken : Consumes (g.R.Source.remaining l.initial.source) (g.R.Source.remaining l.source) l.bytes.items;
    }

abbrev pub decreases-loop-portion : goal.decreases-loop-portion
decreases-loop-portion g l = l.most + 1 - vec_len l.bytes
