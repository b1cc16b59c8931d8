use Rattle.zeb_register.proofs.Cited.{state, ◌≡◌, Ok, true, length, string_bytes, LooksInto}
use Rattle.zeb_register.proofs.PlainTerms.{AreGoneOver}
use Rattle.zeb_register.proofs.terms.nearest_terms.Given as goal

abbrev pub invariant-loop-done : goal.invariant-loop-done
invariant-loop-done g l = record {
  long : length l.counts.items ≡ l._done;
  looks : LooksInto (λ _. ⊥) (λ trees _. AreGoneOver l.at l.way l.start (string_bytes l.text) trees l.counts.items) (state g.S.Store l.fn.conn) (state g.S.Store l.conn) (Ok true);
}
