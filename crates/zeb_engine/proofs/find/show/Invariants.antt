use Rattle.zeb_engine.proofs.Cited.{◌≡◌, ◌≤◌, Ok, length, map, string_bytes, take, vec_capacity, state, has_ident_in, AreShown}
use Rattle.zeb_engine.proofs.AskingInTurn.{SearchesUncounted}
use Rattle.zeb_engine.proofs.find.show.Given as goal

abbrev pub invariant-loop-number : goal.invariant-loop-number
invariant-loop-number g l = record {
  count : length l.shown.items ≡ l.number-index;
  room : length l.numbers ≤ vec_capacity l.shown;
  searched : SearchesUncounted (λ trees. ⊥) (λ trees (done : Unit {0}). AreShown (has_ident_in trees l.fn.database.0) (take l.number-index l.numbers) (map (λ hit. (hit.sysno, string_bytes hit.ident)) l.shown.items))
      (state g.S.Store l.fn.connection) (state g.S.Store l.connection) (Ok tt);
}
