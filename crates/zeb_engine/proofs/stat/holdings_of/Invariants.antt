use Rattle.zeb_engine.proofs.Cited.{◌≡◌, ◌≤◌, Ok, length, take, vec_capacity, state, extent_of, IsSummedUp, Paired, Searches}
use Rattle.zeb_engine.proofs.AskingInTurn.{Uncounted}
use Rattle.zeb_engine.proofs.stat.holdings_of.Given as goal

abbrev pub invariant-loop-target : goal.invariant-loop-target
invariant-loop-target g l = record {
  count : length l.holdings.items ≡ l.target-index;
  room : length l.targets ≤ vec_capacity l.holdings;
  searched : Searches g.L.Layout.format g.L.Layout.row_work (λ trees. ⊥)
      (λ trees (done : Unit {0}). Paired (λ target holding. IsSummedUp g.L.Layout.format l.fn.profile trees l.fn.database.0 target (extent_of holding)) (take l.target-index l.targets) l.holdings.items) Uncounted
      (state g.S.Store l.fn.connection) (state g.S.Store l.connection) l.fn.work l.work (Ok tt);
}
