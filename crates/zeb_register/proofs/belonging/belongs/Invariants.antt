use Rattle.zeb_register.proofs.Cited.{state, Ok, true, Asks, tree_of}
use Rattle.zeb_register.proofs.OwnersListed.{IsReached}
use Rattle.zeb_register.proofs.belonging.belongs.Given as goal

abbrev pub invariant-ids : goal.invariant-ids
invariant-ids g l = record {
  asks : Asks (state g.S.Store l.fn.conn) (state g.S.Store l.conn) (Ok true) (λ trees _. IsReached (tree_of l.table) trees l.listed l.ends.last l.id l._turn);
}
