use Rattle.zeb_leaf_rows.proofs.Cited.{IsUpTo, own_key, state}
use Rattle.zeb_leaf_rows.specs.PrivateLeafRows.{IsOfTermBelow}
use Rattle.zeb_register.proofs.AsksInTurn.{asks_handed, asks_so, asks_then}
use Rattle.zeb_leaf_rows.proofs.CoveringCalls.{up_to_next}
use Rattle.zeb_leaf_rows.proofs.CoveringLeaves.{covers_below, covers_own}
use Rattle.zeb_leaf_rows.proofs.covering.covering_leaf.Goals as goal

pub returns-in_err-leaf : goal.returns-in_err-leaf
returns-in_err-leaf g c = asks_handed _ _ _ c.from_residual.result _ _ c.in_err-leaf.ensures c.from_residual.ensures.1

pub returns-in-Some : goal.returns-in-Some
returns-in-Some g c =
    let s = state g.S.Store c.args.conn.now in
    asks_so _ _ _ _ _ _ c.in_ok-leaf.ensures (λ store found.
    covers_own s store c.args.at.db.0 c.args.at.index c.args.at.register c.args.term.now c.args.block c.in-Some.leaf
    (rw c.in-Some.is at (up_to_next (λ z. IsOfTermBelow c.args.at c.args.term.now z s.now.trees) (λ row other. IsUpTo (own_key row) other) c.args.block _ c.requires found)))

pub returns-in-None : goal.returns-in-None
returns-in-None g c =
    let s = state g.S.Store c.args.conn.now in
    asks_then _ _ _ _ c.leaf_of_terms_below.result _ _ _ c.in_ok-leaf.ensures c.leaf_of_terms_below.ensures (λ store found.
    let none = rw c.in-None.is at (up_to_next (λ z. IsOfTermBelow c.args.at c.args.term.now z s.now.trees) (λ row other. IsUpTo (own_key row) other) c.args.block _ c.requires found) in
    covers_below s store c.args.at.db.0 c.args.at.index c.args.at.register c.args.term.now c.args.block none)
