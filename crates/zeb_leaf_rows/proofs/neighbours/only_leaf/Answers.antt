use Rattle.zeb_leaf_rows.proofs.Cited.{state}
use Rattle.zeb_register.proofs.AsksInTurn.{asks_handed, asks_so}
use Rattle.zeb_leaf_rows.proofs.OnlyLeaf.{is_only}
use Rattle.zeb_leaf_rows.proofs.neighbours.only_leaf.Goals as goal

pub returns-in_err-leaf : goal.returns-in_err-leaf
returns-in_err-leaf g c = asks_handed _ _ _ c.from_residual.result _ _ c.in_err-leaf.ensures c.from_residual.ensures.1

pub returns-then-has_term_below : goal.returns-then-has_term_below
returns-then-has_term_below g c =
    asks_so _ _ _ _ _ _ c.in_ok-leaf.ensures (λ store found.
    is_only (state g.S.Store c.args.conn.now) store c.args.at.db.0 c.args.at.index c.args.at.register c.args.first.now c.args.end.now c.requires c.in-Some.leaf (rw c.in-Some.is at found) (c.has_term_below.ensures.0 c.if-has_term_below.true))
