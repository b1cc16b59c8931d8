use Rattle.zeb_leaf_rows.proofs.Cited.{ℤ, ShowsGreatest, state, subst, to_z-of_z}
use Rattle.std.proofs.Common.{w64}
use Rattle.zeb_register.proofs.AsksInTurn.{asks_handed, asks_so}
use Rattle.zeb_leaf_rows.proofs.CoveringLeaves.{shown_greatest}
use Rattle.zeb_leaf_rows.specs.PrivateLeafRows.{IsOfTermBelow}
use Rattle.zeb_leaf_rows.proofs.covering.leaf_of_term.Goals as goal

pub returns-in_err-rows : goal.returns-in_err-rows
returns-in_err-rows g c = asks_handed _ _ _ c.from_residual.result _ _ c.in_err-rows.ensures c.from_residual.ensures.1

pub returns : goal.returns
returns g c =
    let trees = (state g.S.Store c.args.conn.now).now.trees in
    let rows = c.in_ok-rows.rows.items in
    asks_so _ _ _ c.last_row.result _ _ c.in_ok-rows.ensures (λ store shown.
    shown_greatest (IsOfTermBelow c.args.at c.args.term.now c.args.end trees) rows c.last_row.result c.last_row.ensures
    (subst (λ (z : ℤ). ShowsGreatest (IsOfTermBelow c.args.at c.args.term.now z trees) rows) (to_z-of_z {w = w64} {z = c.args.end} c.ranges.end) shown))
