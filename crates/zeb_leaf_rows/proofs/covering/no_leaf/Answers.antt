use Rattle.zeb_leaf_rows.proofs.Cited.{refl, rules, state, Err}
use Rattle.zeb_register.specs.declared.faults.RegFault.TheVariants.{Damaged}
use Rattle.zeb_register.specs.declared.faults.RowFault.TheVariants.{Damaged as DamagedRow}
use Rattle.zeb_register.proofs.LooksInTurn.{looks_failed, looks_refused, looks_told}
use Rattle.zeb_leaf_rows.proofs.CoveringCalls.{no_leaf_shown, some_leaf_shown}
use Rattle.zeb_leaf_rows.proofs.covering.no_leaf.Goals as goal

pub returns-in_err-rows : goal.returns-in_err-rows
returns-in_err-rows g c = looks_failed _ _ _ c.from_residual.result _ _ _ c.in_err-rows.ensures c.from_residual.ensures.1

pub returns-then-is_empty : goal.returns-then-is_empty
returns-then-is_empty g c =
    looks_told _ _ _ _ _ _ _ c.in_ok-rows.ensures (λ store shown.
    (refl, no_leaf_shown (state g.S.Store c.args.conn.now) store c.args.at.db.0 c.args.at.index c.args.at.register c.in_ok-rows.rows.items (search rules) shown))

pub returns : goal.returns
returns g c =
    looks_refused _ _ _ DamagedRow (Err Damaged) _ _ _ c.in_ok-rows.ensures refl (λ store shown told.
    some_leaf_shown (state g.S.Store c.args.conn.now) store c.args.at.db.0 c.args.at.index c.args.at.register c.in_ok-rows.rows.items (search rules) shown)
