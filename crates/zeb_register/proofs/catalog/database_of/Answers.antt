use Rattle.zeb_register.proofs.Cited.{state, Err, ap, sym, subst, IsListOf, IsDatabaseRow}
use Rattle.zeb_register.proofs.LookUps.{database_told, databases_shown}
use Rattle.zeb_register.proofs.LooksInTurn.{looks_failed, looks_refused, looks_told}
use Rattle.zeb_register.proofs.catalog.database_of.Goals as goal

pub returns : goal.returns
returns g c =
    let trees = (state g.S.Store c.args.conn.now).now.trees in
    looks_told _ _ _ c.in_ok-first_database.field-0 _ _ _ c.in_ok-rows.ensures (λ store list.
    database_told trees c.args.name.now (subst (IsListOf (IsDatabaseRow trees c.args.name.now)) (sym c.deref.ensures.value) list) c.in_ok-first_database.field-0 c.in_ok-first_database.ensures.ok)

pub returns-in_err-rows : goal.returns-in_err-rows
returns-in_err-rows g c = looks_failed _ _ _ c.from_residual.result _ _ _ c.in_err-rows.ensures c.from_residual.ensures.1

pub returns-in_err-first_database : goal.returns-in_err-first_database
returns-in_err-first_database g c =
    let trees = (state g.S.Store c.args.conn.now).now.trees in
    looks_refused _ _ _ c.in_err-first_database.field-0.0 c.from_residual-in_err-first_database.result _ _ _ c.in_ok-rows.ensures c.from_residual-in_err-first_database.ensures.1 (λ store list told counted.
    c.in_err-first_database.ensures.honest (ap Err told) (databases_shown trees c.args.name.now (subst (IsListOf (IsDatabaseRow trees c.args.name.now)) (sym c.deref.ensures.value) list) counted))
