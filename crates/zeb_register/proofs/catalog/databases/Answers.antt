use Rattle.zeb_register.proofs.Cited.{state, Err, Has, ◌∙◌, ap, map, subst, first_three}
use Rattle.zeb_register.proofs.DatabaseLists.{database_shown, databases_listed}
use Rattle.zeb_register.proofs.LooksInTurn.{looks_failed, looks_refused, looks_told}
use Rattle.zeb_register.proofs.catalog.databases.Goals as goal

pub returns : goal.returns
returns g c =
    looks_told _ _ _ c.in_ok-databases_in.field-0 _ _ _ c.in_ok-rows.ensures (λ store listed.
    databases_listed (state g.S.Store c.args.conn.now) store c.in_ok-rows.rows.items listed c.in_ok-databases_in.field-0.items (c.in_ok-databases_in.ensures.ok ∙ ap (map first_three) c.deref.ensures.value))

pub returns-in_err-rows : goal.returns-in_err-rows
returns-in_err-rows g c = looks_failed _ _ _ c.from_residual.result _ _ _ c.in_err-rows.ensures c.from_residual.ensures.1

pub returns-in_err-databases_in : goal.returns-in_err-databases_in
returns-in_err-databases_in g c =
    looks_refused _ _ _ c.in_err-databases_in.field-0.0 c.from_residual-in_err-databases_in.result _ _ _ c.in_ok-rows.ensures c.from_residual-in_err-databases_in.ensures.1 (λ store listed told readable.
    c.in_err-databases_in.ensures.honest (ap Err told) (λ row here. database_shown (state g.S.Store c.args.conn.now) store c.in_ok-rows.rows.items listed readable row (subst (λ l. Has l row) c.deref.ensures.value here)))
