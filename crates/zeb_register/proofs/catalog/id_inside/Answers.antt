use Rattle.zeb_register.proofs.Cited.{rules, state, Err, ap, sym, subst, IsListOf, IsDatabaseRow}
use Rattle.zeb_register.proofs.LookUps.{id_found, ids_shown}
use Rattle.zeb_register.proofs.LooksInside.{shown_inside}
use Rattle.zeb_register.proofs.RowFaults.{refused_rows}
use Rattle.zeb_register.proofs.catalog.id_inside.Goals as goal

pub returns-clause-found : goal.returns-clause-found
returns-clause-found g c =
    let trees = (state g.S.Store c.args.tx.now.conn.now).now.trees in
    record {
      same = search rules;
      looks = shown_inside _ _ _ _ c.in_ok-rows.rows _ _ c.in_ok-rows.ensures.call.does (λ shown. shown.0) (λ shown store.
          id_found trees c.args.name.now (subst (IsListOf (IsDatabaseRow trees c.args.name.now)) (sym c.deref.ensures.value) (shown.1 store)) c.in_ok-first_id.field-0 c.in_ok-first_id.ensures.ok);
    }

pub returns-in_err-first_id-clause-found : goal.returns-in_err-first_id-clause-found
returns-in_err-first_id-clause-found g c =
    let trees = (state g.S.Store c.args.tx.now.conn.now).now.trees in
    record {
      same = search rules;
      looks = shown_inside _ _ _ _ c.in_ok-rows.rows _ _ c.in_ok-rows.ensures.call.does (λ shown. shown.0) (λ shown store.
          refused_rows c.in_err-first_id.field-0.0 c.from_residual-in_err-first_id.result c.from_residual-in_err-first_id.ensures.1 _ _ (λ told.
          c.in_err-first_id.ensures.honest (ap Err told) (ids_shown trees c.args.name.now (subst (IsListOf (IsDatabaseRow trees c.args.name.now)) (sym c.deref.ensures.value) (shown.1 store)))));
    }
