use Rattle.zeb_register.proofs.Cited.{rules, state, Err, ap, refl, IsElderRow}
use Rattle.zeb_register.proofs.Columns.{column_is}
use Rattle.zeb_register.proofs.LookUps.{elder_told, elders_shown, list_is}
use Rattle.zeb_register.proofs.LooksInside.{shown_inside}
use Rattle.zeb_register.proofs.RowFaults.{refused_rows}
use Rattle.zeb_register.proofs.kept.record_of_ident.Goals as goal

pub returns-clause-found : goal.returns-clause-found
returns-clause-found g c =
    let trees = (state g.S.Store c.args.tx.now.conn.now).now.trees in
    record {
      same = search rules;
      looks = shown_inside _ _ _ _ c.in_ok-rows.rows _ _ c.in_ok-rows.ensures.call.does (λ shown. shown.0) (λ shown store.
          let list = list_is (λ db _. IsElderRow db c.args.ident.now trees) {number = c.args.db.0} (column_is c.column.ensures.fits c.column.ensures.value) refl c.deref.ensures.value (shown.1 store) in
          elder_told trees c.args.db.0 c.args.ident.now list c.in_ok-first_elder.field-0 c.in_ok-first_elder.ensures.ok);
    }

pub returns-in_err-first_elder-clause-found : goal.returns-in_err-first_elder-clause-found
returns-in_err-first_elder-clause-found g c =
    let trees = (state g.S.Store c.args.tx.now.conn.now).now.trees in
    record {
      same = search rules;
      looks = shown_inside _ _ _ _ c.in_ok-rows.rows _ _ c.in_ok-rows.ensures.call.does (λ shown. shown.0) (λ shown store.
          refused_rows c.in_err-first_elder.field-0.0 c.from_residual-in_err-first_elder.result c.from_residual-in_err-first_elder.ensures.1 _ _ (λ told numbered.
          let list = list_is (λ db _. IsElderRow db c.args.ident.now trees) {number = c.args.db.0} (column_is c.column.ensures.fits c.column.ensures.value) refl c.deref.ensures.value (shown.1 store) in
          c.in_err-first_elder.ensures.honest (ap Err told) (elders_shown trees c.args.db.0 c.args.ident.now list numbered)));
    }
