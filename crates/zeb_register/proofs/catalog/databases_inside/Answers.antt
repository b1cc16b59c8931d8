use Rattle.zeb_register.proofs.Cited.{rules, state, Err, Has, ◌∙◌, ap, map, subst, first_three}
use Rattle.zeb_register.proofs.DatabaseLists.{database_shown, databases_listed}
use Rattle.zeb_register.proofs.LooksInside.{shown_inside}
use Rattle.zeb_register.proofs.RowFaults.{refused_rows}
use Rattle.zeb_register.proofs.catalog.databases_inside.Goals as goal

pub returns-clause-found : goal.returns-clause-found
returns-clause-found g c = record {
  same = search rules;
  looks = shown_inside _ _ _ _ c.in_ok-rows.rows _ _ c.in_ok-rows.ensures.call.does (λ shown. shown.0) (λ shown store.
      databases_listed (state g.S.Store c.args.tx.now.conn.now) store c.in_ok-rows.rows.items (shown.1 store) c.in_ok-databases_in.field-0.items (c.in_ok-databases_in.ensures.ok ∙ ap (map first_three) c.deref.ensures.value));
}

pub returns-in_err-databases_in-clause-found : goal.returns-in_err-databases_in-clause-found
returns-in_err-databases_in-clause-found g c = record {
  same = search rules;
  looks = shown_inside _ _ _ _ c.in_ok-rows.rows _ _ c.in_ok-rows.ensures.call.does (λ shown. shown.0) (λ shown store.
      refused_rows c.in_err-databases_in.field-0.0 c.from_residual-in_err-databases_in.result c.from_residual-in_err-databases_in.ensures.1 _ _ (λ told readable.
      c.in_err-databases_in.ensures.honest (ap Err told) (λ row here. database_shown (state g.S.Store c.args.tx.now.conn.now) store c.in_ok-rows.rows.items (shown.1 store) readable row (subst (λ l. Has l row) c.deref.ensures.value here))));
}
