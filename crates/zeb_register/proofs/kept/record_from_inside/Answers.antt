use Rattle.zeb_register.proofs.Cited.{state, rules, Err, ap}
use Rattle.zeb_register.proofs.Columns.{column_is}
use Rattle.zeb_register.proofs.LooksInside.{shown_inside}
use Rattle.zeb_register.proofs.RecordLemmas.{first_told, rows_shown}
use Rattle.zeb_register.proofs.RowFaults.{refused_rows}
use Rattle.zeb_register.proofs.kept.record_from_inside.Goals as goal

pub returns-clause-found : goal.returns-clause-found
returns-clause-found g c = record {
  same = search rules;
  looks = shown_inside _ _ _ _ c.in_ok-rows.rows _ _ c.in_ok-rows.ensures.call.does (λ shown. shown.0) (λ shown store. record {
    small = λ small.
        first_told (state g.S.Store c.args.tx.now.conn.now) c.args.db.0 store c.args.start (column_is c.column.ensures.fits c.column.ensures.value) (column_is c.in-Ok.ensures.ok.1 c.in-Ok.ensures.ok.0) c.deref.ensures.value
        (shown.1 store) c.in_ok-first_record.field-0 c.in_ok-first_record.ensures.ok;
    large = search rules;
  });
}

pub returns-in_err-first_record-clause-found : goal.returns-in_err-first_record-clause-found
returns-in_err-first_record-clause-found g c = record {
  same = search rules;
  looks = shown_inside _ _ _ _ c.in_ok-rows.rows _ _ c.in_ok-rows.ensures.call.does (λ shown. shown.0) (λ shown store.
      refused_rows c.in_err-first_record.field-0.0 c.from_residual-in_err-first_record.result c.from_residual-in_err-first_record.ensures.1 _ _ (λ told readable.
      c.in_err-first_record.ensures.honest (ap Err told)
      (rows_shown (state g.S.Store c.args.tx.now.conn.now) c.args.db.0 store c.args.start (column_is c.column.ensures.fits c.column.ensures.value) (column_is c.in-Ok.ensures.ok.1 c.in-Ok.ensures.ok.0) c.deref.ensures.value
      (shown.1 store) readable)));
}
