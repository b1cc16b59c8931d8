use Rattle.zeb_register.proofs.Cited.{state, rules, Err, ap}
use Rattle.zeb_register.proofs.Columns.{column_is}
use Rattle.zeb_register.proofs.LooksInTurn.{looks_failed, looks_refused, looks_told}
use Rattle.zeb_register.proofs.RecordLemmas.{first_told, rows_shown}
use Rattle.zeb_register.proofs.kept.record_from.Goals as goal

pub returns : goal.returns
returns g c =
    looks_told _ _ _ c.in_ok-first_record.field-0 _ _ _ c.in_ok-rows.ensures (λ store listed. record {
      small = λ small.
          first_told (state g.S.Store c.args.conn.now) c.args.db.0 store c.args.start (column_is c.column.ensures.fits c.column.ensures.value) (column_is c.in-Ok.ensures.ok.1 c.in-Ok.ensures.ok.0) c.deref.ensures.value
          listed c.in_ok-first_record.field-0 c.in_ok-first_record.ensures.ok;
      large = search rules;
    })

pub returns-in_err-rows : goal.returns-in_err-rows
returns-in_err-rows g c = looks_failed _ _ _ c.from_residual-in_err-rows.result _ _ _ c.in_err-rows.ensures c.from_residual-in_err-rows.ensures.1

pub returns-in_err-first_record : goal.returns-in_err-first_record
returns-in_err-first_record g c =
    looks_refused _ _ _ c.in_err-first_record.field-0.0 c.from_residual-in_err-first_record.result _ _ _ c.in_ok-rows.ensures c.from_residual-in_err-first_record.ensures.1 (λ store listed told readable.
    c.in_err-first_record.ensures.honest (ap Err told)
    (rows_shown (state g.S.Store c.args.conn.now) c.args.db.0 store c.args.start (column_is c.column.ensures.fits c.column.ensures.value) (column_is c.in-Ok.ensures.ok.1 c.in-Ok.ensures.ok.0) c.deref.ensures.value
    listed readable))
