use Rattle.zeb_register.proofs.Cited.{rules, pos, Replaces, SharesRecord, record_row, records_tree, refl}
use Rattle.zeb_register.proofs.Calls.{written}
use Rattle.zeb_register.proofs.RecordStatements.{keeps_record}
use Rattle.zeb_register.proofs.BoundColumns.{none_bound, number_bound, ran_so, value_bound}
use Rattle.zeb_register.proofs.kept.record_put.Goals as goal

pub returns : goal.returns
returns g c = record {
  call = record {
    same = search rules;
    does = let n = pos c.args.sysno in written records_tree (Replaces (SharesRecord c.args.db.0 n c.args.ident.now) (record_row c.args.db.0 n c.args.ident.now c.args.bytes.now)) _ _ c.write.result
        (λ count store ran. keeps_record c.args.db.0 n c.args.ident.now c.args.bytes.now _ _ count store ran) (ran_so c.write.ensures.ran (number_bound c.column-id.ensures.fits c.column-id.ensures.value c.params-to_sql.ensures (number_bound c.in_ok-sysno.ensures.ok.1 c.in_ok-sysno.ensures.ok.0 c.params-to_sql-2.ensures (value_bound c.params-to_sql-3.ensures refl (value_bound c.params-to_sql-4.ensures refl none_bound)))));
  };
}
