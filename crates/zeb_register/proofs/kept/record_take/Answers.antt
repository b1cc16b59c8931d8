use Rattle.zeb_register.proofs.Cited.{rules, pos, Loses, HasNumber, records_tree}
use Rattle.zeb_register.proofs.Calls.{written}
use Rattle.zeb_register.proofs.RecordStatements.{removes}
use Rattle.zeb_register.proofs.BoundColumns.{none_bound, number_bound, ran_so}
use Rattle.zeb_register.proofs.kept.record_take.Goals as goal

pub returns : goal.returns
returns g c = record {
  call = record {
    same = search rules;
    does = written records_tree (Loses (HasNumber c.args.db.0 (pos c.args.sysno))) _ _ c.write.result (λ count store ran. removes c.args.db.0 (pos c.args.sysno) _ _ count store ran)
        (ran_so c.write.ensures.ran (number_bound c.column-id.ensures.fits c.column-id.ensures.value c.params-to_sql.ensures (number_bound c.in_ok-sysno.ensures.ok.1 c.in_ok-sysno.ensures.ok.0 c.params-to_sql-2.ensures none_bound)));
  };
}
