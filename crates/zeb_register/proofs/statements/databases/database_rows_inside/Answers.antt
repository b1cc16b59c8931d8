use Rattle.zeb_register.proofs.Cited.{rules, IsDatabaseRow, refl}
use Rattle.zeb_register.proofs.Calls.{lists_inside, query_keeps}
use Rattle.zeb_register.proofs.DatabaseStatements.{lists_named, named_query}
use Rattle.zeb_register.proofs.BoundColumns.{none_bound, shown_so, value_bound}
use Rattle.zeb_register.proofs.statements.databases.database_rows_inside.Goals as goal

pub returns : goal.returns
returns g c = record {
  call = record {
    same = search rules;
    does = record {
      ok = λ clean. lists_inside (λ rows. rows.items) (λ trees. IsDatabaseRow trees c.args.name.now) _ _ _ _ c.query_all.result (named_query c.args.name.now).silent (c.query_all.ensures.ok clean)
          (λ rows store shown. lists_named c.args.name.now _ _ rows store (shown_so _ _ _ _ shown (value_bound c.params-to_sql.ensures refl none_bound)));
      err = λ clean inside. query_keeps _ _ _ _ c.query_all.result (named_query c.args.name.now).silent (c.query_all.ensures.err clean);
      crash = search rules;
    };
  };
}
