use Rattle.zeb_register.proofs.Cited.{rules, IfErr-weaker, IsElderRow, refl}
use Rattle.zeb_register.proofs.Refusals.{not_late, refused}
use Rattle.zeb_register.proofs.Calls.{lists_inside, query_keeps}
use Rattle.zeb_register.proofs.RecordStatements.{lists_elder, elder_query}
use Rattle.zeb_register.proofs.BoundColumns.{none_bound, number_bound, reasoned_so, shown_so, value_bound}
use Rattle.zeb_register.proofs.statements.records.elder_rows.Goals as goal

pub returns-clause-call : goal.returns-clause-call
returns-clause-call g c = record {
  same = search rules;
  does = record {
    ok = λ clean. lists_inside (λ rows. rows.items) (IsElderRow c.args.db c.args.ident.now) _ _ _ _ c.query_all.result (elder_query c.args.db c.args.ident.now).silent (c.query_all.ensures.ok clean)
        (λ rows store shown. lists_elder c.args.db c.args.ident.now _ _ rows store (shown_so _ _ _ _ shown (number_bound c.ranges.db refl c.params-to_sql.ensures (value_bound c.params-to_sql-2.ensures refl none_bound))));
    err = λ clean inside. query_keeps _ _ _ _ c.query_all.result (elder_query c.args.db c.args.ident.now).silent (c.query_all.ensures.err clean);
    crash = search rules;
  };
}

pub returns-clause-err : goal.returns-clause-err
returns-clause-err g c clean inside store = IfErr-weaker c.query_all.result _ _ (λ e failed told. reasoned_so _ _ _ (number_bound c.ranges.db refl c.params-to_sql.ensures (value_bound c.params-to_sql-2.ensures refl none_bound)) (refused (elder_query c.args.db c.args.ident.now)) _ _ e store told (not_late _ _ _ _ e inside failed)) (c.query_all.ensures.err clean)
