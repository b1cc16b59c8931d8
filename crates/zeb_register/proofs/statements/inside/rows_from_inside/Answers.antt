use Rattle.zeb_register.proofs.Cited.{Row, Int, rules, ◌≡◌, List, [], ◌∷◌, take, IfErr-weaker, IsRestAtLeast, IsListOf, records_tree, refl}
use Rattle.zeb_register.proofs.Refusals.{not_late, refused}
use Rattle.zeb_register.proofs.Calls.{read_inside, query_keeps}
use Rattle.zeb_register.proofs.RecordReadings.{from_query, lists_from}
use Rattle.zeb_register.proofs.BoundColumns.{none_bound, number_bound, reasoned_so, shown_so}
use Rattle.zeb_register.proofs.statements.inside.rows_from_inside.Goals as goal

pub returns-clause-call : goal.returns-clause-call
returns-clause-call g c = record {
  same = search rules;
  does = record {
    ok = λ clean. read_inside (λ rows. rows.items) (λ trees rows. (all : List Row) × IsListOf (IsRestAtLeast records_tree (Int c.args.db ∷ []) c.args.start trees) all × (rows ≡ take 1 all)) _ _ _ _ c.query_all.result (from_query c.args.db c.args.start).silent (c.query_all.ensures.ok clean)
        (λ rows store shown. lists_from c.args.db c.args.start _ _ rows store (shown_so _ _ _ _ shown (number_bound c.ranges.db refl c.params-to_sql.ensures (number_bound c.ranges.start refl c.params-to_sql-2.ensures none_bound))));
    err = λ clean inside. query_keeps _ _ _ _ c.query_all.result (from_query c.args.db c.args.start).silent (c.query_all.ensures.err clean);
    crash = search rules;
  };
}

pub returns-clause-err : goal.returns-clause-err
returns-clause-err g c clean inside store = IfErr-weaker c.query_all.result _ _ (λ e failed told. reasoned_so _ _ _ (number_bound c.ranges.db refl c.params-to_sql.ensures (number_bound c.ranges.start refl c.params-to_sql-2.ensures none_bound)) (refused (from_query c.args.db c.args.start)) _ _ e store told (not_late _ _ _ _ e inside failed)) (c.query_all.ensures.err clean)
