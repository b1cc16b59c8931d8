use Rattle.zeb_register.proofs.Cited.{rules, IfErr-weaker, IsListedRow}
use Rattle.zeb_register.proofs.Refusals.{not_late, refused}
use Rattle.zeb_register.proofs.Calls.{lists_inside, query_keeps}
use Rattle.zeb_register.proofs.DatabaseLists.{lists_databases, list_query}
use Rattle.zeb_register.proofs.statements.databases.listed_rows_inside.Goals as goal

pub returns-clause-call : goal.returns-clause-call
returns-clause-call g c = record {
  same = search rules;
  does = record {
    ok = λ clean. lists_inside (λ rows. rows.items) IsListedRow _ _ _ _ c.query_all.result list_query.silent (c.query_all.ensures.ok clean) (λ rows store shown. lists_databases _ _ rows store shown);
    err = λ clean inside. query_keeps _ _ _ _ c.query_all.result list_query.silent (c.query_all.ensures.err clean);
    crash = search rules;
  };
}

pub returns-clause-err : goal.returns-clause-err
returns-clause-err g c clean inside store = IfErr-weaker c.query_all.result _ _ (λ e failed told. refused list_query _ _ e store told (not_late _ _ _ _ e inside failed)) (c.query_all.ensures.err clean)
