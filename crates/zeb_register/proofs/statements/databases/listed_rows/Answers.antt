use Rattle.zeb_register.proofs.DatabaseLists.{lists_databases, list_query}
use Rattle.zeb_register.proofs.Cited.{IsListedRow}
use Rattle.zeb_register.proofs.AsksInTurn.{asks_list}
use Rattle.zeb_register.proofs.Refusals.{refused}
use Rattle.zeb_register.proofs.statements.databases.listed_rows.Goals as goal

pub look_up-requires : goal.look_up-requires
look_up-requires g c = list_query.silent

pub returns : goal.returns
returns g c =
    asks_list IsListedRow (refused list_query) _ _ c.look_up.result
    (λ rows store shown. lists_databases _ _ rows store shown)
    c.look_up.ensures
