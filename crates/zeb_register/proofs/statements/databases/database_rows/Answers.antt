use Rattle.zeb_register.proofs.DatabaseStatements.{lists_named, named_query}
use Rattle.zeb_register.proofs.Cited.{IsDatabaseRow, refl}
use Rattle.zeb_register.proofs.AsksInTurn.{asks_list}
use Rattle.zeb_register.proofs.Refusals.{refused}
use Rattle.zeb_register.proofs.BoundColumns.{looks_up_so, none_bound, value_bound}
use Rattle.zeb_register.proofs.statements.databases.database_rows.Goals as goal

pub look_up-requires : goal.look_up-requires
look_up-requires g c = (named_query c.args.name.now).silent

pub returns : goal.returns
returns g c =
    asks_list (λ trees. IsDatabaseRow trees c.args.name.now) (refused (named_query c.args.name.now)) _ _ c.look_up.result
    (λ rows store shown. lists_named c.args.name.now _ _ rows store shown)
    (looks_up_so c.look_up.ensures (value_bound c.params-to_sql.ensures refl none_bound))
