use Rattle.zeb_register.proofs.Cited.{Int, [], ◌∷◌, IsRest, records_tree, refl}
use Rattle.zeb_register.proofs.AsksInTurn.{asks_list}
use Rattle.zeb_register.proofs.RecordStatements.{lists_all, all_query}
use Rattle.zeb_register.proofs.Refusals.{refused}
use Rattle.zeb_register.proofs.BoundColumns.{looks_up_so, none_bound, number_bound}
use Rattle.zeb_register.proofs.statements.records.record_rows.Goals as goal

pub look_up-requires : goal.look_up-requires
look_up-requires g c = (all_query c.args.db).silent

pub returns : goal.returns
returns g c =
    asks_list (IsRest records_tree (Int c.args.db ∷ [])) (refused (all_query c.args.db)) _ _ c.look_up.result
    (λ rows store shown. lists_all c.args.db _ _ rows store shown)
    (looks_up_so c.look_up.ensures (number_bound c.ranges.db refl c.params-to_sql.ensures none_bound))
