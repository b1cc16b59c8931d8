use Rattle.zeb_register.proofs.Cited.{Row, Int, ◌≡◌, List, [], ◌∷◌, take, IsRestAtLeast, IsListOf, records_tree, refl}
use Rattle.zeb_register.proofs.AsksInTurn.{asks_rows}
use Rattle.zeb_register.proofs.RecordReadings.{lists_from, from_query}
use Rattle.zeb_register.proofs.Refusals.{refused}
use Rattle.zeb_register.proofs.BoundColumns.{looks_up_so, none_bound, number_bound}
use Rattle.zeb_register.proofs.statements.records.rows_from.Goals as goal

pub look_up-requires : goal.look_up-requires
look_up-requires g c = (from_query c.args.db c.args.start).silent

pub returns : goal.returns
returns g c =
    asks_rows (λ trees rows. (all : List Row) × IsListOf (IsRestAtLeast records_tree (Int c.args.db ∷ []) c.args.start trees) all × (rows ≡ take 1 all)) (refused (from_query c.args.db c.args.start)) _ _ c.look_up.result
    (λ rows store shown. lists_from c.args.db c.args.start _ _ rows store shown)
    (looks_up_so c.look_up.ensures (number_bound c.ranges.db refl c.params-to_sql.ensures (number_bound c.ranges.start refl c.params-to_sql-2.ensures none_bound)))
