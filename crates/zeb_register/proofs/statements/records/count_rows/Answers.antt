use Rattle.zeb_register.proofs.Cited.{ShowsCount, refl}
use Rattle.zeb_register.proofs.AsksInTurn.{asks_rows}
use Rattle.zeb_register.proofs.RecordReadings.{count_refused, count_silent, shows_count}
use Rattle.zeb_register.proofs.BoundColumns.{looks_up_so, none_bound, number_bound}
use Rattle.zeb_register.proofs.statements.records.count_rows.Goals as goal

pub look_up-requires : goal.look_up-requires
look_up-requires g c = count_silent

pub returns : goal.returns
returns g c =
    asks_rows (ShowsCount c.args.db) (count_refused c.args.db) _ _ c.look_up.result
    (λ rows store shown. shows_count _ c.args.db store _ rows shown)
    (looks_up_so c.look_up.ensures (number_bound c.ranges.db refl c.params-to_sql.ensures none_bound))
