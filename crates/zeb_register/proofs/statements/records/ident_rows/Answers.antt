use Rattle.zeb_register.proofs.Cited.{IsIdentRow, refl}
use Rattle.zeb_register.proofs.AsksInTurn.{asks_list}
use Rattle.zeb_register.proofs.RecordStatements.{lists_ident, ident_query}
use Rattle.zeb_register.proofs.Refusals.{refused}
use Rattle.zeb_register.proofs.BoundColumns.{looks_up_so, none_bound, number_bound}
use Rattle.zeb_register.proofs.statements.records.ident_rows.Goals as goal

pub look_up-requires : goal.look_up-requires
look_up-requires g c = (ident_query c.args.db c.args.sysno).silent

pub returns : goal.returns
returns g c =
    asks_list (IsIdentRow c.args.db c.args.sysno) (refused (ident_query c.args.db c.args.sysno)) _ _ c.look_up.result
    (λ rows store shown. lists_ident c.args.db c.args.sysno _ _ rows store shown)
    (looks_up_so c.look_up.ensures (number_bound c.ranges.db refl c.params-to_sql.ensures (number_bound c.ranges.sysno refl c.params-to_sql-2.ensures none_bound)))
