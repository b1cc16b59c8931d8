use Rattle.zeb_register.proofs.Cited.{◌≤ℤ◌, sym, subst, Owns, tree_of, ShowsFirst, refl}
use Rattle.zeb_register.proofs.AsksInTurn.{asks_rows}
use Rattle.zeb_register.proofs.Calls.{IsSilent}
use Rattle.zeb_register.proofs.OwnerStatements.{shows_next, next_query}
use Rattle.zeb_register.proofs.Refusals.{refused}
use Rattle.zeb_register.proofs.BoundColumns.{looks_up_as, none_bound, number_bound}
use Rattle.zeb_register.proofs.statements.owners.next_rows.Goals as goal

pub look_up-requires : goal.look_up-requires
look_up-requires g c = subst IsSilent (sym c.next_text.ensures) (next_query c.args.table c.args.start).silent

pub returns : goal.returns
returns g c =
    asks_rows (λ trees. ShowsFirst (λ id other. id ≤ℤ other) (λ id. Owns (tree_of c.args.table) trees id × (c.args.start ≤ℤ id))) (refused (next_query c.args.table c.args.start)) _ _ c.look_up.result
    (λ rows store shown. shows_next c.args.table _ store c.args.start _ rows shown)
    (looks_up_as c.look_up.ensures c.next_text.ensures (number_bound c.ranges.start refl c.params-to_sql.ensures none_bound))
