use Rattle.zeb_register.proofs.Cited.{◌≤ℤ◌, sym, subst, Owns, tree_of, ShowsFirst}
use Rattle.zeb_register.proofs.AsksInTurn.{asks_rows}
use Rattle.zeb_register.proofs.Calls.{IsSilent}
use Rattle.zeb_register.proofs.OwnerStatements.{shows_least, least_query}
use Rattle.zeb_register.proofs.Refusals.{refused}
use Rattle.zeb_register.proofs.statements.owners.least_rows.Goals as goal

pub look_up-requires : goal.look_up-requires
look_up-requires g c = subst IsSilent (sym c.least_text.ensures) (least_query c.args.table).silent

pub returns : goal.returns
returns g c =
    asks_rows (λ trees. ShowsFirst (λ id other. id ≤ℤ other) (Owns (tree_of c.args.table) trees)) (refused (least_query c.args.table)) _ _ c.look_up.result
    (λ rows store shown. shows_least c.args.table _ store _ rows shown)
    (simp (c.least_text.ensures) at c.look_up.ensures)
