use Rattle.zeb_register.proofs.Cited.{◌≤ℤ◌, sym, subst, Owns, tree_of, ShowsFirst}
use Rattle.zeb_register.proofs.AsksInTurn.{asks_rows}
use Rattle.zeb_register.proofs.Calls.{IsSilent}
use Rattle.zeb_register.proofs.OwnerStatements.{shows_greatest, greatest_query}
use Rattle.zeb_register.proofs.Refusals.{refused}
use Rattle.zeb_register.proofs.statements.owners.greatest_rows.Goals as goal

pub look_up-requires : goal.look_up-requires
look_up-requires g c = subst IsSilent (sym c.greatest_text.ensures) (greatest_query c.args.table).silent

pub returns : goal.returns
returns g c =
    asks_rows (λ trees. ShowsFirst (λ id other. other ≤ℤ id) (Owns (tree_of c.args.table) trees)) (refused (greatest_query c.args.table)) _ _ c.look_up.result
    (λ rows store shown. shows_greatest c.args.table _ store _ rows shown)
    (simp (c.greatest_text.ensures) at c.look_up.ensures)
