use Rattle.zeb_register.proofs.Cited.{Ok, Err}
use Rattle.zeb_register.proofs.AsksInTurn.{asks_handed, asks_rows, asks_so}
use Rattle.zeb_register.proofs.Refusals.{refused}
use Rattle.zeb_register.proofs.TermStatements.{nothing_query}
use Rattle.zeb_register.proofs.statements.postings.nothing_of.Goals as goal

pub look_up-requires : goal.look_up-requires
look_up-requires g c = nothing_query.silent

pub returns : goal.returns
returns g c = asks_so _ _ _ _ _ _ (asks_rows (λ _ _. Unit {0}) (refused nothing_query) _ _ (Ok _) (λ rows store shown. tt) c.in_ok-look_up.ensures) (λ store read. tt)

pub returns-in_err-look_up : goal.returns-in_err-look_up
returns-in_err-look_up g c =
    asks_handed _ _ _ c.from_residual.result _ _ (asks_rows (λ _ _. Unit {0}) (refused nothing_query) _ _ (Err _) (λ rows store shown. tt) c.in_err-look_up.ensures) c.from_residual.ensures.1
