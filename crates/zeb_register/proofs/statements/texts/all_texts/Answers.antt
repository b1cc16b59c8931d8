use Rattle.zeb_register.proofs.Cited.{HasRow, meta_tree}
use Rattle.zeb_register.proofs.AsksInTurn.{asks_list}
use Rattle.zeb_register.proofs.ExpectedStatements.{lists_texts, texts_query}
use Rattle.zeb_register.proofs.Refusals.{refused}
use Rattle.zeb_register.proofs.statements.texts.all_texts.Goals as goal

pub look_up-requires : goal.look_up-requires
look_up-requires g c = texts_query.silent

pub returns : goal.returns
returns g c =
    asks_list (λ trees. HasRow trees meta_tree) (refused texts_query) _ _ c.look_up.result
    (λ rows store shown. lists_texts _ _ rows store shown)
    c.look_up.ensures
