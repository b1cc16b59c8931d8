use Rattle.zeb_register.proofs.Cited.{state, ◌∙◌, sym, KeepsExpectedTexts}
use Rattle.zeb_register.proofs.AsksInTurn.{asks_handed, asks_so}
use Rattle.zeb_register.proofs.ExpectedLists.{texts_rows, texts_there}
use Rattle.zeb_register.proofs.YesNoAnswers.{told}
use Rattle.zeb_register.proofs.agreeing.texts_agree.Goals as goal

pub returns-in_err-rows : goal.returns-in_err-rows
returns-in_err-rows g c = asks_handed _ _ _ c.from_residual.result _ _ c.in_err-rows.ensures c.from_residual.ensures.1

pub returns : goal.returns
returns g c =
    let s = state g.S.Store c.args.conn.now in
    let rows = c.in_ok-rows.rows.items in
    asks_so _ _ _ c.are_texts.result _ _ c.in_ok-rows.ensures (λ store are.
    told (KeepsExpectedTexts s.now.trees c.args.expected.now) c.are_texts.result
    (λ yes'. texts_there s c.args.expected.now store rows are (sym c.deref.ensures.value ∙ c.are_texts.ensures.same yes'))
    (λ no' has. c.are_texts.ensures.other no' (c.deref.ensures.value ∙ texts_rows s c.args.expected.now store rows are has)))
