use Rattle.zeb_program.proofs.Cited.{sym, ◌∙◌, ap, result_ok}
use Rattle.zeb_program.proofs.NumberLemmas.{parsed, number_is}
use Rattle.zeb_program.proofs.numbers.number_of.Goals as goal

pub returns-then-is_number : goal.returns-then-is_number
returns-then-is_number c =
    let is = sym c.if-is_number.ensures in
    c.ok.ensures.value ∙ ap result_ok (parsed c.args.text.now c.parse.result is c.parse.ensures.value.0) ∙ number_is c.args.text.now is
