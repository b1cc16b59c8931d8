use Rattle.zeb_query.proofs.Cited.{sym, ◌∙◌, ap, ◌<◌, ◌^◌, result_ok, digits_value}
use Rattle.zeb_query.proofs.DigitLemmas.{parsed, number_below, number_of-is, IfSome-is}
use Rattle.zeb_query.proofs.digits.number_within.Goals as goal

pub returns-then-is_number-clause-value : goal.returns-then-is_number-clause-value
returns-then-is_number-clause-value c =
    let is = sym c.if-is_number.ensures in
    let p = parsed c.args.most c.args.text.now c.parse.result c.requires is c.parse.ensures.value.0 in
    c.ok.ensures.value ∙ ap result_ok p ∙ number_of-is c.args.most c.args.text.now is

pub returns-then-is_number-clause-small : goal.returns-then-is_number-clause-small
returns-then-is_number-clause-small c =
    let is = sym c.if-is_number.ensures in
    let p = parsed c.args.most c.args.text.now c.parse.result c.requires is c.parse.ensures.value.0 in
    let b = number_below c.args.most c.args.text.now is in
    IfSome-is (λ number. number < 10 ^ c.args.most) c.ok.result (digits_value 10 c.args.text.now) (c.ok.ensures.value ∙ ap result_ok p) b
