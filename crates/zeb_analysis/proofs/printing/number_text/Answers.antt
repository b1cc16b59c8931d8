use Rattle.zeb_analysis.proofs.Cited.{◌≡◌, ap, ◌∙◌, rules, decimal, printed_number}
use Rattle.zeb_analysis.proofs.PrintedNumbers.{printed_key, printed_other}
use Rattle.zeb_analysis.proofs.printing.number_text.Goals as goal

pub returns-in-Some : goal.returns-in-Some
returns-in-Some c =
    let is : printed_number c.args.term.now ≡ decimal c.in-Some.number = ap printed_number c.in-Some.ensures.found.1 ∙ printed_key c.in-Some.number c.in-Some.ensures.found.0 in
    rw is (search rules)

pub returns-in-None : goal.returns-in-None
returns-in-None c =
    let is : printed_number c.args.term.now ≡ c.args.term.now = printed_other c.args.term.now c.in-None.ensures.none in
    rw is (search rules)
