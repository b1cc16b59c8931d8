use Rattle.zeb_engine.proofs.Cited.{◌≡◌, ap, ◌∙◌, rules, decimal, shown_number}
use Rattle.zeb_engine.proofs.ShownTerms.{shown_key, shown_other}
use Rattle.zeb_engine.proofs.replies.number_text.Goals as goal

pub returns-in-Some : goal.returns-in-Some
returns-in-Some c =
    let is : shown_number c.args.term.now ≡ decimal c.in-Some.number = ap shown_number c.in-Some.ensures.found.1 ∙ shown_key c.in-Some.number c.in-Some.ensures.found.0 in
    rw is (search rules)

pub returns-in-None : goal.returns-in-None
returns-in-None c =
    let is : shown_number c.args.term.now ≡ c.args.term.now = shown_other c.args.term.now c.in-None.ensures.none in
    rw is (search rules)
