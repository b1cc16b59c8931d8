use Rattle.zeb_change.proofs.Cited.{◌≡◌, ◌∙◌, ◌∷◌, ℕ, ap, sym, subst, arith, TakesNumber}
use Rattle.zeb_change.proofs.NoteWords.{takes_narrow, takes_nothing, takes_wide}
use Rattle.zeb_change.proofs.words.take_number.Goals as goal

pub returns-in_default : goal.returns-in_default
returns-in_default c = takes_nothing c.args.words.now 0 c.args.words.now c.in_default.ensures.cases

pub returns-then-first : goal.returns-then-first
returns-then-first c =
    let are : c.args.words.now ≡ 65535 ∷ c.in-Some.rest.now = c.in-Some.ensures.cases.0 ∙ ap (λ (word : ℕ). word ∷ c.in-Some.rest.now) (omega (arith, c.if-first.true)) in
    takes_wide c.args.words.now c.in-Some.rest.now c.take_wide.result.0 c.take_wide.result.1.now are c.take_wide.ensures

pub returns : goal.returns
returns c =
    subst (λ (n : ℕ). TakesNumber c.args.words.now n c.in-Some.rest.now) (sym c.from.ensures)
    (takes_narrow c.in-Some.first.now c.args.words.now c.in-Some.rest.now c.in-Some.ensures.cases.0 (λ same. absurd (omega (arith, same, c.if-first.false))))
