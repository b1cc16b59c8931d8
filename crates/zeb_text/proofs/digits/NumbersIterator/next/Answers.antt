use Rattle.zeb_text.proofs.Cited.{◌≡◌, ◌∷◌, length, ap, ◌∙◌, sym, rules, numbers_of}
use Rattle.zeb_text.proofs.DigitLemmas.{numbers_of-short, numbers_of-long, numbers_of-none}
use Rattle.zeb_text.proofs.digits.NumbersIterator.next.Goals as goal
use Rattle.zeb_text.proofs.digits.NumbersIterator.next.Goals.{After-value_of}

kept : (c : After-value_of) → numbers_of c.args.self.now.rest.now ≡ c.value_of.result ∷ numbers_of c.in-Some.rest.now
kept c =
    sym c.loop-digits.invariant
    ∙ numbers_of-short c.loop-digits.self.rest.now c.in-Some.digits.now c.in-Some.rest.now c.in-Some.ensures.found c.if-digits-le-KEY_DIGITS.true
    ∙ ap (λ value. value ∷ numbers_of c.in-Some.rest.now) (sym c.value_of.ensures)

pub returns-then-digits-le-KEY_DIGITS-clause-steps : goal.returns-then-digits-le-KEY_DIGITS-clause-steps
returns-then-digits-le-KEY_DIGITS-clause-steps c = kept c

pub returns-then-digits-le-KEY_DIGITS-clause-goes : goal.returns-then-digits-le-KEY_DIGITS-clause-goes
returns-then-digits-le-KEY_DIGITS-clause-goes c = let shorter = ap length (kept c) in search rules

pub loop-digits-preserved : goal.loop-digits-preserved
loop-digits-preserved c =
    sym (numbers_of-long c.loop-digits.self.rest.now c.in-Some.digits.now c.in-Some.rest.now c.in-Some.ensures.found c.if-digits-le-KEY_DIGITS.false)
    ∙ c.loop-digits.invariant

pub returns-clause-steps : goal.returns-clause-steps
returns-clause-steps c =
    let none = numbers_of-none c.loop-digits.self.rest.now c.in_default.ensures.none in
    (sym c.loop-digits.invariant ∙ none, none)
