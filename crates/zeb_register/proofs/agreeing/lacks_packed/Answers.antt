use Rattle.zeb_register.proofs.AsksInTurn.{asks_handed, asks_so, asks_then}
use Rattle.zeb_register.proofs.YesNoAnswers.{both_so, no_so}
use Rattle.zeb_register.proofs.agreeing.lacks_packed.Goals as goal

pub returns-in_err-belongs : goal.returns-in_err-belongs
returns-in_err-belongs g c = asks_handed _ _ _ c.from_residual.result _ _ c.in_err-belongs.ensures c.from_residual.ensures.1

pub returns-then-not-branch : goal.returns-then-not-branch
returns-then-not-branch g c = asks_so _ _ _ _ _ _ c.in_ok-belongs.ensures (λ store one. no_so _ _ _ c.if-not-branch.true one)

pub returns : goal.returns
returns g c = asks_then _ _ _ _ c.belongs-2.result _ _ _ c.in_ok-belongs.ensures c.belongs-2.ensures (λ store one answer two. both_so _ _ _ answer c.if-not-branch.false one two)
