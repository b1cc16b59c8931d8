use Rattle.zeb_register.proofs.AsksInTurn.{asks_handed, asks_so, asks_then}
use Rattle.zeb_register.proofs.YesNoAnswers.{both_so, no_so}
use Rattle.zeb_register.proofs.packed_agreeing.keys_alone.Goals as goal

pub returns-in_err-table_agrees : goal.returns-in_err-table_agrees
returns-in_err-table_agrees g c = asks_handed _ _ _ c.from_residual.result _ _ c.in_err-table_agrees.ensures c.from_residual.ensures.1

pub returns-then-not-branch : goal.returns-then-not-branch
returns-then-not-branch g c = asks_so _ _ _ _ _ _ c.in_ok-table_agrees.ensures (λ store one order. no_so _ _ _ c.if-not-branch.true (one order))

pub returns : goal.returns
returns g c = asks_then _ _ _ _ c.belongs.result _ _ _ c.in_ok-table_agrees.ensures c.belongs.ensures (λ store one answer two order. both_so _ _ _ answer c.if-not-branch.false (one order) two)
