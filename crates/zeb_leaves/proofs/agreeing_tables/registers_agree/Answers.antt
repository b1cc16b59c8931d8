use Rattle.zeb_register.proofs.AsksInTurn.{asks_handed, asks_so, asks_then}
use Rattle.zeb_register.proofs.YesNoAnswers.{both_so, no_so}
use Rattle.zeb_leaves.proofs.agreeing_tables.registers_agree.Goals as goal

pub returns-in_err-postings_and_dict_lack_rows : goal.returns-in_err-postings_and_dict_lack_rows
returns-in_err-postings_and_dict_lack_rows g c = asks_handed _ _ _ c.from_residual.result _ _ c.in_err-postings_and_dict_lack_rows.ensures c.from_residual.ensures.1

pub returns-then-not-branch : goal.returns-then-not-branch
returns-then-not-branch g c = asks_so _ _ _ _ _ _ c.in_ok-postings_and_dict_lack_rows.ensures (λ store lacks up. no_so _ _ _ c.if-not-branch.true lacks)

pub returns : goal.returns
returns g c = asks_then _ _ _ _ c.ids_agree.result _ _ _ c.in_ok-postings_and_dict_lack_rows.ensures c.ids_agree.ensures (λ store lacks answer ids up. both_so _ _ _ answer c.if-not-branch.false lacks (ids up))
