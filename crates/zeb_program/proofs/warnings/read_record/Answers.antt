use Rattle.zeb_program.proofs.Cited.{refl, ◌∙◌, sym}
use Rattle.zeb_program.proofs.WarningLemmas.{none_at_end, none_at_fault, record_is_long, record_there, told_record}
use Rattle.zeb_program.proofs.warnings.read_record.Goals as goal

pub returns-in-Ok-clause-none : goal.returns-in-Ok-clause-none
returns-in-Ok-clause-none c = λ no. none_at_end c.args.left.now _ c.in-Ok.found _ _ refl (sym c.is_some.ensures ∙ no) (c.in-Ok.ensures.told _ refl refl)

pub returns-in-Ok-clause-one : goal.returns-in-Ok-clause-one
returns-in-Ok-clause-one c = λ yes. record_there _ _ _ (told_record _ c.in-Ok.found _ _ (sym c.is_some.ensures ∙ yes) (c.in-Ok.ensures.told _ refl refl))

pub returns-in-Ok-clause-shorter : goal.returns-in-Ok-clause-shorter
returns-in-Ok-clause-shorter c = λ yes. record_is_long _ _ _ (told_record _ c.in-Ok.found _ _ (sym c.is_some.ensures ∙ yes) (c.in-Ok.ensures.told _ refl refl))

pub returns-in-Err-clause-none : goal.returns-in-Err-clause-none
returns-in-Err-clause-none c = λ _. none_at_fault c.args.left.now _ c.in-Err.field-0 _ _ refl (c.in-Err.ensures.told _ refl refl)
