use Rattle.zeb_words.proofs.Cited.{◌∙◌, ap₂, IfOk-weaker, with_rule}
use Rattle.zeb_words.proofs.program.founding.Goals as goal

pub returns-clause-app : goal.returns-clause-app
returns-clause-app c =
    IfOk-weaker c.arg.result _ _ (λ command h. h.shape c.leaves.ensures.local ∙ ap₂ with_rule c.plain.ensures.app c.leaves.ensures.rule) c.arg.ensures
