use Rattle.zeb_words.proofs.Cited.{rules, ◌≡◌, ◌∙◌, ap₂, false, IfOk-weaker, rule_of, with_rule, name_rule}
use Rattle.zeb_words.proofs.program.naming.Goals as goal

pub returns-clause-app : goal.returns-clause-app
returns-clause-app c =
    let is : rule_of c.help-database.result ≡ name_rule = search rules in
    let local : c.help-database.result.global ≡ false = search rules in
    IfOk-weaker c.arg.result _ _ (λ command h. h.shape local ∙ ap₂ with_rule c.plain.ensures.app is) c.arg.ensures
