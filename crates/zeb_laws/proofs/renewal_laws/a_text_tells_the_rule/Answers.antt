use Rattle.zeb_laws.proofs.Cited.{rules_told}
use Rattle.zeb_laws.proofs.renewal_laws.a_text_tells_the_rule.Goals as goal

pub returns : goal.returns
returns c one other is_one is_other = rules_told one other is_one is_other
