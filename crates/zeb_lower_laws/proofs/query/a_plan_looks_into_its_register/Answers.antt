use Rattle.zeb_lower_laws.proofs.LookLemmas.{plan_looks}
use Rattle.zeb_lower_laws.proofs.query.a_plan_looks_into_its_register.Goals as goal

pub returns : goal.returns
returns c = plan_looks
