use Rattle.zeb_engine.proofs.Cited.{rules, append_assoc}
use Rattle.zeb_engine.proofs.refusals.diagnostic_head.Goals as goal

pub returns : goal.returns
returns c = simp append_assoc (search rules)
