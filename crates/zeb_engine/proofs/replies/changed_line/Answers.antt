use Rattle.zeb_engine.proofs.Cited.{rules, append_assoc}
use Rattle.zeb_engine.proofs.replies.changed_line.Goals as goal

pub returns : goal.returns
returns c = simp append_assoc (search rules)
