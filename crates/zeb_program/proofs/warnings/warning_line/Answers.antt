use Rattle.zeb_program.proofs.Cited.{rules, append_assoc}
use Rattle.zeb_program.proofs.warnings.warning_line.Goals as goal

pub returns : goal.returns
returns c = simp append_assoc (search rules)
