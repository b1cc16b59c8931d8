use Rattle.zeb_analysis.proofs.Cited.{rules, append_assoc}
use Rattle.zeb_analysis.proofs.printing.occurrence_text.Goals as goal

pub returns : goal.returns
returns c = simp append_assoc (search rules)
