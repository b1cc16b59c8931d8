use Rattle.zeb_analysis.proofs.Cited.{standing_in_all}
use Rattle.zeb_analysis.proofs.FirstRefusals.{first_counts}
use Rattle.zeb_lower_laws.proofs.EveryAnalysis.{refusal_there}
use Rattle.zeb_lower_laws.proofs.analysis.the_first_refusal_counts.Goals as goal

pub returns-clause-some : goal.returns-clause-some
returns-clause-some c = refusal_there

pub returns-clause-first : goal.returns-clause-first
returns-clause-first c = λ profile limit texts fault. first_counts profile limit (standing_in_all 1 texts) fault
