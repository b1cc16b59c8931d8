use Rattle.zeb_analysis.proofs.ToldOnce.{told_once}
use Rattle.zeb_lower_laws.proofs.EveryAnalysis.{analyses_there}
use Rattle.zeb_lower_laws.proofs.analysis.an_analysis_is_told_once.Goals as goal

pub returns-clause-some : goal.returns-clause-some
returns-clause-some c = analyses_there

pub returns-clause-once : goal.returns-clause-once
returns-clause-once c = told_once
