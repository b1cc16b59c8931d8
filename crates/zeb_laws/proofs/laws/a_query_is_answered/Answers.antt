use Rattle.zeb_laws.proofs.WorkedAnswers.{joined}
use Rattle.zeb_laws.proofs.WorkedQuery.{asked}
use Rattle.zeb_laws.proofs.laws.a_query_is_answered.Goals as goal

pub returns-clause-joined : goal.returns-clause-joined
returns-clause-joined c = joined

pub returns-clause-asked : goal.returns-clause-asked
returns-clause-asked c version limits command by answer later = asked version limits answer later command by
