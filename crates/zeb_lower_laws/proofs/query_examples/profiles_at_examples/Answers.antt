use Rattle.zeb_query.proofs.Cited.{refl}
use Rattle.zeb_lower_laws.proofs.query_examples.profiles_at_examples.Goals as goal

pub returns-clause-sample : goal.returns-clause-sample
returns-clause-sample c = refl

pub returns-clause-titles : goal.returns-clause-titles
returns-clause-titles c = refl
