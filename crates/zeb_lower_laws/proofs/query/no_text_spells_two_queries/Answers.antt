use Rattle.zeb_query.proofs.TextFaults.{one_query}
use Rattle.zeb_lower_laws.proofs.query.no_text_spells_two_queries.Goals as goal

pub returns : goal.returns
returns c = one_query
