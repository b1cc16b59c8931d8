use Rattle.zeb_laws.proofs.Cited.{length, index_names}
use Rattle.zeb_laws.proofs.TargetLists.{below_rises, in_below}
use Rattle.zeb_laws.proofs.definition_laws.a_stat_counts_each_register_once.Goals as goal

pub returns-clause-listed : goal.returns-clause-listed
returns-clause-listed c profile = in_below profile (length (index_names profile))

pub returns-clause-rising : goal.returns-clause-rising
returns-clause-rising c profile = below_rises profile (length (index_names profile))
