use Rattle.zeb_lower_laws.proofs.EveryAnalysis.{occurrences_of}
use Rattle.zeb_lower_laws.proofs.extract.occurrences_have_a_list.Goals as goal

pub returns : goal.returns
returns c = λ profile units. let all = occurrences_of profile units in (all.list, all.rises, all.each)
