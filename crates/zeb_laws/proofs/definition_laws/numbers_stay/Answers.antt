use Rattle.zeb_laws.proofs.FoldRecords.{all_stay, all_come}
use Rattle.zeb_laws.proofs.definition_laws.numbers_stay.Goals as goal

pub returns-clause-elders : goal.returns-clause-elders
returns-clause-elders c = all_stay

pub returns-clause-others : goal.returns-clause-others
returns-clause-others c = all_come
