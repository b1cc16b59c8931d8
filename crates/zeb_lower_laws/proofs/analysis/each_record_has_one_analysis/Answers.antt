use Rattle.zeb_lower_laws.proofs.Accepted.{is_whole}
use Rattle.zeb_lower_laws.proofs.analysis.each_record_has_one_analysis.Goals as goal

pub returns : goal.returns
returns c = is_whole
