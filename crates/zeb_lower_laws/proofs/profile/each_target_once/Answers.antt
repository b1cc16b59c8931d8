use Rattle.zeb_profile.proofs.TargetsOnce.{each_target_once}
use Rattle.zeb_lower_laws.proofs.profile.each_target_once.Goals as goal

pub returns : goal.returns
returns c = each_target_once
