use Rattle.zeb_lower_laws.proofs.FirstFault.{first_fault_is_answered}
use Rattle.zeb_lower_laws.proofs.profile.first_fault_is_answered.Goals as goal

pub returns : goal.returns
returns c = first_fault_is_answered
