use Rattle.zeb_laws.proofs.Cited.{steps_once}
use Rattle.zeb_laws.proofs.definition_laws.a_command_has_one_answer.Goals as goal

pub returns : goal.returns
returns c = steps_once
