use Rattle.zeb_laws.proofs.EveryAnswer.{step_there}
use Rattle.zeb_laws.proofs.definition_laws.a_command_has_an_answer.Goals as goal

pub returns : goal.returns
returns c = step_there
