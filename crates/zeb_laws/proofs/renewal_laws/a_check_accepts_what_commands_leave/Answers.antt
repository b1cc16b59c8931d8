use Rattle.zeb_laws.proofs.CheckFollows.{check_follows}
use Rattle.zeb_laws.proofs.renewal_laws.a_check_accepts_what_commands_leave.Goals as goal

pub returns : goal.returns
returns c k command before later answer asks step accepts = check_follows k before later answer accepts command asks step
