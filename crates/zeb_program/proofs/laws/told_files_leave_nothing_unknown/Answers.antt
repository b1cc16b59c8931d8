use Rattle.zeb_program.proofs.RunLemmas.{told_is_known}
use Rattle.zeb_program.proofs.laws.told_files_leave_nothing_unknown.Goals as goal

pub returns : goal.returns
returns c = told_is_known
