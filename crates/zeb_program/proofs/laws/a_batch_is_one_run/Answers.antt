use Rattle.zeb_program.proofs.RunLemmas.{batch_is_one_run}
use Rattle.zeb_program.proofs.laws.a_batch_is_one_run.Goals as goal

pub returns : goal.returns
returns c = batch_is_one_run
