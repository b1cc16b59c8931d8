use Rattle.zeb_program.proofs.FailureLemmas.{failure_lines}
use Rattle.zeb_program.proofs.failures.tell_failure.Goals as goal

pub returns-clause-told : goal.returns-clause-told
returns-clause-told g c =
    failure_lines c.args.output.now c.tell.new.output c.tell_cause.new.output c.args.failure.now.fault c.in_ok-status.status c.args.failure.now.cause c.in_ok-status.ensures.told c.args.failure.now.fits c.tell_cause.ensures
