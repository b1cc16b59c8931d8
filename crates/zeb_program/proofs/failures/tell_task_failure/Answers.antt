use Rattle.zeb_program.proofs.Cited.{string_bytes}
use Rattle.zeb_program.proofs.FailureLemmas.{placed_lines}
use Rattle.zeb_program.proofs.failures.tell_task_failure.Goals as goal

pub returns-clause-told : goal.returns-clause-told
returns-clause-told g c =
    placed_lines c.args.output.now c.tell_failure.new.output c.tell_register.new.output (g.P.Paths.tells c.args.paths.now (string_bytes c.args.config)) c.args.config c.args.failure.now.fault c.in_ok-status.status
    c.args.failure.now.cause c.in_ok-register.register c.in_ok-register.ensures c.in_ok-status.ensures.told c.tell_register.ensures
