use Rattle.zeb_program.proofs.Cited.{cause_line, unreadable_line}
use Rattle.zeb_program.specs.declared.failures.Cause.TheVariants.{Input}
use Rattle.zeb_program.proofs.SinkLemmas.{sent_then}
use Rattle.zeb_program.proofs.failures.tell_unread.Goals as goal

pub returns : goal.returns
returns g c = sent_then c.args.output.now c.write_line.new.self c.write_cause.new.output unreadable_line (cause_line (Input c.args.cause)) c.write_line.ensures.sent c.write_cause.ensures
