use Rattle.zeb_program.proofs.Cited.{subst, Sent, usage_line}
use Rattle.zeb_program.proofs.SinkLemmas.{sent_then}
use Rattle.zeb_program.proofs.command_line.misuse.Goals as goal

pub returns-clause-lines : goal.returns-clause-lines
returns-clause-lines g c =
    sent_then c.args.fault_output.now c.write_line.new.self c.write.new.self usage_line c.args.text.now c.write_line.ensures.sent (subst (Sent c.write_line.new.self c.write.new.self) c.as_bytes.ensures.value c.write.ensures.sent)
