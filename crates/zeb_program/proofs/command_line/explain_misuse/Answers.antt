use Rattle.zeb_program.proofs.Cited.{misuse_line, usage_line}
use Rattle.zeb_program.proofs.SinkLemmas.{sent_then}
use Rattle.zeb_program.proofs.command_line.explain_misuse.Goals as goal

pub returns-clause-lines : goal.returns-clause-lines
returns-clause-lines g c =
    sent_then c.args.fault_output.now c.write_line.new.self c.write_line-2.new.self usage_line (misuse_line c.args.why) c.write_line.ensures.sent c.write_line-2.ensures.sent
