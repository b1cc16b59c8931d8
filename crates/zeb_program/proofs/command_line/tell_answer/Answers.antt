use Rattle.zeb_program.proofs.Cited.{closing_lines, option_map, string_bytes, subst, Sent, warning_bytes}
use Rattle.zeb_program.proofs.SinkLemmas.{sent_then}
use Rattle.zeb_program.proofs.command_line.tell_answer.Goals as goal

pub returns-clause-text : goal.returns-clause-text
returns-clause-text g c = subst (Sent c.args.output.now c.write.new.self) c.as_slice.ensures.value c.write.ensures.sent

pub returns-clause-told : goal.returns-clause-told
returns-clause-told g c =
    sent_then c.args.fault_output.now c.warn.new.fault_output c.tell_closed.new.output (warning_bytes (option_map string_bytes c.args.told.now.warning)) (closing_lines c.args.closed) c.warn.ensures c.tell_closed.ensures.told
