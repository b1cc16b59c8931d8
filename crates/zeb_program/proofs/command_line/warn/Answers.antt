use Rattle.zeb_program.proofs.WordAnswerLemmas.{warned_never, warned_once}
use Rattle.zeb_program.proofs.command_line.warn.Goals as goal

pub returns-in-Some : goal.returns-in-Some
returns-in-Some g c = warned_once c.args.fault_output.now c.write.new.self c.args.warning.now c.in-Some.line c.as_bytes.result.now c.in-Some.is c.as_bytes.ensures.value c.write.ensures.sent

pub returns-in-None : goal.returns-in-None
returns-in-None g c = warned_never c.args.fault_output.now c.args.warning.now c.in-None.is
