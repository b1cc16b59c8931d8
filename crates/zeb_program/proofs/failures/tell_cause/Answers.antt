use Rattle.zeb_program.proofs.Cited.{cause_lines, subst, sym, Sent}
use Rattle.zeb_program.proofs.SinkLemmas.{sent_none}
use Rattle.zeb_program.proofs.failures.tell_cause.Goals as goal

pub returns-in-Some : goal.returns-in-Some
returns-in-Some g c = subst (λ it. Sent c.args.output.now c.write_cause.new.output (cause_lines it)) (sym c.in-Some.is) c.write_cause.ensures

pub returns-in-None : goal.returns-in-None
returns-in-None g c = subst (λ it. Sent c.args.output.now c.args.output.now (cause_lines it)) (sym c.in-None.is) (sent_none c.args.output.now)
