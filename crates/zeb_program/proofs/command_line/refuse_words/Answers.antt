use Rattle.zeb_program.proofs.Cited.{[], ◌++◌, refl, subst, sym, misuse_line, starved_line, usage_line, Failed}
use Rattle.zeb_program.specs.WordAnswers.{TellsUsage}
use Rattle.zeb_program.proofs.SinkLemmas.{sent_none}
use Rattle.zeb_program.proofs.command_line.refuse_words.Goals as goal

pub returns-in-BadUsage : goal.returns-in-BadUsage
returns-in-BadUsage g c =
    let lines = usage_line ++ misuse_line c.in-BadUsage.why in
    ([], lines, subst (λ it. TellsUsage it [] lines c.explain_misuse.result) (sym c.in-BadUsage.is) (c.explain_misuse.ensures.status, refl, refl), sent_none c.args.output.now, c.explain_misuse.ensures.lines)

pub returns-in-Memory : goal.returns-in-Memory
returns-in-Memory g c = ([], starved_line, subst (λ it. TellsUsage it [] starved_line Failed) (sym c.in-Memory.is) (refl, refl, refl), sent_none c.args.output.now, c.write_line.ensures.sent)
