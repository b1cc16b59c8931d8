use Rattle.zeb_program.proofs.Cited.{refl, codes, conditions, telling_of}
use Rattle.zeb_program.proofs.MemoryLemmas.{always_clean}
use Rattle.zeb_program.proofs.ScriptAnswerLemmas.{opened_batch, refused_opening}
use Rattle.zeb_program.proofs.SinkLemmas.{sends_so}
use Rattle.zeb_program.proofs.batch.run_in_memory.Goals as goal

pub returns-in-Ok : goal.returns-in-Ok
returns-in-Ok g c =
    let session = c.in-Ok.session in
    let last = c.run_lines.new.session.connection in
    sends_so c.args.output.now c.run_lines.new.output _ _
    (λ bytes lines. opened_batch (telling_of g.P.Paths c.args.paths.now) (conditions (codes "2") session.profile session.limits) c.args.profile session.connection last c.args.batch.lines_before c.args.batch.text.now bytes
    c.in-Ok.ensures.under c.in-Ok.ensures.empty c.run_lines.result (lines (always_clean (λ _. refl) last))) c.run_lines.ensures.lines

pub returns-in-Err : goal.returns-in-Err
returns-in-Err g c =
    sends_so c.args.output.now c.refuse.new.output _ _
    (λ bytes said. refused_opening (telling_of g.P.Paths c.args.paths.now) c.args.profile c.args.batch.lines_before c.args.batch.text.now bytes c.in-Err.refusal c.refuse.result c.in-Err.ensures.failed said) c.refuse.ensures.told
