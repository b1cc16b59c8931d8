use Rattle.zeb_program.proofs.Cited.{[], refl, codes, conditions, telling_of}
use Rattle.zeb_program.proofs.MemoryLemmas.{always_clean}
use Rattle.zeb_program.proofs.SinkLemmas.{sent_none}
use Rattle.zeb_program.proofs.WordRunLemmas.{ran_on_nothing, refused_on_nothing}
use Rattle.zeb_program.proofs.batch.run_on_nothing.Goals as goal

pub returns-in-Ok : goal.returns-in-Ok
returns-in-Ok g c =
    let session = c.in-Ok.session in
    let last = c.run_lines.new.session.connection in
    let lines = c.run_lines.ensures.lines in (
      lines.0,
      [],
      ran_on_nothing (telling_of g.P.Paths c.args.paths.now) c.args.profile c.args.batch.lines_before c.args.batch.text.now lines.0 (conditions (codes "2") session.profile session.limits) session.connection last
          c.run_lines.result c.in-Ok.ensures.under c.in-Ok.ensures.empty (lines.1 (always_clean (λ _. refl) last)),
      lines.2,
      sent_none c.args.fault_output.now,
    )

pub returns-in-Err : goal.returns-in-Err
returns-in-Err g c =
    let told = c.tell_failure.ensures.told in (
      [],
      told.0,
      refused_on_nothing (telling_of g.P.Paths c.args.paths.now) c.args.profile c.args.batch.lines_before c.args.batch.text.now told.0 c.in-Err.refusal c.from.result c.tell_failure.result c.in-Err.ensures.failed c.from.ensures told.1,
      sent_none c.args.output.now,
      told.2,
    )
