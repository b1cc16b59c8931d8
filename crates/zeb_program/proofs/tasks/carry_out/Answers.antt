use Rattle.zeb_program.proofs.Cited.{state, refl, subst, sym, telling_of, ReadsWhole, paths_of}
use Rattle.zeb_program.proofs.OverLemmas.{analysed_task_over, asked_task_over, changed_task_over}
use Rattle.zeb_program.proofs.TaskLemmas.{analysis_reaches, asked_reaches, change_reaches}
use Rattle.zeb_program.proofs.WarningLemmas.{below_task, served_whole}
use Rattle.zeb_program.proofs.WordRunLemmas.{replied_reaches}
use Rattle.zeb_program.proofs.tasks.carry_out.Goals as goal
use Rattle.zeb_engine.specs.Sessions.{conditions_in}

pub returns-in-Ask-clause-done : goal.returns-in-Ask-clause-done
returns-in-Ask-clause-done g c =
    let at = telling_of g.P.Paths c.args.paths.now in
    let k = conditions_in g.L.Layout.format c.args.session.now in
    let old = state g.S.Store c.args.session.now.connection in
    let new = state g.S.Store c.ask.new.session.connection in (
      c.ask.result,
      c.to_serve.ensures.reply,
      record {
        over = λ clean. asked_task_over at g.L.Layout.format k c.args.task.now old new c.ask.result c.in-Ask.command c.in-Ask.is (c.ask.ensures.over clean) (c.ask.ensures.refused clean);
        reaches = asked_reaches at c.args.task.now c.in-Ask.command c.ask.result c.in-Ask.is c.ask.ensures.read;
      },
    )

pub returns-in-Change-clause-done : goal.returns-in-Change-clause-done
returns-in-Change-clause-done g c =
    let at = telling_of g.P.Paths c.args.paths.now in
    let k = conditions_in g.L.Layout.format c.args.session.now in
    let old = state g.S.Store c.args.session.now.connection in
    let new = state g.S.Store c.change_by_paths.new.session.connection in
    let own = c.change_by_paths.result in (
      own,
      c.to_serve-in-Change.ensures.reply,
      record {
        over = λ clean.
            changed_task_over at g.L.Layout.format k c.args.task.now old new own c.in-Change.kind c.in-Change.database c.in-Change.named c.deref.result.now
            c.in-Change.is c.deref.ensures.value (c.change_by_paths.ensures.changes clean);
        reaches = change_reaches at c.args.task.now c.in-Change.kind c.in-Change.database c.in-Change.named c.deref.result.now c.change_by_paths.result c.in-Change.is c.deref.ensures.value c.change_by_paths.ensures.reaches;
      },
    )

pub returns-in-Analyse-clause-done : goal.returns-in-Analyse-clause-done
returns-in-Analyse-clause-done g c =
    let at = telling_of g.P.Paths c.args.paths.now in
    let k = conditions_in g.L.Layout.format c.args.session.now in
    let held = state g.S.Store c.args.session.now.connection in
    let done = c.analyse_paths.ensures.over in (
      done.0,
      done.1,
      record {
        over = λ clean.
            analysed_task_over at g.L.Layout.format k c.args.task.now held held done.0 c.in-Analyse.named c.deref-in-Analyse.result.now c.in-Analyse.is c.deref-in-Analyse.ensures.value done.2 refl;
        reaches = replied_reaches at (ReadsWhole c.args.task.now) (paths_of c.args.task.now) c.analyse_paths.result done.0 done.1 (analysis_reaches at c.args.task.now c.in-Analyse.named c.deref-in-Analyse.result.now c.analyse_paths.result c.in-Analyse.is c.deref-in-Analyse.ensures.value c.analyse_paths.ensures.reaches);
      },
    )

pub returns-in-Ask-clause-shown : goal.returns-in-Ask-clause-shown
returns-in-Ask-clause-shown g c = c.to_serve.ensures.shown c.args.task.now

pub returns-in-Change-clause-shown : goal.returns-in-Change-clause-shown
returns-in-Change-clause-shown g c = c.to_serve-in-Change.ensures.shown c.args.task.now

pub returns-in-Analyse-clause-shown : goal.returns-in-Analyse-clause-shown
returns-in-Analyse-clause-shown g c = served_whole c.args.task.now c.analyse_paths.result (subst ReadsWhole (sym c.in-Analyse.is) tt)

-- only an analysis reads files whole
pub returns-in-Ask-clause-below : goal.returns-in-Ask-clause-below
returns-in-Ask-clause-below g c = λ reads. absurd (subst ReadsWhole c.in-Ask.is reads)

pub returns-in-Change-clause-below : goal.returns-in-Change-clause-below
returns-in-Change-clause-below g c = λ reads. absurd (subst ReadsWhole c.in-Change.is reads)

pub returns-in-Analyse-clause-below : goal.returns-in-Analyse-clause-below
returns-in-Analyse-clause-below g c = λ reads.
    let at = telling_of g.P.Paths c.args.paths.now in
    below_task at c.args.task.now c.in-Analyse.named c.deref-in-Analyse.result.now c.analyse_paths.result c.in-Analyse.is c.deref-in-Analyse.ensures.value c.analyse_paths.ensures.below
