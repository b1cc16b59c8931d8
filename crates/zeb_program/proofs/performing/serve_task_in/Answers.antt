use Rattle.zeb_program.proofs.Cited.{telling_of, ServesHeld, IsOwnOr}
use Rattle.zeb_program.proofs.WarningLemmas.{warns_of}
use Rattle.zeb_program.proofs.WordRunLemmas.{gives_for, served_held}
use Rattle.zeb_program.proofs.performing.serve_task_in.Goals as goal
use Rattle.zeb_engine.specs.Sessions.{conditions_in}

pub returns-clause-serves : goal.returns-clause-serves
returns-clause-serves g c =
    let store = g.P.Store.Store in
    let leaves = g.P.Paths.leaves c.args.paths.now in
    let tells = g.P.Paths.tells c.args.paths.now in
    let at = telling_of g.P.Paths c.args.paths.now in
    let task = c.args.task.now in
    let format = g.L.Layout.format in
    let k = conditions_in format c.args.session in
    let held = c.args.session.connection in
    let done = c.carry_out-served.ensures.done in
    let closed = c.close_register-closed.result in (
      gives_for c.told_of.result (λ answer. IsOwnOr answer done.0) (ServesHeld store leaves tells at format k task held closed)
          (λ answer. served_held store leaves at format k task held c.carry_out-served.new.session.connection closed done.0 answer c.carry_out-served.ensures.still.0 done.2 c.close_register-closed.ensures)
          (c.told_of.ensures.gives done.0 done.1),
      c.told_of.ensures.explains,
    )

pub returns-clause-warns : goal.returns-clause-warns
returns-clause-warns g c =
    let tells = g.P.Paths.tells c.args.paths.now in
    let at = telling_of g.P.Paths c.args.paths.now in
    warns_of tells at c.args.task.now c.carry_out-served.result c.told_of.result c.told_of.ensures.warns c.told_of.ensures.warned c.carry_out-served.ensures.unmarked c.carry_out-served.ensures.below
