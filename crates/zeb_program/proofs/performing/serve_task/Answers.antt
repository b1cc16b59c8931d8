use Rattle.zeb_program.proofs.Cited.{telling_of, ExplainsFailure, GivesClosed, ServesHeld, paths_of}
use Rattle.zeb_program.proofs.LayoutLemmas.{in_blocks, in_leaves}
use Rattle.zeb_program.proofs.performing.serve_task.Goals as goal

pub returns-in-Blocks-clause-serves : goal.returns-in-Blocks-clause-serves
returns-in-Blocks-clause-serves g c =
    let tells = g.P.Paths.tells c.args.paths.now in
    let at = telling_of g.P.Paths c.args.paths.now in
    let session = c.args.register.0 in
    in_blocks (λ format k held. GivesClosed c.serve_task_in.result (ServesHeld g.P.Store.Store (g.P.Paths.leaves c.args.paths.now) tells at format k c.args.task.now held)
    (ExplainsFailure at (g.P.Paths.explains c.args.paths.now) (paths_of c.args.task.now)))
    c.args.register.1 session.profile session.limits session.connection c.in-Blocks.is c.serve_task_in.ensures.serves

pub returns-in-Leaves-clause-serves : goal.returns-in-Leaves-clause-serves
returns-in-Leaves-clause-serves g c =
    let tells = g.P.Paths.tells c.args.paths.now in
    let at = telling_of g.P.Paths c.args.paths.now in
    let session = c.args.register.0 in
    let moved = c.to_layout.result in
    in_leaves (λ format k held. GivesClosed c.serve_task_in-in-Leaves.result (ServesHeld g.P.Store.Store (g.P.Paths.leaves c.args.paths.now) tells at format k c.args.task.now held)
    (ExplainsFailure at (g.P.Paths.explains c.args.paths.now) (paths_of c.args.task.now)))
    c.args.register.1 session.profile moved.profile session.limits moved.limits session.connection moved.connection c.in-Leaves.is c.to_layout.ensures.same c.serve_task_in-in-Leaves.ensures.serves
