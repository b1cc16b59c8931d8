use Rattle.zeb_program.proofs.Cited.{telling_of, RunsIn}
use Rattle.zeb_program.proofs.LayoutLemmas.{in_blocks, in_leaves}
use Rattle.zeb_program.proofs.register_lines.run_on.Goals as goal

pub returns-in-Blocks : goal.returns-in-Blocks
returns-in-Blocks g c =
    let session = c.args.register.0 in
    in_blocks (λ format k held. RunsIn g.P.Store.Store (g.P.Paths.leaves c.args.paths.now) (telling_of g.P.Paths c.args.paths.now) format k c.args.batch.lines_before c.args.batch.text.now held
    c.args.output.now c.run_in.new.output c.args.fault_output.now c.run_in.new.fault_output c.run_in.result)
    c.args.register.1 session.profile session.limits session.connection c.in-Blocks.is c.run_in.ensures

pub returns-in-Leaves : goal.returns-in-Leaves
returns-in-Leaves g c =
    let session = c.args.register.0 in
    let moved = c.to_layout-session.result in
    in_leaves (λ format k held. RunsIn g.P.Store.Store (g.P.Paths.leaves c.args.paths.now) (telling_of g.P.Paths c.args.paths.now) format k c.args.batch.lines_before c.args.batch.text.now held
    c.args.output.now c.run_in-in-Leaves.new.output c.args.fault_output.now c.run_in-in-Leaves.new.fault_output c.run_in-in-Leaves.result)
    c.args.register.1 session.profile moved.profile session.limits moved.limits session.connection moved.connection c.in-Leaves.is c.to_layout-session.ensures.same c.run_in-in-Leaves.ensures
