use Rattle.zeb_program.proofs.Cited.{telling_of, ServesIn}
use Rattle.zeb_program.proofs.LayoutLemmas.{in_blocks, in_leaves}
use Rattle.zeb_program.proofs.register_lines.serve_on.Goals as goal

pub returns-in-Blocks : goal.returns-in-Blocks
returns-in-Blocks g c =
    let session = c.args.register.0 in
    in_blocks (λ format k held. ServesIn g.P.Store.Store (g.P.Paths.leaves c.args.paths.now) (telling_of g.P.Paths c.args.paths.now) format k (g.R.Source.remaining c.args.input.now) (g.R.Source.remaining c.serve_in.new.input) (g.R.Source.has_failed c.serve_in.new.input) held
    c.args.output.now c.serve_in.new.output c.args.fault_output.now c.serve_in.new.fault_output c.serve_in.result)
    c.args.register.1 session.profile session.limits session.connection c.in-Blocks.is c.serve_in.ensures

pub returns-in-Leaves : goal.returns-in-Leaves
returns-in-Leaves g c =
    let session = c.args.register.0 in
    let moved = c.to_layout-session.result in
    in_leaves (λ format k held. ServesIn g.P.Store.Store (g.P.Paths.leaves c.args.paths.now) (telling_of g.P.Paths c.args.paths.now) format k (g.R.Source.remaining c.args.input.now) (g.R.Source.remaining c.serve_in-in-Leaves.new.input) (g.R.Source.has_failed c.serve_in-in-Leaves.new.input) held
    c.args.output.now c.serve_in-in-Leaves.new.output c.args.fault_output.now c.serve_in-in-Leaves.new.fault_output c.serve_in-in-Leaves.result)
    c.args.register.1 session.profile moved.profile session.limits moved.limits session.connection moved.connection c.in-Leaves.is c.to_layout-session.ensures.same c.serve_in-in-Leaves.ensures
