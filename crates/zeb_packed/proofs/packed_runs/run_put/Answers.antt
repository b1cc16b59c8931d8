use Rattle.zeb_packed.proofs.Cited.{◌≤◌, arith}
use Rattle.zeb_packed.proofs.UnitRuns.{run_so}
use Rattle.zeb_packed.proofs.packed_runs.run_put.Goals as goal

pub returns : goal.returns
returns g c =
    let clear : c.args.known.clear_from ≤ c.args.block = omega arith in
    run_so (λ it. tt) (λ always. clear) c.row_begin.ensures

pub returns-then-block-known : goal.returns-then-block-known
returns-then-block-known g c = run_so (λ it. absurd (omega (arith, it, c.if-block-known.true))) (λ never. absurd never) c.row_renew.ensures
