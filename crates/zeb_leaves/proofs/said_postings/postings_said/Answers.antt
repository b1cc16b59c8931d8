use Rattle.zeb_leaves.proofs.Cited.{rules, refused_so, has_get, got}
use Rattle.zeb_leaves.proofs.SaidMore.{said_more}
use Rattle.zeb_leaves.proofs.said_postings.postings_said.Goals as goal

pub returns-in_err-push_said : goal.returns-in_err-push_said
returns-in_err-push_said c = refused_so _ _ c.from_residual.result c.in_err-push_said.field-0.0 (search rules)
    (λ told. (_, has_get c.args.held.now c.loop-one.one-index _ c.loop-one-test.true, c.in_err-push_said.ensures told))

pub loop-one-preserved : goal.loop-one-preserved
loop-one-preserved c =
    let it = c.in_ok-push_said.ensures in
    rw it.2 (said_more c.args.held.now c.loop-one.one-index _ c.loop-one.postings.items it.0 c.loop-one-test.true (got c.args.held.now c.loop-one.one-index _ c.loop-one-test.true) c.loop-one.invariant it.1)
