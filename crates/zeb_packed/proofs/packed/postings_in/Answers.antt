use Rattle.zeb_packed.proofs.Cited.{Err, ap, rules, has_at, spelled_more, refused_so}
use Rattle.zeb_packed.proofs.packed.postings_in.Goals as goal

pub returns-in_err-add_part : goal.returns-in_err-add_part
returns-in_err-add_part c = refused_so _ _ c.from_residual.result c.in_err-add_part.field-0.0 (search rules) (λ told. (c.row-item.result, has_at _ _ _ c.row-item.is c.loop-row-test.true, λ part. c.in_err-add_part.ensures.honest (ap Err told) part))

pub loop-row-preserved : goal.loop-row-preserved
loop-row-preserved c =
    let it = c.in_ok-add_part.ensures.ok in
    rw it.2 (spelled_more c.args.rows.now c.loop-row.row-index c.row-item.result c.loop-row.postings.items it.0 c.loop-row-test.true c.row-item.is c.loop-row.invariant it.1)
