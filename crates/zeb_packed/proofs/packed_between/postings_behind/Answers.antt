use Rattle.zeb_packed.proofs.Cited.{Err, ap, rules, mapped_has, two_behind, spelled_row, has_at, refused_so}
use Rattle.zeb_packed.proofs.packed_between.postings_behind.Goals as goal

pub returns-in_err-add_behind : goal.returns-in_err-add_behind
returns-in_err-add_behind c = refused_so _ _ c.from_residual.result c.in_err-add_behind.field-0.0 (search rules)
    (λ told. (two_behind c.row-item.result, mapped_has two_behind c.args.rows.now c.row-item.result (has_at _ _ _ c.row-item.is c.loop-row-test.true), λ part. c.in_err-add_behind.ensures.honest (ap Err told) part))

pub loop-row-preserved : goal.loop-row-preserved
loop-row-preserved c =
    let it = c.in_ok-add_behind.ensures.ok in
    rw it.2 (spelled_row c.args.rows.now c.loop-row.row-index c.row-item.result c.loop-row.postings.items it.0 c.loop-row-test.true c.row-item.is c.loop-row.invariant it.1)
