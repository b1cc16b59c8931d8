use Rattle.zeb_packed.proofs.Cited.{rules, ◌≡◌, ◌++◌, Err, arith, length-append, has_at, spelled_more}
use Rattle.zeb_packed.proofs.packed_totals.rows_postings.Goals as goal

pub returns-in_err-row_postings-clause-refused : goal.returns-in_err-row_postings-clause-refused
returns-in_err-row_postings-clause-refused c =
    let told : c.from_residual.result ≡ Err c.in_err-row_postings.field-0.0 = search rules in
    let fault = c.in_err-row_postings.ensures.refused in
    let here = has_at _ _ _ c.row-item.is c.loop-row-test.true in
    rw told (fault.0, (c.row-item.result, here, fault.1))

pub loop-row-preserved : goal.loop-row-preserved
loop-row-preserved c =
    let before = c.loop-row.invariant in
    let part = c.in_ok-row_postings.ensures.ok in (
      before.0 ++ part.0,
      spelled_more c.args.rows.now c.loop-row.row-index c.row-item.result before.0 part.0 c.loop-row-test.true c.row-item.is before.1 part.1,
      omega (arith, c.saturating_add-count.ensures, before.2, part.2, length-append before.0 part.0),
    )
