use Rattle.zeb_leaves.proofs.Cited.{rules, ◌+◌, length, arith, refused_so}
use Rattle.zeb_leaves.proofs.SpotsSaid.{many_taken}
use Rattle.zeb_register.proofs.ContentLemmas.{has_at}
use Rattle.zeb_leaves.proofs.term_totals.entries_postings.Goals as goal

pub returns-in_err-entry_postings : goal.returns-in_err-entry_postings
returns-in_err-entry_postings c = refused_so _ _ c.from_residual.result c.in_err-entry_postings.field-0.0 (search rules)
    (λ told. (c.entry-item.result, has_at _ _ _ c.entry-item.is c.loop-entry-test.true, c.in_err-entry_postings.ensures told))

pub loop-entry-preserved : goal.loop-entry-preserved
loop-entry-preserved c =
    let before = c.loop-entry.invariant in
    let said = c.in_ok-entry_postings.ensures in (
      before.0 + length said.0,
      many_taken c.args.own.now c.loop-entry.entry-index c.entry-item.result before.0 said.0 c.loop-entry-test.true c.entry-item.is before.1 said.1,
      omega (arith, c.saturating_add-many.ensures, before.2, said.2),
    )
