use Rattle.zeb_leaves.proofs.Cited.{rules, refused_so}
use Rattle.zeb_leaves.proofs.CountedTerms.{count_taken}
use Rattle.zeb_register.proofs.ContentLemmas.{has_at}
use Rattle.zeb_leaves.proofs.terms.count_entries.Goals as goal

pub returns-in_err-count_entry : goal.returns-in_err-count_entry
returns-in_err-count_entry c = refused_so _ _ c.from_residual.result c.in_err-count_entry.field-0.0 (search rules) (λ told. (c.entry-item.result, has_at _ _ _ c.entry-item.is c.loop-entry-test.true, c.in_err-count_entry.ensures told))

pub loop-entry-preserved : goal.loop-entry-preserved
loop-entry-preserved c =
    count_taken c.args.own.now c.loop-entry.entry-index c.entry-item.result _ c.loop-entry.counts.items _ c.loop-entry-test.true c.entry-item.is c.loop-entry.invariant c.in_ok-count_entry.ensures
