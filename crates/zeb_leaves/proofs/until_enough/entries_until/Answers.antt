use Rattle.zeb_leaves.proofs.Cited.{◌≡◌, ◌∙◌, sym, subst, true, false, rules, AreEnough, refused_so}
use Rattle.zeb_leaves.proofs.NearCalls.{count_here, no_text_here, no_text_later, stop_here}
use Rattle.zeb_leaves.proofs.until_enough.entries_until.Goals as goal

pub returns-then-are_enough : goal.returns-then-are_enough
returns-then-are_enough c =
    let items = c.loop-entry.counts.items in
    let e = c.entry-item.result in
    let told = c.are_enough.ensures.0 (search rules) in
    let enough : AreEnough c.args.n items e.term = subst (AreEnough c.args.n items) c.as_slice.ensures (subst (λ l. AreEnough c.args.n l c.as_slice.result.now) c.deref.ensures.value told) in
    c.loop-entry.invariant.counts items true (stop_here c.args.n c.args.own.now c.loop-entry.entry-index e c.loop-entry-test.true c.entry-item.is items enough)

pub returns-in_err-count_entry : goal.returns-in_err-count_entry
returns-in_err-count_entry c =
    let items = c.loop-entry.counts.items in
    let e = c.entry-item.result in
    let less : ¬ AreEnough c.args.n items e.term = λ enough. let f : false ≡ true = sym c.if-are_enough.false ∙ c.are_enough.ensures.1 (subst (λ l. AreEnough c.args.n l c.as_slice.result.now) (sym c.deref.ensures.value) (subst (AreEnough c.args.n items) (sym c.as_slice.ensures) enough)) in cc in
    refused_so _ _ c.from_residual.result c.in_err-count_entry.field-0.0 (search rules) (λ told. c.loop-entry.invariant.hides (no_text_here c.args.n c.args.own.now c.loop-entry.entry-index e c.loop-entry-test.true c.entry-item.is items less (c.in_err-count_entry.ensures told)))

pub loop-entry-preserved : goal.loop-entry-preserved
loop-entry-preserved c =
    let items = c.loop-entry.counts.items in
    let e = c.entry-item.result in
    let less : ¬ AreEnough c.args.n items e.term = λ enough. let f : false ≡ true = sym c.if-are_enough.false ∙ c.are_enough.ensures.1 (subst (λ l. AreEnough c.args.n l c.as_slice.result.now) (sym c.deref.ensures.value) (subst (AreEnough c.args.n items) (sym c.as_slice.ensures) enough)) in cc in
    let mid = c.count_entry.new.counts.items in
    record {
      counts = λ new enough more. c.loop-entry.invariant.counts new enough (count_here c.args.n c.args.own.now c.loop-entry.entry-index e c.loop-entry-test.true c.entry-item.is items less mid c.in_ok-count_entry.ensures new enough more);
      hides = λ bad. c.loop-entry.invariant.hides (no_text_later c.args.n c.args.own.now c.loop-entry.entry-index e c.loop-entry-test.true c.entry-item.is items less mid c.in_ok-count_entry.ensures bad);
    }
