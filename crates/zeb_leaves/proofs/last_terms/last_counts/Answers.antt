use Rattle.zeb_leaves.proofs.Cited.{◌≡◌, ◌∙◌, refl, sym, subst, inl, inr, true, false, rules, CountBelow, refused_so}
use Rattle.zeb_leaves.proofs.NearCalls.{down_past, hidden_further, hidden_here, keyless_below, left, stop_below}
use Rattle.zeb_leaves.proofs.last_terms.last_counts.Goals as goal

pub returns-in_err-own : goal.returns-in_err-own
returns-in_err-own c rest none = refused_so _ _ c.from_residual.result c.in_err-own.field-0.0 (search rules) (λ told. c.loop-row.invariant.hides rest (keyless_below c.args.n c.loop-row.end.term.now c.loop-row.end.block c.row-item.result c.args.rows.now rest c.loop-row.row-index c.loop-row-test.true c.row-item.is c.loop-row.counts.items c.in_err-own.ensures.refused.1))

pub returns-in_err-down_to_own : goal.returns-in_err-down_to_own
returns-in_err-down_to_own c rest none = refused_so _ _ c.from_residual-in_err-down_to_own.result c.in_err-down_to_own.field-0.0 (search rules) (λ told. c.loop-row.invariant.hides rest (hidden_here c.args.n c.loop-row.end.term.now c.loop-row.end.block c.row-item.result c.args.rows.now rest c.loop-row.row-index c.loop-row-test.true c.row-item.is c.loop-row.counts.items c.in_ok-own.own.term.now c.in_ok-own.own.block c.in_ok-own.ensures.ok (c.in_err-down_to_own.ensures told)))

pub returns-then-branch : goal.returns-then-branch
returns-then-branch c rest none =
    elim c.in_ok-down_to_own.ensures [
      | inl stops ↦ c.loop-row.invariant.counted rest _ (stop_below c.args.n c.loop-row.end.term.now c.loop-row.end.block c.row-item.result c.args.rows.now rest c.loop-row.row-index c.loop-row-test.true c.row-item.is c.loop-row.counts.items c.in_ok-own.own.term.now c.in_ok-own.own.block c.in_ok-own.ensures.ok _ stops.1)
      | inr goes ↦ (let e : true ≡ false = sym c.if-branch.true ∙ goes.0 in absurd (cc))
    ]

pub loop-row-preserved : goal.loop-row-preserved
loop-row-preserved c =
    let mid = c.down_to_own.new.counts.items in
    elim c.in_ok-down_to_own.ensures [
      | inl stops ↦ (let e : false ≡ true = sym c.if-branch.false ∙ stops.0 in absurd (cc))
      | inr goes ↦ record {
        counted = λ rest new more. c.loop-row.invariant.counted rest new (down_past c.args.n c.loop-row.end.term.now c.loop-row.end.block c.row-item.result c.args.rows.now rest c.loop-row.row-index c.loop-row-test.true c.row-item.is c.loop-row.counts.items c.in_ok-own.own.term.now c.in_ok-own.own.block c.in_ok-own.ensures.ok mid goes.1 new more);
        hides = λ rest bad. c.loop-row.invariant.hides rest (hidden_further c.args.n c.loop-row.end.term.now c.loop-row.end.block c.row-item.result c.args.rows.now rest c.loop-row.row-index c.loop-row-test.true c.row-item.is c.loop-row.counts.items c.in_ok-own.own.term.now c.in_ok-own.own.block c.in_ok-own.ensures.ok mid goes.1 bad);
      }
    ]

pub returns-then-is_least : goal.returns-then-is_least
returns-then-is_least c rest none =
    let items = c.loop-row.counts.items in
    c.loop-row.invariant.counted rest items (subst (λ rows. CountBelow c.args.n c.loop-row.end.term.now c.loop-row.end.block rows items items) (sym (left c.args.rows.now rest c.loop-row.row-index (search rules) (none (search rules)))) (c.is_least.ensures.0 c.if-is_least.true, refl))
