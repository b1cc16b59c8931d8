use Rattle.zeb_leaves.proofs.Cited.{◌≡◌, ◌∙◌, sym, subst, inl, inr, true, false, rules, CountRows, HideRows, refused_so}
use Rattle.zeb_leaves.proofs.NearCalls.{hidden_past, hidden_row, keyless_row, left, past_row, stop_row}
use Rattle.zeb_leaves.proofs.first_terms.first_counts.Goals as goal

pub returns-in_err-own : goal.returns-in_err-own
returns-in_err-own c rest none = refused_so _ _ c.from_residual.result c.in_err-own.field-0.0 (search rules) (λ told. c.loop-next.invariant.hides rest (keyless_row c.args.n c.loop-next.from.term.now c.loop-next.from.block c.loop-next.row.now c.next-item.result c.args.behind.now rest c.loop-next.next-index c.loop-next-test.true c.next-item.is c.loop-next.counts.items c.in_err-own.ensures.refused.1))

pub returns-in_err-up_to_next : goal.returns-in_err-up_to_next
returns-in_err-up_to_next c rest none = refused_so _ _ c.from_residual-in_err-up_to_next.result c.in_err-up_to_next.field-0.0 (search rules) (λ told. c.loop-next.invariant.hides rest (hidden_row c.args.n c.loop-next.from.term.now c.loop-next.from.block c.loop-next.row.now c.next-item.result c.args.behind.now rest c.loop-next.next-index c.loop-next-test.true c.next-item.is c.loop-next.counts.items c.in_ok-own.own.term.now c.in_ok-own.own.block c.in_ok-own.ensures.ok (c.in_err-up_to_next.ensures told)))

pub returns-then-branch : goal.returns-then-branch
returns-then-branch c rest none =
    elim c.in_ok-up_to_next.ensures [
      | inl stops ↦ c.loop-next.invariant.counted rest _ (stop_row c.args.n c.loop-next.from.term.now c.loop-next.from.block c.loop-next.row.now c.next-item.result c.args.behind.now rest c.loop-next.next-index c.loop-next-test.true c.next-item.is c.loop-next.counts.items c.in_ok-own.own.term.now c.in_ok-own.own.block c.in_ok-own.ensures.ok _ stops.1)
      | inr goes ↦ (let e : true ≡ false = sym c.if-branch.true ∙ goes.0 in absurd (cc))
    ]

pub loop-next-preserved : goal.loop-next-preserved
loop-next-preserved c =
    let mid = c.up_to_next.new.counts.items in
    elim c.in_ok-up_to_next.ensures [
      | inl stops ↦ (let e : false ≡ true = sym c.if-branch.false ∙ stops.0 in absurd (cc))
      | inr goes ↦ record {
        counted = λ rest new more. c.loop-next.invariant.counted rest new (past_row c.args.n c.loop-next.from.term.now c.loop-next.from.block c.loop-next.row.now c.next-item.result c.args.behind.now rest c.loop-next.next-index c.loop-next-test.true c.next-item.is c.loop-next.counts.items c.in_ok-own.own.term.now c.in_ok-own.own.block c.in_ok-own.ensures.ok mid goes.1 new more);
        hides = λ rest bad. c.loop-next.invariant.hides rest (hidden_past c.args.n c.loop-next.from.term.now c.loop-next.from.block c.loop-next.row.now c.next-item.result c.args.behind.now rest c.loop-next.next-index c.loop-next-test.true c.next-item.is c.loop-next.counts.items c.in_ok-own.own.term.now c.in_ok-own.own.block c.in_ok-own.ensures.ok mid goes.1 bad);
      }
    ]

pub returns-in_err-row_until : goal.returns-in_err-row_until
returns-in_err-row_until c rest none = refused_so _ _ c.from_residual-in_err-row_until.result c.in_err-row_until.field-0.0 (search rules) (λ told. c.loop-next.invariant.hides rest (subst (λ rows. HideRows c.args.n c.loop-next.from.term.now c.loop-next.from.block c.loop-next.row.now rows c.loop-next.counts.items) (sym (left c.args.behind.now rest c.loop-next.next-index (search rules) (none (search rules)))) (c.in_err-row_until.ensures told)))

pub returns : goal.returns
returns c rest none =
    let new = c.row_until.new.counts.items in
    c.loop-next.invariant.counted rest new (subst (λ rows. CountRows c.args.n c.loop-next.from.term.now c.loop-next.from.block c.loop-next.row.now rows c.loop-next.counts.items new) (sym (left c.args.behind.now rest c.loop-next.next-index (search rules) (none (search rules)))) (c.in_ok-row_until.field-0, c.in_ok-row_until.ensures))
