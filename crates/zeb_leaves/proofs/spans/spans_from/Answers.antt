use Rattle.zeb_leaves.proofs.Cited.{◌∙◌, ◌++◌, List, sym, ap, subst, inl, inr, refl, rules, ShowSpans, refused_so}
use Rattle.std.proofs.lemmas.List.{append_assoc, drop_all}
use Rattle.zeb_leaf.specs.declared.entries.Held.{Held}
use Rattle.zeb_leaves.proofs.SpanCalls.{span_step}
use Rattle.zeb_register.proofs.ContentLemmas.{has_at}
use Rattle.zeb_leaves.proofs.spans.spans_from.Goals as goal

pub loop-next-init : goal.loop-next-init
loop-next-init c = record { leads = λ rest shows. rw c.new-held.ensures.items shows; among = inl refl }

pub returns-in_err-own : goal.returns-in_err-own
returns-in_err-own c = refused_so _ _ c.from_residual.result c.in_err-own.field-0.0 (search rules) (λ told. (c.next-item.result, inr (has_at _ _ _ c.next-item.is c.loop-next-test.true), inr c.in_err-own.ensures.refused.1))

pub returns-in_err-push_row_span : goal.returns-in_err-push_row_span
returns-in_err-push_row_span c = refused_so _ _ c.from_residual-in_err-push_row_span.result c.in_err-push_row_span.field-0.0 (search rules) (λ told. (c.loop-next.row.now, c.loop-next.invariant.among, inl (c.in_err-push_row_span.ensures told)))

pub returns-in_err-push_row_span-2 : goal.returns-in_err-push_row_span-2
returns-in_err-push_row_span-2 c = refused_so _ _ c.from_residual-in_err-push_row_span-2.result c.in_err-push_row_span-2.field-0.0 (search rules) (λ told. (c.loop-next.row.now, c.loop-next.invariant.among, inl (c.in_err-push_row_span-2.ensures told)))

pub loop-next-preserved : goal.loop-next-preserved
loop-next-preserved c =
    let put = c.in_ok-push_row_span.ensures in
    record {
      leads = λ rest more.
          subst (ShowSpans c.args.end.now c.args.first.now 0 c.args.leaf.now c.args.behind.now) (sym (append_assoc c.loop-next.held.items put.0 rest) ∙ ap (λ (l : List Held). l ++ rest) (sym put.2))
          (c.loop-next.invariant.leads (put.0 ++ rest) (span_step c.args.end.now c.loop-next.from.term.now c.loop-next.from.block c.in_ok-own.own.term.now c.in_ok-own.own.block c.loop-next.next-index c.loop-next.row.now c.next-item.result c.args.behind.now put.0 rest c.loop-next-test.true c.next-item.is c.in_ok-own.ensures.ok put.1 more));
      among = inr (has_at _ _ _ c.next-item.is c.loop-next-test.true);
    }

pub returns : goal.returns
returns c =
    let put = c.in_ok-push_row_span-2.ensures in
    let none = drop_all c.loop-next.next-index c.args.behind.now (search rules) in
    subst (ShowSpans c.args.end.now c.args.first.now 0 c.args.leaf.now c.args.behind.now) (sym put.2) (c.loop-next.invariant.leads put.0 (subst (λ rows. ShowSpans c.args.end.now c.loop-next.from.term.now c.loop-next.from.block c.loop-next.row.now rows put.0) (sym none) put.1))
