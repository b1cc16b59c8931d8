use Rattle.zeb_register.proofs.Cited.{Err, ap, inl, inr, IsOccurrenceRow, Has, ◌≡◌, ◌+◌, length, take, subst, sym, arith, rules, AreCounts, IsShown}
use Rattle.zeb_register.proofs.ContentLemmas.{has_at}
use Rattle.zeb_register.proofs.CountLemmas.{IsNewestOf, counts_none, counts_so, counted_more, counted_upto, newest_none}
use Rattle.zeb_register.proofs.TermRows.{shown_more, shown_after, shown_whole, taken_more}
use Rattle.zeb_register.proofs.Answered.{refused_so}
use Rattle.zeb_register.proofs.terms.count_terms.Goals as goal

pub loop-row-init : goal.loop-row-init
loop-row-init c =
    let P = IsShown (take 0 c.args.rows.now) in
    record {
      upto = λ t h. absurd (subst (λ l. Has l t) c.new-counts.ensures.items h);
      counted = λ up. (subst (AreCounts P) (sym c.new-counts.ensures.items) (counts_none P (λ t n h. absurd h.1)), subst (λ l. IsNewestOf P l 0) (sym c.new-counts.ensures.items) (newest_none P 0));
      occur = λ row h. absurd h;
    }

pub returns-in_err-term-clause-occur : goal.returns-in_err-term-clause-occur
returns-in_err-term-clause-occur c = refused_so _ _ c.from_residual.result c.in_err-term.field-0.0 (search rules) (λ told. (c.row-item.result, has_at _ _ _ c.row-item.is c.loop-row-test.true, c.in_err-term.ensures.honest (ap Err told)))

pub count_occurrence-requires : goal.count_occurrence-requires
count_occurrence-requires c = record { room = λ t h. omega (arith, c.loop-row.invariant.upto t h, c.loop-row-test.true) }

pub loop-row-preserved : goal.loop-row-preserved
loop-row-preserved c =
    let rows = c.args.rows.now in
    let i = c.loop-row.row-index in
    let r = c.row-item.result in
    record {
      upto = counted_upto i c.loop-row.newest c.in_ok-term.sysno c.in_ok-term.term _ _ c.loop-row.invariant.upto c.in_ok-count_occurrence.ensures;
      counted = λ up. counted_more (IsShown (take i rows)) (IsShown (take (i + 1) rows)) c.in_ok-term.term c.in_ok-term.sysno (shown_more rows i r c.in_ok-term.term c.in_ok-term.sysno c.loop-row-test.true c.row-item.is c.in_ok-term.ensures.ok)
          (shown_after rows i r c.in_ok-term.term c.in_ok-term.sysno up c.loop-row-test.true c.row-item.is c.in_ok-term.ensures.ok) c.loop-row.newest _ _ (c.loop-row.invariant.counted up).0 (c.loop-row.invariant.counted up).1 c.in_ok-count_occurrence.ensures;
      occur = λ row h. elim ((taken_more rows i r c.loop-row-test.true c.row-item.is row).0 h) [ inl there ↦ c.loop-row.invariant.occur row there | inr same ↦ subst IsOccurrenceRow (sym same) c.in_ok-term.ensures.occurs ];
    }

pub returns-clause-counts : goal.returns-clause-counts
returns-clause-counts c up =
    let rows = c.args.rows.now in
    let whole : c.loop-row.row-index ≡ length rows = omega (arith, c.loop-row-test.false) in
    counts_so (IsShown (take (length rows) rows)) (IsShown rows) c.loop-row.counts.items (shown_whole rows) (subst (λ i. AreCounts (IsShown (take i rows)) c.loop-row.counts.items) whole (c.loop-row.invariant.counted up).0)
