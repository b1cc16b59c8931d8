use Rattle.zeb_register.proofs.Cited.{state, row_cmp, List, Row, inl, sym, subst, arith, IsListOf, IsRest, postings_tree, AreCounts, IsShown, register_front}
use Rattle.std.specs.List.Sorted.{IsStrictlySortedBy}
use Rattle.zeb_register.proofs.CountLemmas.{none_in_sum}
use Rattle.zeb_register.proofs.LooksInTurn.{looks_failed, looks_refused, looks_told}
use Rattle.zeb_register.proofs.PlainTerms.{rows_hide, rows_sum_up}
use Rattle.zeb_register.proofs.plain.RowsLayout.totals.Goals as goal

pub returns-in_err-rows-clause-units : goal.returns-in_err-rows-clause-units
returns-in_err-rows-clause-units g c = looks_failed _ _ _ c.from_residual.result _ _ _ c.in_err-rows.ensures c.from_residual.ensures.1

pub returns-in_err-counts-clause-units : goal.returns-in_err-counts-clause-units
returns-in_err-counts-clause-units g c =
    let old = state g.S.Store c.args.conn.now in
    let at = c.args.at in
    let front = register_front at.db.0 at.index at.register in
    looks_refused _ _ _ c.in_err-counts.field-0.0 c.from_residual-in_err-counts.result _ _ _ c.in_ok-rows.ensures c.from_residual-in_err-counts.ensures.1 (λ store listed told.
    let it = rows_hide old store at.db.0 at.index at.register c.deref.result.now (subst (IsListOf (IsRest postings_tree front old.now.trees)) (sym c.deref.ensures.value) listed) (c.in_err-counts.ensures.occur told) in
    (it.0, inl it.1))

pub returns-clause-units : goal.returns-clause-units
returns-clause-units g c =
    let old = state g.S.Store c.args.conn.now in
    let at = c.args.at in
    let items = c.in_ok-rows.rows.items in
    let terms = c.in_ok-counts.counts.items in
    looks_told _ _ _ _ _ _ _ c.in_ok-rows.ensures (λ store held.
    let counts : AreCounts (IsShown items) terms = subst (λ (l : List Row). AreCounts (IsShown l) terms) c.deref.ensures.value (c.in_ok-counts.ensures.counts (subst (IsStrictlySortedBy row_cmp) (sym c.deref.ensures.value) held.rising)) in
    rows_sum_up old store at.db.0 at.index at.register items held terms counts (λ row h. c.in_ok-counts.ensures.occur row (subst (λ (l : List Row). Rattle.sqlite_rules.specs.Lists.Has l row) (sym c.deref.ensures.value) h))
    _ (omega (arith, c.len.ensures, c.in_ok-counts.counts.ok.0)) (omega (arith, c.len-2.ensures, c.in_ok-rows.rows.ok.0)))

pub returns-clause-work : goal.returns-clause-work
returns-clause-work g c clean store terms lists all listed =
    let none = none_in_sum lists in
    record {
      reads_terms = inl (omega arith);
      writes_terms = inl (omega arith);
      reads_blocks = inl (omega (arith, none));
      writes_blocks = inl (omega arith);
    }
