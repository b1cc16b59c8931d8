use Rattle.zeb_register.proofs.Cited.{state, sym, subst, IsListOf, IsRest, postings_tree, register_front}
use Rattle.zeb_register.proofs.LooksInTurn.{looks_failed, looks_refused, looks_told}
use Rattle.zeb_register.proofs.PlainTerms.{rows_hide, rows_list_all}
use Rattle.zeb_register.proofs.plain.RowsLayout.terms_of.Goals as goal

pub returns-in_err-rows-clause-units : goal.returns-in_err-rows-clause-units
returns-in_err-rows-clause-units g c = looks_failed _ _ _ c.from_residual.result _ _ _ c.in_err-rows.ensures c.from_residual.ensures.1

pub returns-in_err-count_terms-clause-units : goal.returns-in_err-count_terms-clause-units
returns-in_err-count_terms-clause-units g c =
    let old = state g.S.Store c.args.conn.now in
    let at = c.args.at in
    let front = register_front at.db.0 at.index at.register in
    looks_refused _ _ _ c.in_err-count_terms.field-0.0 c.from_residual-in_err-count_terms.result _ _ _ c.in_ok-rows.ensures c.from_residual-in_err-count_terms.ensures.1 (λ store listed told.
    rows_hide old store at.db.0 at.index at.register c.deref.result.now (subst (IsListOf (IsRest postings_tree front old.now.trees)) (sym c.deref.ensures.value) listed) (c.in_err-count_terms.ensures.occur told))

pub returns-clause-units : goal.returns-clause-units
returns-clause-units g c =
    let old = state g.S.Store c.args.conn.now in
    let at = c.args.at in
    let front = register_front at.db.0 at.index at.register in
    looks_told _ _ _ c.in_ok-count_terms.field-0 _ _ _ c.in_ok-rows.ensures (λ store listed.
    let held : IsListOf (IsRest postings_tree front old.now.trees) c.deref.result.now = subst (IsListOf (IsRest postings_tree front old.now.trees)) (sym c.deref.ensures.value) listed in
    rows_list_all old store at.db.0 at.index at.register c.deref.result.now held c.in_ok-count_terms.field-0.items (c.in_ok-count_terms.ensures.counts held.rising) c.in_ok-count_terms.ensures.occur)
