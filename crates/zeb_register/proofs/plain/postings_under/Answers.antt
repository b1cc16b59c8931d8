use Rattle.zeb_register.proofs.Cited.{state, subst, sym, IsListOf, key_in, IsUnderKey}
use Rattle.zeb_register.proofs.LooksInTurn.{looks_failed, looks_refused, looks_told}
use Rattle.zeb_register.proofs.RowUnits.{rows_listed, shown_none}
use Rattle.zeb_register.proofs.plain.postings_under.Goals as goal

pub returns-in_err-rows : goal.returns-in_err-rows
returns-in_err-rows g c = looks_failed _ _ _ c.from_residual.result _ _ _ c.in_err-rows.ensures c.from_residual.ensures.1

pub returns-in_err-postings_of : goal.returns-in_err-postings_of
returns-in_err-postings_of g c =
    let old = state g.S.Store c.args.conn.now in
    let db = c.args.at.db.0 in
    let key = key_in c.args.at.index c.args.at.register c.args.term.now in
    looks_refused _ _ _ c.in_err-postings_of.field-0.0 c.from_residual-in_err-postings_of.result _ _ _ c.in_ok-rows.ensures c.from_residual-in_err-postings_of.ensures.1 (λ store listed told.
    shown_none old store db key c.deref.result.now (subst (IsListOf (IsUnderKey old.now.trees db key)) (sym c.deref.ensures.value) listed) (c.in_err-postings_of.ensures told))

pub returns : goal.returns
returns g c =
    let old = state g.S.Store c.args.conn.now in
    let db = c.args.at.db.0 in
    let key = key_in c.args.at.index c.args.at.register c.args.term.now in
    looks_told _ _ _ c.in_ok-postings_of.field-0 _ _ _ c.in_ok-rows.ensures (λ store listed.
    rows_listed old store db key c.deref.result.now c.in_ok-postings_of.field-0.items (subst (IsListOf (IsUnderKey old.now.trees db key)) (sym c.deref.ensures.value) listed) c.in_ok-postings_of.ensures)
