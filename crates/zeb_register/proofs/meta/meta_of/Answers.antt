use Rattle.zeb_register.proofs.Cited.{state, Err, ap, sym, subst, IsListOf, IsValueRow}
use Rattle.zeb_register.proofs.LookUps.{text_told, texts_shown}
use Rattle.zeb_register.proofs.LooksInTurn.{looks_failed, looks_refused, looks_told}
use Rattle.zeb_register.proofs.meta.meta_of.Goals as goal

pub returns : goal.returns
returns g c =
    let trees = (state g.S.Store c.args.conn.now).now.trees in
    looks_told _ _ _ c.in_ok-first_text.field-0 _ _ _ c.in_ok-rows.ensures (λ store list.
    text_told trees c.args.name.now (subst (IsListOf (IsValueRow trees c.args.name.now)) (sym c.deref.ensures.value) list) c.in_ok-first_text.field-0 c.in_ok-first_text.ensures.ok)

pub returns-in_err-rows : goal.returns-in_err-rows
returns-in_err-rows g c = looks_failed _ _ _ c.from_residual.result _ _ _ c.in_err-rows.ensures c.from_residual.ensures.1

pub returns-in_err-first_text : goal.returns-in_err-first_text
returns-in_err-first_text g c =
    let trees = (state g.S.Store c.args.conn.now).now.trees in
    looks_refused _ _ _ c.in_err-first_text.field-0.0 c.from_residual-in_err-first_text.result _ _ _ c.in_ok-rows.ensures c.from_residual-in_err-first_text.ensures.1 (λ store list told readable.
    c.in_err-first_text.ensures.honest (ap Err told) (texts_shown trees c.args.name.now (subst (IsListOf (IsValueRow trees c.args.name.now)) (sym c.deref.ensures.value) list) readable))
