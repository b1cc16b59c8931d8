use Rattle.zeb_register.proofs.Cited.{state, Err, ap, sym, subst, ShowsNearest, HasOn, IsNearer}
use Rattle.zeb_register.proofs.LooksInTurn.{looks_failed, looks_refused, looks_told}
use Rattle.zeb_register.proofs.PlainTerms.{found_told, text_hidden}
use Rattle.zeb_register.proofs.terms.term_on.Goals as goal

pub returns-in_err-rows : goal.returns-in_err-rows
returns-in_err-rows g c = looks_failed _ _ _ c.from_residual.result _ _ _ c.in_err-rows.ensures c.from_residual.ensures.1

pub returns-in_err-term_of : goal.returns-in_err-term_of
returns-in_err-term_of g c =
    looks_refused _ _ _ c.in_err-term_of.field-0.0 c.from_residual-in_err-term_of.result _ _ _ c.in_ok-rows.ensures c.from_residual-in_err-term_of.ensures.1 (λ store shown told.
    text_hidden (HasOn c.args.at c.args.way c.args.text.now (state g.S.Store c.args.conn.now).now.trees) (IsNearer c.args.way) c.deref.result.now
    (subst (ShowsNearest _ (IsNearer c.args.way)) (sym c.deref.ensures.value) shown) (c.in_err-term_of.ensures.honest (ap Err told)))

pub returns : goal.returns
returns g c =
    looks_told _ _ _ c.in_ok-term_of.field-0 _ _ _ c.in_ok-rows.ensures (λ store shown.
    found_told (HasOn c.args.at c.args.way c.args.text.now (state g.S.Store c.args.conn.now).now.trees) (IsNearer c.args.way) c.deref.result.now
    (subst (ShowsNearest _ (IsNearer c.args.way)) (sym c.deref.ensures.value) shown) c.in_ok-term_of.field-0 c.in_ok-term_of.ensures.ok)
