use Rattle.zeb_packed.proofs.Cited.{List, subst, state, Row, EndsCounting, TellTerms}
use Rattle.zeb_register.proofs.LooksInTurn.{looks_refused, looks_told}
use Rattle.zeb_packed.proofs.DictTerms.{all_hide, all_listed}
use Rattle.zeb_packed.proofs.blocks.BlocksLayout.terms_of.Goals as goal

pub returns-in_err-counts-clause-units : goal.returns-in_err-counts-clause-units
returns-in_err-counts-clause-units g c =
    let at = c.args.at in
    looks_refused _ _ _ c.in_err-counts.field-0.0 c.from_residual-in_err-counts.result _ _ _ c.in_ok-rows.ensures c.from_residual-in_err-counts.ensures.1 (λ store listed told.
    all_hide (state g.S.Store c.args.conn.now) store at.db.0 at.index at.register c.in_ok-rows.rows.items listed (subst EndsCounting c.deref.ensures.value (c.in_err-counts.ensures.tells told)))

pub returns-clause-units : goal.returns-clause-units
returns-clause-units g c =
    let at = c.args.at in
    let counts = c.in_ok-counts.counts.items in
    looks_told _ _ _ _ _ _ _ c.in_ok-rows.ensures (λ store listed.
    all_listed (state g.S.Store c.args.conn.now) store at.db.0 at.index at.register c.in_ok-rows.rows.items listed counts
    (subst (λ (rows : List Row). TellTerms rows counts) c.deref.ensures.value c.in_ok-counts.ensures.tells))
