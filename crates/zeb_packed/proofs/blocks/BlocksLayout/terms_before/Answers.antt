use Rattle.zeb_packed.proofs.Cited.{List, subst, sym, state, Row, TermCount, packed_blocks, EndsCounting, TellTerms, ListsBefore}
use Rattle.zeb_register.proofs.LooksInTurn.{looks_refused, looks_told}
use Rattle.zeb_packed.proofs.DictTerms.{before_hide, before_listed, first_taken}
use Rattle.zeb_packed.proofs.blocks.BlocksLayout.terms_before.Goals as goal

pub returns-in_err-counts-clause-units : goal.returns-in_err-counts-clause-units
returns-in_err-counts-clause-units g c =
    let at = c.args.at in
    looks_refused _ _ _ c.in_err-counts.field-0.0 c.from_residual-in_err-counts.result _ _ _ c.in_ok-rows.ensures c.from_residual-in_err-counts.ensures.1 (λ store raw told.
    let first = first_taken c.args.n c.limit_of-limit.result c.in_ok-rows.rows.items c.deref.result.now raw.0 c.limit_of-limit.ensures.fits c.limit_of-limit.ensures.limit raw.2 c.deref.ensures.value c.counts_in.ensures.few in
    before_hide (state g.S.Store c.args.conn.now) store at.db.0 at.index at.register c.args.start.now c.args.n raw.0 raw.1 (subst EndsCounting first (c.in_err-counts.ensures.tells told)))

pub returns-clause-units : goal.returns-clause-units
returns-clause-units g c =
    let old = state g.S.Store c.args.conn.now in
    let at = c.args.at in
    let counts = c.in_ok-counts.counts.items in
    looks_told _ _ _ _ _ _ _ c.in_ok-rows.ensures (λ store raw.
    let first = first_taken c.args.n c.limit_of-limit.result c.in_ok-rows.rows.items c.deref.result.now raw.0 c.limit_of-limit.ensures.fits c.limit_of-limit.ensures.limit raw.2 c.deref.ensures.value c.counts_in.ensures.few in
    subst (λ (l : List TermCount). ListsBefore packed_blocks old.now.trees at.db.0 at.index at.register c.args.start.now c.args.n l) (sym c.reverse.ensures.items)
    (before_listed old store at.db.0 at.index at.register c.args.start.now c.args.n raw.0 raw.1 counts (subst (λ (rows : List Row). TellTerms rows counts) first c.in_ok-counts.ensures.tells)))
