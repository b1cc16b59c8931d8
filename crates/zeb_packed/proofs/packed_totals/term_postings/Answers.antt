use Rattle.zeb_packed.proofs.Cited.{◌∙◌, subst, state, key_in, AreSpelled, Rises, SomeMalformed}
use Rattle.zeb_register.proofs.LooksInTurn.{looks_refused, looks_told}
use Rattle.zeb_packed.proofs.UnitLists.{rows_many, units_listed}
use Rattle.zeb_packed.proofs.packed_totals.term_postings.Goals as goal

pub returns-in_err-count-clause-finds : goal.returns-in_err-count-clause-finds
returns-in_err-count-clause-finds g c =
    looks_refused _ _ _ c.in_err-count.field-0.0 c.from_residual-in_err-count.result _ _ _ c.in_ok-rows.ensures c.from_residual-in_err-count.ensures.1 (λ store listed told.
    let bad = subst SomeMalformed c.deref.ensures.value c.in_err-count.ensures.refused.1 in
    (bad.0, (listed.each bad.0).0 bad.1, bad.2))

pub returns-clause-finds : goal.returns-clause-finds
returns-clause-finds g c =
    let old = state g.S.Store c.args.conn.now in
    let key = key_in c.args.at.index c.args.at.register c.args.term.now in
    let items = c.in_ok-rows.rows.items in
    let it = c.in_ok-count.ensures.ok in
    let spelled : AreSpelled items it.0 = subst (λ rows. AreSpelled rows it.0) c.deref.ensures.value it.1 in
    looks_told _ _ _ _ _ _ _ c.in_ok-rows.ensures (λ store are. (
      it.0,
      units_listed old store c.args.at.db.0 key items it.0 are spelled,
      it.2,
      subst (λ k. Rises k c.args.work.now.block_read c.counted-work.result) (c.len.ensures ∙ c.in_ok-rows.rows.ok.0 ∙ rows_many old store c.args.at.db.0 key items it.0 are spelled) c.counted-work.ensures.rises,
    ))
