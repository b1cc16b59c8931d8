use Rattle.zeb_packed.proofs.Cited.{◌∙◌, arith, inl, subst, state, Has, AreSpelled, Rises, key_listed}
use Rattle.zeb_register.proofs.LooksInTurn.{looks_refused, looks_told}
use Rattle.zeb_packed.proofs.UnitLists.{blocks_counted, units_listed}
use Rattle.zeb_packed.proofs.packed.key_postings.Goals as goal

pub returns-in_err-list-clause-finds : goal.returns-in_err-list-clause-finds
returns-in_err-list-clause-finds g c =
    let items = c.in_ok-rows.rows.items in
    looks_refused _ _ _ c.in_err-list.field-0.0 c.from_residual-in_err-list.result _ _ _ c.in_ok-rows.ensures c.from_residual-in_err-list.ensures.1 (λ store listed told.
    let are = key_listed (state g.S.Store c.args.conn.now).now.trees c.args.db.0 c.args.key.now c.as_str.result.now c.as_str.ensures items listed in
    let bad = c.in_err-list.ensures told in
    (bad.0, (are.each bad.0).0 (subst (λ rows. Has rows bad.0) c.deref.ensures.value bad.1), bad.2))

pub returns-clause-finds : goal.returns-clause-finds
returns-clause-finds g c =
    let old = state g.S.Store c.args.conn.now in
    let items = c.in_ok-rows.rows.items in
    let list = c.in_ok-list.list.items in
    looks_told _ _ _ _ _ _ _ c.in_ok-rows.ensures (λ store listed.
    let are = key_listed old.now.trees c.args.db.0 c.args.key.now c.as_str.result.now c.as_str.ensures items listed in
    units_listed old store c.args.db.0 c.args.key.now items list are (subst (λ rows. AreSpelled rows list) c.deref.ensures.value c.in_ok-list.ensures))

pub returns-clause-work : goal.returns-clause-work
returns-clause-work g c clean store =
    let old = state g.S.Store c.args.conn.now in
    let items = c.in_ok-rows.rows.items in
    let list = c.in_ok-list.list.items in
    let spelled : AreSpelled items list = subst (λ rows. AreSpelled rows list) c.deref.ensures.value c.in_ok-list.ensures in
    let are = key_listed old.now.trees c.args.db.0 c.args.key.now c.as_str.result.now c.as_str.ensures items (c.in_ok-rows.ensures.value clean store) in
    blocks_counted old store c.args.db.0 c.args.key.now items list are spelled _ _ (record {
      reads_terms = inl (omega arith);
      writes_terms = inl (omega arith);
      reads_blocks = subst (λ k. Rises k c.args.work.now.block_read c.counted-work.result) (c.len.ensures ∙ c.in_ok-rows.rows.ok.0) c.counted-work.ensures.rises;
      writes_blocks = inl (omega arith);
    })
