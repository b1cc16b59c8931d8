use Rattle.zeb_packed.proofs.Cited.{◌≡◌, ◌∙◌, List, inl, arith, length, map, subst, sum_by, state, Row, IsRestBetween, two_behind, register_columns, blocks_of, AreSpelled, IsListOf, blocks_tree, Rises, blocks_many, SomeMalformed}
use Rattle.zeb_register.proofs.LooksInTurn.{looks_refused, looks_told}
use Rattle.zeb_packed.proofs.BetweenUnits.{blocks_listed, malformed_between}
use Rattle.zeb_packed.proofs.packed_between.blocks_between.Goals as goal

pub returns-in_err-list-clause-finds : goal.returns-in_err-list-clause-finds
returns-in_err-list-clause-finds g c =
    let old = state g.S.Store c.args.conn.now in
    let items = c.in_ok-rows.rows.items in
    looks_refused _ _ _ c.in_err-list.field-0.0 c.from_residual-in_err-list.result _ _ _ c.in_ok-rows.ensures c.from_residual-in_err-list.ensures.1 (λ store listed told.
    let are = subst (λ end. IsListOf (IsRestBetween blocks_tree (register_columns c.args.at) c.args.first.now end old.now.trees) items) (c.as_str.ensures.value ∙ c.in_ok-end.ensures) listed in
    malformed_between old store c.args.at c.args.first.now c.args.last.now items are (subst (λ (rows : List Row). SomeMalformed (map two_behind rows)) c.deref.ensures.value (c.in_err-list.ensures told)))

pub returns-clause-finds : goal.returns-clause-finds
returns-clause-finds g c =
    let old = state g.S.Store c.args.conn.now in
    let items = c.in_ok-rows.rows.items in
    let list = c.in_ok-list.list.items in
    looks_told _ _ _ _ _ _ _ c.in_ok-rows.ensures (λ store listed.
    let are = subst (λ end. IsListOf (IsRestBetween blocks_tree (register_columns c.args.at) c.args.first.now end old.now.trees) items) (c.as_str.ensures.value ∙ c.in_ok-end.ensures) listed in
    blocks_listed old store c.args.at c.args.first.now c.args.last.now items are list (subst (λ (rows : List Row). AreSpelled (map two_behind rows) list) c.deref.ensures.value c.in_ok-list.ensures))

pub returns-clause-work : goal.returns-clause-work
returns-clause-work g c clean store content holds keys known =
    let trees = (state g.S.Store c.args.conn.now).now.trees in
    let items = c.in_ok-rows.rows.items in
    let are = subst (λ end. IsListOf (IsRestBetween blocks_tree (register_columns c.args.at) c.args.first.now end trees) items) (c.as_str.ensures.value ∙ c.in_ok-end.ensures) (c.in_ok-rows.ensures.value clean store) in
    let many : length items ≡ sum_by (λ key. blocks_of (content c.args.at.db.0 key)) keys = blocks_many trees content c.args.at holds c.args.first.now c.args.last.now items are keys known in
    record {
      reads_terms = inl (omega arith);
      writes_terms = inl (omega arith);
      reads_blocks = subst (λ k. Rises k c.args.work.now.block_read c.counted-work.result) (c.len.ensures ∙ c.in_ok-rows.rows.ok.0 ∙ many) c.counted-work.ensures.rises;
      writes_blocks = inl (omega arith);
    }
