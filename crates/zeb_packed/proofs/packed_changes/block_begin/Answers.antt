use Rattle.zeb_packed.proofs.Cited.{◌∙◌, ◌++◌, [], ◌∷◌, refl, sym, subst, Blob, Int, state, BlockSpells, Alters, key_row, Gains, blocks_tree, column_is}
use Rattle.zeb_packed.proofs.KeyRows.{none_told}
use Rattle.zeb_packed.proofs.PackedWrites.{none_of, puts_inserted, puts_nothing}
use Rattle.zeb_packed.proofs.OpenCalls.{works_so}
use Rattle.zeb_packed.proofs.OpenLooks.{as_read}
use Rattle.zeb_packed.proofs.packed_changes.block_begin.Goals as goal

pub returns-then-is_empty-clause-call : goal.returns-then-is_empty-clause-call
returns-then-is_empty-clause-call g c =
    let first = state g.S.Store c.args.tx.now.conn.now in
    let second = state g.S.Store c.block_absent.new.tx.conn.now in
    let none = none_of c.args.list.now (sym c.is_empty.ensures ∙ c.if-is_empty.true) in
    works_so (as_read c.block_absent.ensures) (λ x inside reads. puts_nothing c.args.db.0 c.args.key.now c.args.block c.args.list.now first second none reads inside)

pub returns-clause-call : goal.returns-clause-call
returns-clause-call g c =
    let first = state g.S.Store c.args.tx.now.conn.now in
    let second = state g.S.Store c.block_put.new.tx.conn.now in
    let key = c.args.key.now in
    let bytes = c.deref.result.now in
    let spells = subst (BlockSpells c.args.block c.args.list.now) (sym c.deref.ensures.value) c.in_ok-bytes.ensures in
    works_so c.block_put.ensures.call (λ x inside put. puts_inserted c.args.db.0 key c.args.block c.args.list.now _ first second refl bytes spells
    (subst (λ n. Alters blocks_tree (Gains (key_row c.args.db.0 key ++ Int n ∷ Blob bytes ∷ [])) first second) (column_is c.in_ok-number.ensures.ok.1 c.in_ok-number.ensures.ok.0) put))

pub returns-then-is_empty-clause-told : goal.returns-then-is_empty-clause-told
returns-then-is_empty-clause-told g c clean inside store =
    none_told c.args.db.0 c.args.key.now c.args.block _ (state g.S.Store c.args.tx.now.conn.now).now.trees c.block_absent.result (column_is c.in_ok-number.ensures.ok.1 c.in_ok-number.ensures.ok.0) (c.block_absent.ensures.looks.finds clean inside store)

pub returns-clause-told : goal.returns-clause-told
returns-clause-told g c clean inside store =
    none_told c.args.db.0 c.args.key.now c.args.block _ (state g.S.Store c.args.tx.now.conn.now).now.trees c.block_put.result (column_is c.in_ok-number.ensures.ok.1 c.in_ok-number.ensures.ok.0) (c.block_put.ensures.told clean inside store)
