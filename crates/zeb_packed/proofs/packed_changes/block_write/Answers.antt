use Rattle.zeb_packed.proofs.Cited.{◌∙◌, ◌++◌, [], ◌∷◌, pos, sym, subst, Blob, Int, state, BlockSpells, register_code, Alters, IsNumberedRow, key_row, Gains, Renews, Loses, blocks_tree, column_is}
use Rattle.zeb_packed.proofs.PackedWrites.{none_of, puts_inserted, puts_no_list, puts_renewed}
use Rattle.zeb_packed.proofs.OpenCalls.{does_so}
use Rattle.zeb_packed.proofs.packed_changes.block_write.Goals as goal

pub returns-then-is_empty : goal.returns-then-is_empty
returns-then-is_empty g c = record {
  call = does_so c.in_ok-block_remove.ensures.call (λ put.
      let first = state g.S.Store c.args.tx.now.conn.now in
      let second = state g.S.Store c.block_remove.new.tx.conn.now in
      let key = c.args.key.now in
      let none = none_of c.args.list.now (sym c.is_empty.ensures ∙ c.if-is_empty.true) in
      puts_no_list c.args.db.0 key c.args.block c.args.list.now c.args.is_there first second none
      (subst (λ n. Alters blocks_tree (Loses (IsNumberedRow c.args.db.0 (pos key.index) (pos (register_code key.register)) key.term n)) first second) (column_is c.in_ok-number.ensures.ok.1 c.in_ok-number.ensures.ok.0) put));
}

pub returns-then-is_there : goal.returns-then-is_there
returns-then-is_there g c = record {
  call = does_so c.in_ok-block_set.ensures.call (λ put.
      let first = state g.S.Store c.args.tx.now.conn.now in
      let second = state g.S.Store c.block_set.new.tx.conn.now in
      let key = c.args.key.now in
      let bytes = c.deref.result.now in
      let spells = subst (BlockSpells c.args.block c.args.list.now) (sym c.deref.ensures.value) c.in_ok-bytes.ensures in
      puts_renewed c.args.db.0 key c.args.block c.args.list.now c.args.is_there first second c.if-is_there.true bytes spells
      (subst (λ n. Alters blocks_tree (Renews (IsNumberedRow c.args.db.0 (pos key.index) (pos (register_code key.register)) key.term n) (key_row c.args.db.0 key ++ Int n ∷ Blob bytes ∷ [])) first second) (column_is c.in_ok-number.ensures.ok.1 c.in_ok-number.ensures.ok.0) put));
}

pub returns : goal.returns
returns g c = record {
  call = does_so c.in_ok-block_add.ensures.call (λ put.
      let first = state g.S.Store c.args.tx.now.conn.now in
      let second = state g.S.Store c.block_add.new.tx.conn.now in
      let key = c.args.key.now in
      let bytes = c.deref-2.result.now in
      let spells = subst (BlockSpells c.args.block c.args.list.now) (sym c.deref-2.ensures.value) c.in_ok-bytes.ensures in
      puts_inserted c.args.db.0 key c.args.block c.args.list.now c.args.is_there first second c.if-is_there.false bytes spells
      (subst (λ n. Alters blocks_tree (Gains (key_row c.args.db.0 key ++ Int n ∷ Blob bytes ∷ [])) first second) (column_is c.in_ok-number.ensures.ok.1 c.in_ok-number.ensures.ok.0) put));
}
