use Rattle.zeb_packed.proofs.Cited.{◌≢◌, ◌++◌, [], ◌∷◌, arith, subst, Int, state, Alters, IsDictIn, key_row, Gains, Renews, dict_tree, column_is}
use Rattle.zeb_packed.proofs.PackedWrites.{number_inserted, number_renewed, puts_no_number}
use Rattle.zeb_packed.proofs.OpenCalls.{does_so}
use Rattle.zeb_packed.proofs.packed_changes.dict_write.Goals as goal

pub returns-then-records-eq0 : goal.returns-then-records-eq0
returns-then-records-eq0 g c = record {
  call = does_so c.in_ok-dict_remove.ensures.call (λ put.
      let first = state g.S.Store c.args.tx.now.conn.now in
      let second = state g.S.Store c.dict_remove.new.tx.conn.now in
      puts_no_number c.args.db.0 c.args.key.now c.args.records c.args.is_there first second c.if-records-eq0.true put);
}

pub returns-then-is_there : goal.returns-then-is_there
returns-then-is_there g c = record {
  call = does_so c.in_ok-dict_set.ensures.call (λ put.
      let first = state g.S.Store c.args.tx.now.conn.now in
      let second = state g.S.Store c.dict_set.new.tx.conn.now in
      let key = c.args.key.now in
      let some : c.args.records ≢ 0 = λ none. absurd (omega (arith, c.if-records-eq0.false, none)) in
      number_renewed c.args.db.0 key c.args.records c.args.is_there first second c.if-is_there.true some
      (subst (λ n. Alters dict_tree (Renews (IsDictIn c.args.db.0 key) (key_row c.args.db.0 key ++ Int n ∷ [])) first second) (column_is c.in_ok-number.ensures.ok.1 c.in_ok-number.ensures.ok.0) put));
}

pub returns : goal.returns
returns g c = record {
  call = does_so c.in_ok-dict_add.ensures.call (λ put.
      let first = state g.S.Store c.args.tx.now.conn.now in
      let second = state g.S.Store c.dict_add.new.tx.conn.now in
      let key = c.args.key.now in
      let some : c.args.records ≢ 0 = λ none. absurd (omega (arith, c.if-records-eq0.false, none)) in
      number_inserted c.args.db.0 key c.args.records c.args.is_there first second c.if-is_there.false some
      (subst (λ n. Alters dict_tree (Gains (key_row c.args.db.0 key ++ Int n ∷ [])) first second) (column_is c.in_ok-number.ensures.ok.1 c.in_ok-number.ensures.ok.0) put));
}
