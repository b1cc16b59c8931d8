-- The row is renewed where it is there, or put where none is.
use Rattle.zeb_leaves.proofs.Cited.{rules, [], pos, ℤ, subst, sym, state, blocks_tree, Bool, IfToldPuts, IsLeafWith, coming, leaf_columns, column_is, Alters, Gains, Renews, HasMoreLeaves}
use Rattle.zeb_leaves.proofs.WrittenLeaves.{put_new, put_there}
use Rattle.zeb_leaves.proofs.writes.leaf_put.Goals as goal

pub returns-then-is_there-clause-call : goal.returns-then-is_there-clause-call
returns-then-is_there-clause-call g c = record {
  same = search rules;
  does = record {
    ok = λ clean inside.
        let first = state g.S.Store c.args.tx.now.conn.now in
        let second = state g.S.Store c.leaf_set.new.tx.conn.now in
        let at = c.args.at in
        let term = c.args.term.now in
        let bytes = c.args.bytes.now in
        let number = column_is c.in_ok-number.ensures.ok.1 c.in_ok-number.ensures.ok.0 in
        subst (λ (t : Bool). Alters blocks_tree (IfToldPuts t at term (pos c.args.block) bytes []) first second) (sym c.if-is_there.true)
        (put_there at term (pos c.args.block) bytes first second
        (subst (λ (n : ℤ). Alters blocks_tree (Renews (IsLeafWith at term n) (leaf_columns at term n bytes)) first second) number (c.in_ok-leaf_set.ensures.call.does.ok clean inside)));
    err = λ clean inside. tt;
    crash = c.leaf_set.ensures.call.does.crash;
  };
}

pub returns-clause-call : goal.returns-clause-call
returns-clause-call g c = record {
  same = search rules;
  does = record {
    ok = λ clean inside.
        let first = state g.S.Store c.args.tx.now.conn.now in
        let second = state g.S.Store c.leaf_add.new.tx.conn.now in
        let at = c.args.at in
        let term = c.args.term.now in
        let bytes = c.args.bytes.now in
        let number = column_is c.in_ok-number.ensures.ok.1 c.in_ok-number.ensures.ok.0 in
        subst (λ (t : Bool). Alters blocks_tree (IfToldPuts t at term (pos c.args.block) bytes []) first second) (sym c.if-is_there.false)
        (put_new at term (pos c.args.block) bytes first second
        (subst (λ (n : ℤ). Alters blocks_tree (Gains (leaf_columns at term n bytes)) first second) number (c.in_ok-leaf_add.ensures.call.does.ok clean inside)));
    err = λ clean inside. tt;
    crash = c.leaf_add.ensures.call.does.crash;
  };
}

pub returns-then-is_there-clause-rows : goal.returns-then-is_there-clause-rows
returns-then-is_there-clause-rows g c clean inside store =
    let first = state g.S.Store c.args.tx.now.conn.now in
    let second = state g.S.Store c.leaf_set.new.tx.conn.now in
    subst (λ (t : Bool). HasMoreLeaves (coming t) first.now.trees second.now.trees) (sym c.if-is_there.true) (c.in_ok-leaf_set.ensures.rows clean inside store)

pub returns-clause-rows : goal.returns-clause-rows
returns-clause-rows g c clean inside store =
    let first = state g.S.Store c.args.tx.now.conn.now in
    let second = state g.S.Store c.leaf_add.new.tx.conn.now in
    subst (λ (t : Bool). HasMoreLeaves (coming t) first.now.trees second.now.trees) (sym c.if-is_there.false) (c.in_ok-leaf_add.ensures.rows clean inside store)
