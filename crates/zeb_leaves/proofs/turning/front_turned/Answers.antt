use Rattle.zeb_leaves.proofs.Cited.{HasCleanDisk, Row, Option, arith, refl, rules, state, subst, IsLeafAt, IsLeafIn, leaf_key, Database, IsUtf8, OnOk, CoversFirst, PutsFront, refused_so, store_same, WorksOnLeaves, RegisterOf}
use Rattle.zeb_leaves.proofs.CountedLeaves.{turn_counted}
use Rattle.zeb_leaves.proofs.FrontPieces.{covers_read, uncovered_lacks}
use Rattle.zeb_leaves.proofs.TurningCalls.{reads_goes_on}
use Rattle.zeb_leaves.proofs.turning.front_turned.Goals as goal

pub returns-in_err-leaf-clause-turned : goal.returns-in_err-leaf-clause-turned
returns-in_err-leaf-clause-turned g c = record {
  further = search rules;
  puts = λ clean inside store.
      let p = c.index-pieces-0.result in
      let at : RegisterOf = record { db = c.args.db; index = p.key.now.index; register = p.key.now.register } in
      refused_so _ _ c.from_residual.result c.in_err-leaf.field-0.0 (search rules)
      (λ told. uncovered_lacks c.args.pieces.now c.requires.some p c.index-pieces-0.is c.as_str-term.result.now c.first_block-block.result c.as_str-term.ensures c.first_block-block.ensures (state g.S.Store c.args.tx.now.conn.now).now.trees at c.requires.pieces
      ((refl, refl), subst IsUtf8 c.as_str-term.ensures c.as_str-term.utf8) (c.in_err-leaf.ensures.looks.finds clean inside store told));
}

pub returns-in_default-clause-turned : goal.returns-in_default-clause-turned
returns-in_default-clause-turned g c = record {
  further = c.register_begun.ensures.turned.further;
  puts = λ clean inside store.
      let s0 = state g.S.Store c.args.tx.now.conn.now in
      let s1 = state g.S.Store c.leaf_inside.new.tx.conn.now in
      let s2 = state g.S.Store c.register_begun.new.tx.conn.now in
      let p = c.index-pieces-0.result in
      let at : RegisterOf = record { db = c.args.db; index = p.key.now.index; register = p.key.now.register } in
      let clean1 : HasCleanDisk s1 = omega (arith, c.register_begun.ensures.call.does.crash.clean) in
      let read = c.in_ok-leaf.ensures.looks.call.ok clean1 inside in
      let none = subst (λ (found : Option Row). IsLeafAt (IsLeafIn s0.now.trees at) (leaf_key c.as_str-term.result.now c.first_block-block.result) found) c.in_default.is (c.in_ok-leaf.ensures.looks.finds clean1 inside store) in
      subst (λ (d : Database). ((leaf : Row) → ¬ IsLeafIn d.trees at leaf) → PutsFront c.args.db.0 c.args.pieces.now d.trees s2 c.register_begun.result) read.now_is
      (c.register_begun.ensures.turned.puts clean read.mode (store_same s0 s1 read.now_is store)) none;
}

pub returns-clause-turned : goal.returns-clause-turned
returns-clause-turned g c = record {
  further = c.covering_turned.ensures.turned.further;
  puts = λ clean inside store.
      let s0 = state g.S.Store c.args.tx.now.conn.now in
      let s1 = state g.S.Store c.leaf_inside.new.tx.conn.now in
      let s2 = state g.S.Store c.covering_turned.new.tx.conn.now in
      let p = c.index-pieces-0.result in
      let pieces = c.args.pieces.now in
      let at : RegisterOf = record { db = c.args.db; index = p.key.now.index; register = p.key.now.register } in
      let leaf = c.in-Some.leaf in
      let clean1 : HasCleanDisk s1 = omega (arith, c.covering_turned.ensures.call.does.crash.clean) in
      let read = c.in_ok-leaf.ensures.looks.call.ok clean1 inside in
      let covers = subst (IsLeafAt (IsLeafIn s0.now.trees at) (leaf_key c.as_str-term.result.now c.first_block-block.result)) c.in-Some.is (c.in_ok-leaf.ensures.looks.finds clean1 inside store) in
      let turned = c.covering_turned.ensures.turned.puts clean read.mode (store_same s0 s1 read.now_is store) in
      subst (λ (d : Database). CoversFirst (IsLeafIn d.trees at) leaf pieces → PutsFront c.args.db.0 pieces d.trees s2 c.covering_turned.result) read.now_is turned
      (covers_read pieces c.requires.some p c.index-pieces-0.is c.as_str-term.result.now c.first_block-block.result c.as_str-term.ensures c.first_block-block.ensures (IsLeafIn s0.now.trees at) leaf covers);
}

pub returns-in_default-clause-work : goal.returns-in_default-clause-work
returns-in_default-clause-work g c clean inside store =
    let s0 = state g.S.Store c.args.tx.now.conn.now in
    let s1 = state g.S.Store c.leaf_inside.new.tx.conn.now in
    let s2 = state g.S.Store c.register_begun.new.tx.conn.now in
    let clean1 : HasCleanDisk s1 = omega (arith, c.register_begun.ensures.call.does.crash.clean) in
    let read = c.in_ok-leaf.ensures.looks.call.ok clean1 inside in
    let counts = turn_counted 0 c.register_begun.result s1.now.trees s2.now.trees c.args.work.now c.register_begun.new.work (c.register_begun.ensures.work clean read.mode (store_same s0 s1 read.now_is store)) in
    subst (λ (d : Database). OnOk c.register_begun.result (WorksOnLeaves 1 d.trees s2.now.trees c.args.work.now c.register_begun.new.work)) read.now_is counts

pub returns-clause-work : goal.returns-clause-work
returns-clause-work g c clean inside store =
    let s0 = state g.S.Store c.args.tx.now.conn.now in
    let s1 = state g.S.Store c.leaf_inside.new.tx.conn.now in
    let s2 = state g.S.Store c.covering_turned.new.tx.conn.now in
    let clean1 : HasCleanDisk s1 = omega (arith, c.covering_turned.ensures.call.does.crash.clean) in
    let read = c.in_ok-leaf.ensures.looks.call.ok clean1 inside in
    let counts = c.covering_turned.ensures.work clean read.mode (store_same s0 s1 read.now_is store) in
    subst (λ (d : Database). OnOk c.covering_turned.result (WorksOnLeaves 1 d.trees s2.now.trees c.args.work.now c.covering_turned.new.work)) read.now_is counts

pub returns-in_default-clause-call : goal.returns-in_default-clause-call
returns-in_default-clause-call g c = record { same = search rules; does = reads_goes_on _ _ _ _ c.register_begun.result c.in_ok-leaf.ensures.looks.call c.register_begun.ensures.call.does }

pub returns-clause-call : goal.returns-clause-call
returns-clause-call g c = record { same = search rules; does = reads_goes_on _ _ _ _ c.covering_turned.result c.in_ok-leaf.ensures.looks.call c.covering_turned.ensures.call.does }
