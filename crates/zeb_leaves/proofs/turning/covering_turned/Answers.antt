use Rattle.zeb_leaves.proofs.Cited.{rules, HasCleanDisk, Row, Option, arith, state, subst, IsLeafIn, leaf_key, Database, option_map, OnOk, KeyOfBlock, HidesEnd, IsEndAt, EndsLeaf, End, CoversFirst, PutsFront, store_same, WorksOnLeaves}
use Rattle.zeb_leaves.proofs.CountedLeaves.{turn_counted}
use Rattle.zeb_leaves.proofs.FrontPieces.{covers_first, ends_leaf, one_key}
use Rattle.zeb_leaves.proofs.KeysTold.{told_ends, told_hides}
use Rattle.zeb_leaves.proofs.OwnedEntries.{end_shown}
use Rattle.zeb_leaves.proofs.PiecesWritten.{store_distinct}
use Rattle.zeb_leaves.proofs.TurningCalls.{reads_goes_on}
use Rattle.zeb_leaves.proofs.turning.covering_turned.Goals as goal

pub returns-in_err-end-clause-turned : goal.returns-in_err-end-clause-turned
returns-in_err-end-clause-turned g c = record {
  further = search rules;
  puts = λ clean inside store covers.
      let s = state g.S.Store c.args.tx.now.conn.now in
      let at = c.args.at in
      let told = c.in_ok-behind.ensures.looks.finds clean inside store in
      let hides = told_hides c.in_ok-behind.behind told.0 told.1 (subst HidesEnd c.as_ref.ensures.value c.in_err-end.ensures.refused.1) in
      absurd (end_shown (IsLeafIn s.now.trees at) (store_distinct s store at.db.0 (one_key at)) (leaf_key c.as_str.result.now c.first_block-block.result) told.0 told.2 hides);
}

pub returns-clause-turned : goal.returns-clause-turned
returns-clause-turned g c = record {
  further = c.leaf_turned.ensures.turned.further;
  puts = λ clean inside store covers.
      let s0 = state g.S.Store c.args.tx.now.conn.now in
      let s1 = state g.S.Store c.key_behind.new.tx.conn.now in
      let s2 = state g.S.Store c.leaf_turned.new.tx.conn.now in
      let p = c.index-pieces-0.result in
      let pieces = c.args.pieces.now in
      let at = c.args.at in
      let key = leaf_key c.as_str.result.now c.first_block-block.result in
      let leaf = c.args.leaf.now in
      let end : End = option_map (λ (k : KeyOfBlock). (k.term.now, k.block)) c.in_ok-end.end in
      let clean1 : HasCleanDisk s1 = omega (arith, c.leaf_turned.ensures.call.does.crash.clean) in
      let read = c.in_ok-behind.ensures.looks.call.ok clean1 inside in
      let told = c.in_ok-behind.ensures.looks.finds clean1 inside store in
      let ends = told_ends c.in_ok-behind.behind told.0 end told.1 (subst (λ (next : Option Row). IsEndAt next end) c.as_ref.ensures.value c.in_ok-end.ensures.ok) in
      let turned = c.leaf_turned.ensures.turned.puts clean read.mode (store_same s0 s1 read.now_is store) in
      subst (λ (d : Database). EndsLeaf (IsLeafIn d.trees at) leaf end → CoversFirst (IsLeafIn d.trees at) leaf pieces → PutsFront at.db.0 pieces d.trees s2 c.leaf_turned.result) read.now_is turned
      (ends_leaf (IsLeafIn s0.now.trees at) key leaf (covers_first pieces c.requires.some p c.index-pieces-0.is c.as_str.result.now c.first_block-block.result c.as_str.ensures c.first_block-block.ensures (IsLeafIn s0.now.trees at) leaf covers) told.0 end told.2 ends)
      covers;
}

pub returns-clause-work : goal.returns-clause-work
returns-clause-work g c clean inside store =
    let s0 = state g.S.Store c.args.tx.now.conn.now in
    let s1 = state g.S.Store c.key_behind.new.tx.conn.now in
    let s2 = state g.S.Store c.leaf_turned.new.tx.conn.now in
    let clean1 : HasCleanDisk s1 = omega (arith, c.leaf_turned.ensures.call.does.crash.clean) in
    let read = c.in_ok-behind.ensures.looks.call.ok clean1 inside in
    let counts = turn_counted 1 c.leaf_turned.result s1.now.trees s2.now.trees c.args.work.now c.leaf_turned.new.work (c.leaf_turned.ensures.work clean read.mode (store_same s0 s1 read.now_is store)) in
    subst (λ (d : Database). OnOk c.leaf_turned.result (WorksOnLeaves 1 d.trees s2.now.trees c.args.work.now c.leaf_turned.new.work)) read.now_is counts

pub returns-clause-call : goal.returns-clause-call
returns-clause-call g c = record { same = search rules; does = reads_goes_on _ _ _ _ c.leaf_turned.result c.in_ok-behind.ensures.looks.call c.leaf_turned.ensures.call.does }
