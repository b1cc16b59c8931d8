-- One leaf is put after the other.
use Rattle.zeb_leaves.proofs.Cited.{state, HasCleanDisk, all_has, ◌∙◌, [], arith, refl, blocks_tree, IsUtf8, NewLeaf, GainsLeaves, changes_none, stays_still, stays_then, quiet_still, quiet_then}
use Rattle.sqlite_rules.proofs.ListLemmas.{has_at}
use Rattle.zeb_leaves.proofs.WrittenLeaves.{gains_more, gains_none}
use Rattle.zeb_leaves.proofs.writes.new_leaves_add.Goals as goal

pub loop-leaf-init : goal.loop-leaf-init
loop-leaf-init g c =
    let first = state g.S.Store c.args.tx.now.conn.now in
    record {
      same = refl;
      crash = quiet_still first;
      stays = λ clean inside. stays_still first inside;
      within = omega arith;
      rows = λ clean inside store. omega arith;
      put = λ clean inside store. changes_none blocks_tree (GainsLeaves c.args.at []) first (gains_none c.args.at first blocks_tree) store;
    }

pub loop-leaf-preserved : goal.loop-leaf-preserved
loop-leaf-preserved g c = record {
  same = c.in_ok-new_leaf_add.ensures.call.same ∙ c.loop-leaf.invariant.same;
  crash = quiet_then _ _ _ c.loop-leaf.invariant.crash c.new_leaf_add.ensures.call.does.crash;
  stays = λ clean inside.
      let before = c.loop-leaf.invariant.stays (omega (arith, c.new_leaf_add.ensures.call.does.crash.clean)) inside in stays_then _ _ _ before (c.in_ok-new_leaf_add.ensures.call.does.ok clean before.inside).on;
  within = omega (arith, c.loop-leaf-test.true);
  rows = λ clean inside store.
      let mid : HasCleanDisk (state g.S.Store c.loop-leaf.tx.conn.now) = omega (arith, c.new_leaf_add.ensures.call.does.crash.clean) in
      let before = c.loop-leaf.invariant.stays mid inside in
      let so_far = c.loop-leaf.invariant.rows mid inside store in
      let one = c.in_ok-new_leaf_add.ensures.rows clean before.inside (c.loop-leaf.invariant.put mid inside store).layout in
      omega (arith, so_far, one);
  put = λ clean inside store.
      let mid : HasCleanDisk (state g.S.Store c.loop-leaf.tx.conn.now) = omega (arith, c.new_leaf_add.ensures.call.does.crash.clean) in
      let before = c.loop-leaf.invariant.stays mid inside in
      let put' = c.loop-leaf.invariant.put mid inside store in
      gains_more c.args.at c.args.leaves.now c.loop-leaf.leaf-index c.leaf-item.result _ _ _ c.loop-leaf-test.true c.leaf-item.is put' ((c.in_ok-new_leaf_add.ensures.call.does.ok clean before.inside).rows put'.layout);
}

pub new_leaf_add-requires : goal.new_leaf_add-requires
new_leaf_add-requires g c =
    let leaf = c.leaf-item.result in
    all_has (λ (l : NewLeaf). IsUtf8 l.term) c.args.leaves.now leaf c.requires (has_at c.args.leaves.now c.loop-leaf.leaf-index leaf c.loop-leaf-test.true c.leaf-item.is)

pub returns-clause-rows : goal.returns-clause-rows
returns-clause-rows g c clean inside store =
    let so_far = c.loop-leaf.invariant.rows clean inside store in
    omega (arith, so_far, c.loop-leaf.invariant.within, c.loop-leaf-test.false)
