-- The leaves so far were put.
use Rattle.zeb_leaves.proofs.Cited.{state, HasCleanDisk, ◌≡◌, ◌≤◌, length, IsStore, blocks_tree, Survives, GainsLeaves, Stays, Changes, HasMoreLeaves}
use Rattle.std.proofs.Common.{IsTrue, take}
use Rattle.zeb_leaves.proofs.writes.new_leaves_add.Given as goal

abbrev pub invariant-loop-leaf : goal.invariant-loop-leaf
invariant-loop-leaf g l =
    let old = state g.S.Store l.fn.tx.conn.now in
    let now = state g.S.Store l.tx.conn.now in
    record {
      same : l.tx.conn.ghost_name ≡ l.fn.tx.conn.ghost_name;
      crash : Survives old now (λ _. ⊥);
      stays : HasCleanDisk now → IsTrue old.in_transaction → Stays old now;
      within : l.leaf-index ≤ length l.leaves;
      rows : HasCleanDisk now → IsTrue old.in_transaction → IsStore old → HasMoreLeaves l.leaf-index old.now.trees now.now.trees;
      put : HasCleanDisk now → IsTrue old.in_transaction → IsStore old → Changes blocks_tree (GainsLeaves l.at (take l.leaf-index l.leaves)) old now;
    }
