-- The rows so far are put.
use Rattle.zeb_packed.proofs.Cited.{Ok, GoesOnOpenOf, RegFault, ◌≤◌, ◌-◌, IsTrue, length, map, take, state, HasCleanDisk, Changes, IsStore, blocks_tree, AreLacking, GainsAll, new_block_row}
use Rattle.zeb_packed.proofs.held_rows.blocks_put.Given as goal

abbrev pub invariant-loop-done : goal.invariant-loop-done
invariant-loop-done g l =
    let old = state g.S.Store l.fn.tx.conn.now in
    let now = state g.S.Store l.tx.conn.now in
    record {
      call : GoesOnOpenOf {A = Unit {0}} {E = RegFault} g.S.Store l.fn.tx.conn l.tx.conn (Ok tt);
      within : l.done ≤ length l.blocks;
      put : HasCleanDisk now → IsTrue old.in_transaction → IsTrue old.is_open → IsStore old → Changes blocks_tree (GainsAll (map (new_block_row l.db.0) (take l.done l.blocks))) old now;
      lacking : HasCleanDisk now → IsTrue old.in_transaction → IsTrue old.is_open → IsStore old → AreLacking l.db.0 (take l.done l.blocks) old.now.trees;
    }

abbrev pub decreases-loop-done : goal.decreases-loop-done
decreases-loop-done g l = length l.blocks - l.done
