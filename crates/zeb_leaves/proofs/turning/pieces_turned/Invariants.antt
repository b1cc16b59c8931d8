-- The pieces so far are put; what is left leads to any end as all do from the start.
use Rattle.zeb_leaves.proofs.Cited.{state, HasCleanDisk, ◌≡◌, ◌≤◌, length, IsStore, Survives, Stays, LeadsOn, packed_leaves, WorksOnLeaves}
use Rattle.std.proofs.Common.{◌-◌, IsTrue}
use Rattle.zeb_leaves.proofs.turning.pieces_turned.Given as goal

abbrev pub invariant-loop-done : goal.invariant-loop-done
invariant-loop-done g l =
    let old = state g.S.Store l.fn.tx.conn.now in
    let now = state g.S.Store l.tx.conn.now in
    record {
      same : l.tx.conn.ghost_name ≡ l.fn.tx.conn.ghost_name;
      within : l.done ≤ length l.pieces;
      crash : Survives old now (λ _. ⊥);
      stays : HasCleanDisk now → IsTrue old.in_transaction → Stays old now;
      store : HasCleanDisk now → IsTrue old.in_transaction → IsStore old → IsStore now;
      work : HasCleanDisk now → IsTrue old.in_transaction → IsStore old → WorksOnLeaves l.done old.now.trees now.now.trees l.fn.work l.work;
      leads : HasCleanDisk now → IsTrue old.in_transaction → IsStore old → LeadsOn packed_leaves l.db.0 l.pieces l.done old.now.trees now.now.trees;
    }

abbrev pub decreases-loop-done : goal.decreases-loop-done
decreases-loop-done g l = length l.pieces - l.done
