use Rattle.zeb_packed.proofs.Cited.{◌≡◌, ◌≤◌, ◌-◌, IsTrue, drop, length, state, HasCleanDisk, Survives, Changes, IsStore, blocks_tree, Stays, AllowsBlocks}
use Rattle.zeb_packed.proofs.UnitRuns.{LeadsOn}
use Rattle.zeb_packed.proofs.packed_runs.runs_put.Given as goal

abbrev pub invariant-loop-done : goal.invariant-loop-done
invariant-loop-done g l =
    let old = state g.S.Store l.fn.tx.conn.now in
    let now = state g.S.Store l.tx.conn.now in
    record {
      same : l.tx.conn.ghost_name ≡ l.fn.tx.conn.ghost_name;
      within : l.done ≤ length l.changes;
      crash : Survives old now (λ _. ⊥);
      stays : HasCleanDisk now → IsTrue old.in_transaction → Stays old now;
      few : l.known.records ≤ 999999999;
      turned : HasCleanDisk now → IsTrue old.in_transaction → IsStore old → Changes blocks_tree (LeadsOn l.db.0 l.key l.changes l.done l.fn.known l.known) old now;
      left : HasCleanDisk now → IsTrue old.in_transaction → IsStore old → AllowsBlocks l.db.0 l.key l.changes (λ block. l.fn.known.clear_from ≤ block) l.fn.known.records old.now.trees
          → AllowsBlocks l.db.0 l.key (drop l.done l.changes) (λ block. l.known.clear_from ≤ block) l.known.records now.now.trees;
    }

abbrev pub decreases-loop-done : goal.decreases-loop-done
decreases-loop-done g l = length l.changes - l.done
