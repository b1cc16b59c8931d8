use Rattle.zeb_change.proofs.Cited.{◌≡◌, IsTrue, Result, length, state, HasCleanDisk, Survives, Trees, RegFault, IsStore, Continues, CountsInStore, CountsNothing, WritesNotes}
use Rattle.zeb_change.proofs.writing.write_runs.Given as goal

abbrev pub invariant-loop-taken : goal.invariant-loop-taken
invariant-loop-taken g l =
    let old = state g.S.Store l.fn.tx.conn.now in
    let now = state g.S.Store l.tx.conn.now in
    record {
      same : l.tx.conn.ghost_name ≡ l.fn.tx.conn.ghost_name;
      crash : Survives old now (λ _. ⊥);
      stays : HasCleanDisk now → IsTrue old.in_transaction → Continues old now;
      store : HasCleanDisk now → IsTrue old.in_transaction → IsStore old → IsStore now;
      leads : HasCleanDisk now → IsTrue old.in_transaction → IsStore old → (end : Trees) (result : Result (Unit {0}) RegFault)
          → WritesNotes g.L.Layout.format l.db.0 l.pending.notes.entries now.now.trees end result → WritesNotes g.L.Layout.format l.db.0 l.fn.pending.notes.entries old.now.trees end result;
      due : CountsInStore g.L.Layout.format g.L.Layout.row_work old now l.fn.work l.work l.fn.pending l.pending;
      no_work : CountsNothing g.L.Layout.format g.L.Layout.row_work → l.work ≡ l.fn.work;
    }

abbrev pub decreases-loop-taken : goal.decreases-loop-taken
decreases-loop-taken g l = length l.pending.notes.entries
