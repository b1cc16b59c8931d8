use Rattle.zeb_register.proofs.Cited.{state, HasCleanDisk, Survives, ◌≡◌, IsTrue, GoesOn, IsStore, CountsNothing}
use Rattle.zeb_register.proofs.RunTurns.{LeadsOn}
use Rattle.zeb_register.proofs.RunCounts.{WorksSoFar}
use Rattle.zeb_register.proofs.registers.Layout.run_changes.Given as goal

abbrev pub invariant-loop-one : goal.invariant-loop-one
invariant-loop-one g l =
    let old = state g.S.Store l.fn.tx.conn.now in
    let now = state g.S.Store l.tx.conn.now in
    record {
      same : l.tx.conn.ghost_name ≡ l.fn.tx.conn.ghost_name;
      crash : Survives old now (λ _. ⊥);
      on : HasCleanDisk now → IsTrue old.in_transaction → GoesOn old now;
      store : HasCleanDisk now → IsTrue old.in_transaction → IsStore old → IsStore now;
      leads : HasCleanDisk now → IsTrue old.in_transaction → IsStore old → LeadsOn g.Self.Layout.format l.db.0 l.run l.one-index old.now.trees now.now.trees;
      work : HasCleanDisk now → IsTrue old.in_transaction → IsStore old → WorksSoFar g.Self.Layout.format g.Self.Layout.row_work l.run l.one-index old.now.trees now.now.trees l.fn.work l.work;
      no_work : CountsNothing g.Self.Layout.format g.Self.Layout.row_work → l.work ≡ l.fn.work;
    }
