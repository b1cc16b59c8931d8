use Rattle.zeb_register.proofs.Cited.{state, HasCleanDisk, Survives, ◌≡◌, IsTrue, GoesOn, IsStore}
use Rattle.zeb_register.proofs.PlainTurns.{LeadsOn}
use Rattle.zeb_register.proofs.plain_changes.key_changes_plain.Given as goal

abbrev pub invariant-loop-change : goal.invariant-loop-change
invariant-loop-change g l =
    let old = state g.S.Store l.fn.tx.conn.now in
    let now = state g.S.Store l.tx.conn.now in
    record {
      same : l.tx.conn.ghost_name ≡ l.fn.tx.conn.ghost_name;
      crash : Survives old now (λ _. ⊥);
      on : HasCleanDisk now → IsTrue old.in_transaction → GoesOn old now;
      store : HasCleanDisk now → IsTrue old.in_transaction → IsStore old → IsStore now;
      leads : HasCleanDisk now → IsTrue old.in_transaction → IsStore old → LeadsOn l.db.0 l.key l.changes l.change-index old.now.trees now.now.trees;
    }
