use Rattle.zeb_register.proofs.Cited.{state, HasCleanDisk, Survives, ◌≡◌, ◌≤◌, IsTrue, length, take, IsStore, Puts}
use Rattle.zeb_register.proofs.Calls.{Stays}
use Rattle.zeb_register.proofs.plain_changes.places_put.Given as goal

abbrev pub invariant-loop-place : goal.invariant-loop-place
invariant-loop-place g l =
    let old = state g.S.Store l.fn.tx.conn.now in
    let now = state g.S.Store l.tx.conn.now in
    record {
      same : l.tx.conn.ghost_name ≡ l.fn.tx.conn.ghost_name;
      crash : Survives old now (λ _. ⊥);
      stays : HasCleanDisk now → IsTrue old.in_transaction → Stays old now;
      within : l.place-index ≤ length l.places;
      put : HasCleanDisk now → IsTrue old.in_transaction → IsStore old → Puts l.db.0 l.key l.sysno (take l.place-index l.places) old now;
    }
