use Rattle.zeb_image.proofs.Cited.{◌≡◌, IsTrue, map, take, state, HasCleanDisk, Survives, Has, GoesOn, AreDatabases, IsStore, KeepsLists, ListedDatabase, HoldsSuch, AreSoundIn}
use Rattle.zeb_image.proofs.RebuiltPostings.{ArePostedIn}
use Rattle.zeb_image.proofs.RebuiltImages.{id_in}
use Rattle.zeb_image.proofs.rebuilding.rebuild.Given as goal

abbrev pub invariant-loop-database : goal.invariant-loop-database
invariant-loop-database g l =
    let old = state g.S.Store l.fn.tx.conn.now in
    let now = state g.S.Store l.tx.conn.now in
    record {
      same : l.tx.conn.ghost_name ≡ l.fn.tx.conn.ghost_name;
      crash : Survives old now (λ _. ⊥);
      goes_on : HasCleanDisk now → IsTrue old.in_transaction → GoesOn old now;
      kept : HasCleanDisk now → IsTrue old.in_transaction → IsStore old → IsStore now × KeepsLists old.now.trees now.now.trees;
      listed : HasCleanDisk now → IsTrue old.in_transaction → IsStore old → AreDatabases old.now.trees l.database-items;
      checked : HasCleanDisk now → IsTrue old.in_transaction → IsStore old
          → (d : ListedDatabase) → Has (take l.database-index l.database-items) d → AreSoundIn l.profile old.now.trees d.id.0;
      posted : HasCleanDisk now → IsTrue old.in_transaction → IsStore old
          → HoldsSuch g.L.Layout.format now.now.trees (ArePostedIn l.profile old.now.trees (map id_in (take l.database-index l.database-items)));
    }
