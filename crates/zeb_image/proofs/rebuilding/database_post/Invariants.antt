use Rattle.zeb_image.proofs.Cited.{◌≡◌, ◌<◌, ◌≤◌, ℕ, pos, List, IsTrue, state, HasCleanDisk, Survives, Content, IsStorable, holds_in, HasRecord, IsStore, KeepsLists, Continues, LacksDatabase, WillHoldSuch, IsSound}
use Rattle.zeb_image.proofs.RebuiltPostings.{IsPostedBelow}
use Rattle.zeb_image.proofs.rebuilding.database_post.Given as goal

abbrev pub invariant-loop-turn : goal.invariant-loop-turn
invariant-loop-turn g l =
    let old = state g.S.Store l.fn.tx.conn.now in
    let now = state g.S.Store l.tx.conn.now in
    record {
      same : l.tx.conn.ghost_name ≡ l.fn.tx.conn.ghost_name;
      crash : Survives old now (λ _. ⊥);
      stays : HasCleanDisk now → IsTrue old.in_transaction → Continues old now;
      small : l.next ≤ 1000000000;
      kept : HasCleanDisk now → IsTrue old.in_transaction → IsStore old → IsStore now × KeepsLists old.now.trees now.now.trees;
      checked : HasCleanDisk now → IsTrue old.in_transaction → IsStore old
          → (n : ℕ) (ident bytes : List ℕ) → n < l.next → HasRecord old.now.trees l.db.0 (pos n) ident bytes → IsSound l.profile (record { sysno = n; ident = ident; bytes = bytes });
      posted : HasCleanDisk now → IsTrue old.in_transaction → IsStore old
          → (before : Content) → holds_in g.L.Layout.format old.now.trees before → IsStorable before → LacksDatabase l.db.0 before
          → WillHoldSuch g.L.Layout.format now.now.trees l.db.0 l.pending (IsPostedBelow l.profile old.now.trees l.db.0 l.next before);
    }
