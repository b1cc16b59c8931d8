-- What work does to rows inside a transaction, carried to its end.
use Rattle.zeb_engine.proofs.Cited.{◌≡◌, ◌∙◌, true, false, Result, Ok, Err, arith, sym, subst, Database, State, HasCleanDisk, Survives, Shows, Ghosts, Held, state, quiet_then, ChangesNothing, IsStore, store_same, Refusal, Reply, StaysOpen, CommitsRows, Transacts}
use Rattle.zeb_engine.proofs.CommandsDone.{nothing_commits}
use Rattle.zeb_engine.proofs.CommitCrashes.{commit_survives, survives_after, survives_inside}

module _ (Does : (old new : Database) → Result Reply Refusal → Type 0) where
  -- `inside` is the connection as the transaction begins, and `mid` as the work has ended
  module _ {S : Type 0} (g : Ghosts S) (old inside : Held S) (mid : State) (begins : inside ≡ record old { in_transaction = true }) (quiet : Survives (state g inside) mid (λ _. ⊥)) where
    store_inside : IsStore (state g old) → IsStore (state g inside)
    store_inside store = subst (λ (held : Held _). IsStore (state g held)) (sym begins) (record { is = store.is; sound = store.sound; keyed = store.keyed })

    at_start : (new : Database) (result : Result Reply Refusal) → Does (state g inside).now new result → Does (state g old).now new result
    at_start new result = subst (λ (held : Held _). Does (state g held).now new result) begins

    -- the work was refused, and is undone
    pub undone : (end : Held S) (refusal : Refusal) → Survives mid (state g end) (λ _. ⊥) → (HasCleanDisk mid → IsStore (state g inside) → (new : Database) → Does (state g inside).now new (Err refusal))
        → Transacts Does (state g old) (state g end) (Err refusal)
    undone end refusal after does = record {
      rows = λ clean store. at_start (state g end).now (Err refusal) (does (omega (arith, clean, after.clean)) (store_inside store) (state g end).now);
      settled = λ clean. tt;
      survives = nothing_commits (state g old) (state g end) _ (survives_inside g old inside (state g end) (λ _. ⊥) begins (quiet_then (state g inside) mid (state g end) quiet after));
    }

    module _ (end : Held S) (told : Reply) (commits : Survives mid (state g end) (λ db. db ≡ mid.now.trees)) (does : HasCleanDisk mid → IsStore (state g inside) → Does (state g inside).now mid.now (Ok told)) where
      done : HasCleanDisk (state g end) → IsStore (state g old) → Does (state g old).now mid.now (Ok told)
      done clean store = at_start mid.now (Ok told) (does (omega (arith, clean, commits.clean)) (store_inside store))

      may_be_left : Survives (state g old) (state g end) (CommitsRows Does (state g old))
      may_be_left = commit_survives g old inside mid (state g end) (CommitsRows Does (state g old)) begins quiet commits (λ clean db is store. (told, mid.now, is, done clean store))

      -- it was done, and is committed
      pub committed : (HasCleanDisk (state g end) → Shows mid (state g end) mid.now mid.now false) → Transacts Does (state g old) (state g end) (Ok told)
      committed shows = record {
        rows = λ clean store. subst (λ (d : Database). Does (state g old).now d (Ok told)) (sym (shows clean).now_is) (done clean store);
        settled = λ clean. (shows clean).committed_is ∙ sym (shows clean).now_is;
        survives = may_be_left;
      }

      -- the commit failed, and may have reached the disk
      pub uncommitted : (refusal : Refusal) → ((new : Database) → Does (state g old).now new (Err refusal)) → Transacts Does (state g old) (state g end) (Err refusal)
      uncommitted refusal fails = record { rows = λ clean store. fails (state g end).now; settled = λ clean. tt; survives = may_be_left }

  -- it was refused by a look at the tables
  pub looked : (old new : State) (refusal : Refusal) → Survives old new (λ _. ⊥) → (HasCleanDisk new → IsStore old → (next : Database) → Does old.now next (Err refusal)) → Transacts Does old new (Err refusal)
  looked old new refusal quiet does = record { rows = λ clean store. does clean store new.now; settled = λ clean. tt; survives = nothing_commits old new _ quiet }

  -- behind a look at the tables
  module _ (After : (old new : Database) → Result Reply Refusal → Type 0) (old mid new : State) (result : Result Reply Refusal) (quiet : Survives old mid (λ _. ⊥)) (nothing : HasCleanDisk mid → ChangesNothing old mid) (opened : HasCleanDisk mid → StaysOpen old mid) where
    pub behind : (HasCleanDisk mid → IsStore old → (next : Database) (told : Result Reply Refusal) → After old.now next told → Does old.now next told) → Transacts After mid new result → Transacts Does old new result
    behind so did =
        let same : HasCleanDisk mid → mid.now ≡ old.now = λ clean. (nothing clean (opened clean).1).1 in
        let first : HasCleanDisk new → HasCleanDisk mid = λ clean. omega (arith, clean, did.survives.clean) in
        let goes : HasCleanDisk mid → IsStore old → (next : Database) (told : Result Reply Refusal) → After mid.now next told → Does old.now next told =
        λ clean store next told does. so clean store next told (subst (λ (d : Database). After d next told) (same clean) does) in
        record {
          rows = λ clean store. goes (first clean) store new.now result (did.rows clean (store_same old mid (same (first clean)) store));
          settled = did.settled;
          survives = survives_after old mid new (CommitsRows After mid) (CommitsRows Does old) quiet did.survives (λ clean db made store.
              let left = made (store_same old mid (same (first clean)) store) in
              (left.0, left.1, left.2, goes (first clean) store left.1 (Ok left.0) left.3));
        }
