-- Calls that change nothing, one behind the other: none so far, or some.
use Rattle.zeb_leaves.proofs.Cited.{Trees, HasCleanDisk, State, ◌≡◌, ◌∙◌, Ok, Err, Result, refl, subst, Database, IsUnchanged, Survives, IfOk, nothing_then, store_same, quiet_still, quiet_then, may_after, unchanged_then, Answers, IfDamaged, LooksInto, ChangesNothing, Reading, RegFault}
use Rattle.std.proofs.Common.{IsTrue, false}
use Rattle.zeb_register.proofs.HandedOn.{clean_before}

pub record IsStill (a b : State) : Type 0 where
  pub idle : a.in_transaction ≡ false → b.in_transaction ≡ false
  pub kept : HasCleanDisk b → IsTrue b.is_open → IsUnchanged a b
  pub now_is : HasCleanDisk b → b.now ≡ a.now
  pub opened : HasCleanDisk b → IsTrue a.is_open → IsTrue b.is_open
  pub same : HasCleanDisk b → a.in_transaction ≡ false → ChangesNothing a b
  pub crash : Survives a b (λ _. ⊥)

itself : (s : State) → IsTrue s.is_open → IsUnchanged s s
itself s was = (record { was_open = was; is_open = was; now_is = refl; committed_is = refl; mode = refl }, record { changes = refl; last_rowid = refl }, refl)

pub none_yet : (s : State) → IsStill s s
none_yet s = record { idle = λ i. i; kept = λ clean was. itself s was; now_is = λ clean. refl; opened = λ clean was. was; same = λ clean i was. (was, refl, refl); crash = quiet_still s }

module _ {A : Type 0} (Damage : Trees → Type 0) (Found : Trees → A → Type 0) (a b c : State) (still : IsStill a b) where
  -- an accepted call more
  pub one_more : (x : A) → LooksInto Damage Found b c (Ok x) → IsStill a c
  one_more x it =
      let before = clean_before b c it.call.crash in
      record {
        idle = λ i. it.call.idle (still.idle i);
        kept = λ clean was. unchanged_then a b c (still.kept (before clean) (it.call.ok clean).0.was_open) (it.call.ok clean);
        now_is = λ clean. (it.call.ok clean).0.now_is ∙ still.now_is (before clean);
        opened = λ clean was. (it.call.ok clean).0.is_open;
        same = λ clean i. nothing_then a b c (still.same (before clean) i) (it.call.same clean (still.idle i));
        crash = quiet_then a b c still.crash it.call.crash;
      }

  -- what the next call looks for is there already before them
  pub looks_still : (r : Result A RegFault) → LooksInto Damage Found b c r → LooksInto Damage Found a c r
  looks_still r it =
      let before = clean_before b c it.call.crash in
      record {
        call = record {
          idle = λ i. it.call.idle (still.idle i);
          ok = λ clean. unchanged clean r (it.call.ok clean);
          same = λ clean i. nothing_then a b c (still.same (before clean) i) (it.call.same clean (still.idle i));
          crash = quiet_then a b c still.crash it.call.crash;
        };
        finds = λ clean store.
            let at = still.now_is (before clean) in
            subst (λ (d : Database). Answers (IfDamaged (Damage d.trees)) (Found d.trees) r) at (it.finds clean (store_same a b at store));
        refused = λ clean store is. may_after a b c still.crash (still.opened (before clean)) (λ _. it.refused clean (store_same a b (still.now_is (before clean)) store) is);
        opened = λ clean is. (still.kept (before clean) (it.opened clean is)).0.was_open;
      }
    where
      unchanged : HasCleanDisk c → (answer : Result A RegFault) → IfOk answer (λ _. IsUnchanged b c) → IfOk answer (λ _. IsUnchanged a c)
      unchanged clean (Ok x) h = unchanged_then a b c (still.kept (clean_before b c it.call.crash clean) h.0.was_open) h
      unchanged clean (Err e) h = tt

pub refused_still : {A E : Type 0} (a b : State) (e : E) → IsStill a b → Reading {A = A} a b (Err e) (λ _. IsUnchanged)
refused_still a b e still = record { idle = still.idle; ok = λ clean. tt; same = still.same; crash = still.crash }
