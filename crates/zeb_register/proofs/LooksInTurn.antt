-- Calls that look into a store's tables, one after the other: what they find is told, or the refusal of one is handed on.
use Rattle.zeb_register.proofs.Cited.{Database, State, Trees, ◌≡◌, Result, Ok, Err, Error, RegFault, Damaged, Store, RowFault, subst, refl, Asks, fault_of, IsStore, LooksInto}
use Rattle.std.specs.Result.{IsErrAnd}
use Rattle.zeb_register.specs.Answers.{IfDamaged, IfRowDamaged}
use Rattle.zeb_register.proofs.Answered.{fault_met, refused_so}
use Rattle.zeb_register.proofs.Calls.{reading_behind, store_same}
use Rattle.zeb_register.proofs.Causes.{reasoned_after}
use Rattle.zeb_register.proofs.HandedOn.{as_met, clean_before, failed_behind, failed_reading, never_damaged, not_damaged, not_refused, shows_none, told_as, told_reading}
use Rattle.zeb_register.proofs.RowFaults.{IsRefusedBy, never_store, refused_rows}

-- ---- a call that asks, as one that looks

pub looks_as : {A : Type 0} (a b : State) (x : A) (P : Trees → A → Type 0) → Asks a b (Ok x) P → LooksInto (λ _. ⊥) P a b (Ok x)
looks_as a b x P it = record { call = told_reading a b x x _ (λ same. same) it.call; finds = it.value; refused = λ clean store is. absurd (not_refused x Store is); opened = λ clean is. absurd (not_refused x Damaged is) }

-- its error is told as a fault
pub looks_failed : {A B : Type 0} (a b : State) (e : Error) (r : Result B RegFault) (P : Trees → A → Type 0) (D : Trees → Type 0) (F : Trees → B → Type 0) → Asks a b (Err e) P → IsErrAnd r (λ met. met ≡ fault_of e) → LooksInto D F a b r
looks_failed a b e r P D F it failed = record {
  call = failed_reading _ a b e r _ _ it.call failed;
  finds = λ clean store. refused_so (IfDamaged (D a.now.trees)) (F a.now.trees) r (fault_of e) (fault_met r (fault_of e) failed) (λ is. absurd (not_damaged e is));
  refused = λ clean store is. it.refused clean store (told_as e r failed Store is);
  opened = λ clean is. absurd (never_damaged e r failed is);
}

-- ---- one call

-- another answer is given to what was found
pub looks_so : {A B : Type 0} (a b : State) (x : A) (y : B) (D E : Trees → Type 0) (F : Trees → A → Type 0) (G : Trees → B → Type 0) → LooksInto D F a b (Ok x) → (IsStore a → F a.now.trees x → G a.now.trees y) → LooksInto E G a b (Ok y)
looks_so a b x y D E F G it so = record { call = told_reading a b x y _ (λ same. same) it.call; finds = λ clean store. so store (it.finds clean store); refused = λ clean store is. absurd (not_refused y Store is); opened = λ clean is. absurd (not_refused y Damaged is) }

-- the same of what a call that asks told
pub looks_told : {A B : Type 0} (a b : State) (x : A) (y : B) (P : Trees → A → Type 0) (D : Trees → Type 0) (F : Trees → B → Type 0) → Asks a b (Ok x) P → (IsStore a → P a.now.trees x → F a.now.trees y) → LooksInto D F a b (Ok y)
looks_told a b x y P D F it so = looks_so a b x y (λ _. ⊥) D P F (looks_as a b x P it) so

-- its refusal is handed on
pub looks_handed : {A B : Type 0} (a b : State) (fault : RegFault) (r : Result B RegFault) (D E : Trees → Type 0) (F : Trees → A → Type 0) (G : Trees → B → Type 0)
    → LooksInto D F a b (Err fault) → IsErrAnd r (λ met. met ≡ fault) → (IsStore a → D a.now.trees → E a.now.trees) → LooksInto E G a b r
looks_handed a b fault r D E F G it failed so = record {
  call = failed_reading _ a b fault r _ _ it.call failed;
  finds = λ clean store. refused_so (IfDamaged (E a.now.trees)) (G a.now.trees) r fault (fault_met r fault failed) (λ is. so store (it.finds clean store is));
  refused = λ clean store is. it.refused clean store (as_met r fault Store failed is);
  opened = λ clean is. it.opened clean (as_met r fault Damaged failed is);
}

-- the rows that it found are refused
pub found_refused : {A B : Type 0} (a b : State) (x : A) (rows : RowFault) (r : Result B RegFault) (D E : Trees → Type 0) (F : Trees → A → Type 0) (G : Trees → B → Type 0)
    → LooksInto D F a b (Ok x) → IsRefusedBy rows r → (IsStore a → F a.now.trees x → IfRowDamaged (E a.now.trees) rows) → LooksInto E G a b r
found_refused a b x rows r D E F G it failed so = record {
  call = record { idle = it.call.idle; ok = λ clean. shows_none _ r _ failed; same = it.call.same; crash = it.call.crash };
  finds = λ clean store. refused_rows rows r failed (E a.now.trees) (G a.now.trees) (so store (it.finds clean store));
  refused = λ clean store is. absurd (never_store rows r failed is);
  opened = λ clean is. (it.call.ok clean).0.was_open;
}

-- the same of rows that a call that asks told
pub looks_refused : {A B : Type 0} (a b : State) (x : A) (rows : RowFault) (r : Result B RegFault) (P : Trees → A → Type 0) (D : Trees → Type 0) (F : Trees → B → Type 0)
    → Asks a b (Ok x) P → IsRefusedBy rows r → (IsStore a → P a.now.trees x → IfRowDamaged (D a.now.trees) rows) → LooksInto D F a b r
looks_refused a b x rows r P D F it failed so = found_refused a b x rows r (λ _. ⊥) D P F (looks_as a b x P it) failed so

-- ---- one call behind another

module _ {A B C : Type 0} (a b c : State) (x : A) (D E M : Trees → Type 0) (F : Trees → A → Type 0) (G : Trees → B → Type 0) (H : Trees → C → Type 0) (first : LooksInto D F a b (Ok x)) where
  -- an answer is given to what both found
  pub looks_behind : (y : B) (z : C) → LooksInto E G b c (Ok y) → (IsStore a → F a.now.trees x → G a.now.trees y → H a.now.trees z) → LooksInto M H a c (Ok z)
  looks_behind y z second so = record {
    call = reading_behind a b c y z _ first.call.idle first.call.ok first.call.same first.call.crash second.call (λ same. same);
    finds = λ clean store.
        let before = clean_before b c second.call.crash clean in
        let same = (first.call.ok before).0.now_is in
        so store (first.finds before store) (subst (λ (d : Database). G d.trees y) same (second.finds clean (store_same a b same store)));
    refused = λ clean store is. absurd (not_refused z Store is);
    opened = λ clean is. absurd (not_refused z Damaged is);
  }

  -- the second is refused, and that is handed on
  pub looks_handed_behind : (fault : RegFault) (r : Result C RegFault) → LooksInto E G b c (Err fault) → IsErrAnd r (λ met. met ≡ fault) → (IsStore a → F a.now.trees x → E a.now.trees → M a.now.trees) → LooksInto M H a c r
  looks_handed_behind fault r second failed so = record {
    call = failed_behind _ a b c x fault r _ _ first.call second.call failed;
    finds = λ clean store.
        let before = clean_before b c second.call.crash clean in
        let same = (first.call.ok before).0.now_is in
        refused_so (IfDamaged (M a.now.trees)) (H a.now.trees) r fault (fault_met r fault failed)
        (λ is. so store (first.finds before store) (subst (λ (d : Database). E d.trees) same (second.finds clean (store_same a b same store) is)));
    refused = λ clean store is. reasoned_after {A = B} a b c (Err fault) first.call.crash first.call.ok second.call.crash second.refused (as_met r fault Store failed is) clean store;
    opened = λ clean is. (first.call.ok (clean_before b c second.call.crash clean)).0.was_open;
  }

-- the answer is that of the second
pub looks_then : {A B : Type 0} (a b c : State) (x : A) (r : Result B RegFault) (D E M : Trees → Type 0) (F : Trees → A → Type 0) (G H : Trees → B → Type 0) → LooksInto D F a b (Ok x) → LooksInto E G b c r
    → (IsStore a → F a.now.trees x → E a.now.trees → M a.now.trees) → (IsStore a → F a.now.trees x → (y : B) → G a.now.trees y → H a.now.trees y) → LooksInto M H a c r
looks_then a b c x (Ok y) D E M F G H first second damaged so = looks_behind a b c x D E M F G H first y y second (λ store found. so store found y)
looks_then {A} {B} a b c x (Err fault) D E M F G H first second damaged so = looks_handed_behind a b c x D E M F G H first fault (Err fault) second refl damaged
