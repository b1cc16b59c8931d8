-- Calls inside a transaction that look into a store's tables, one after the other: what they find is told, or the refusal of one is handed on.
use Rattle.zeb_register.proofs.Cited.{rules, Database, State, Trees, HasCleanDisk, IsTrue, ◌≡◌, ◌∙◌, Result, Ok, Err, IfOk, subst, IsStore, Inside, OnlyReads}
use Rattle.std.specs.Result.{IsErrAnd}
use Rattle.zeb_register.specs.Answers.{Answers, LooksInside}
use Rattle.zeb_register.proofs.Answered.{fault_met, refused_so}
use Rattle.zeb_register.proofs.Calls.{goes_keeps, on_err, reads_goes, reads_keeps, store_same}
use Rattle.zeb_register.proofs.CallsInTurn.{quiet_then}
use Rattle.zeb_register.proofs.HandedOn.{clean_before, failed_inside, shows_none}

on_ok : {A E : Type 0} (r : Result A E) (P : Type 0) → P → IfOk r (λ _. P)
on_ok (Ok x) P so = so
on_ok (Err e) P so = tt

reads_then : (a b c : State) → OnlyReads a b → OnlyReads b c → OnlyReads a c
reads_then a b c one two = record { was_open = one.was_open; is_open = two.is_open; now_is = two.now_is ∙ one.now_is; committed_is = two.committed_is ∙ one.committed_is; mode = two.mode }

both_read : {A B E F : Type 0} (a b c : State) (x : A) (y : B) → Inside {E = E} a b (Ok x) (λ _. OnlyReads) → Inside {E = F} b c (Ok y) (λ _. OnlyReads) → HasCleanDisk c → IsTrue a.in_transaction → OnlyReads a c
both_read a b c x y first second clean inside = let read = first.ok (clean_before b c second.crash clean) inside in reads_then a b c read (second.ok clean read.mode)

module _ {B F : Type 0} (S : Trees → F → Type 0) (G : Trees → B → Type 0) where
  -- ---- one call

  -- an answer or a refusal is given to what a statement showed
  pub shown_inside : {A E : Type 0} (a b : State) (x : A) (r : Result B F) (P : A → State → State → Type 0) → Inside {E = E} a b (Ok x) P → (P x a b → OnlyReads a b) → (P x a b → IsStore a → Answers (S a.now.trees) (G a.now.trees) r)
      → LooksInside S G a b r
  shown_inside a b x r P it bare so = record {
    call = record { ok = λ clean inside. on_ok r (OnlyReads a b) (bare (it.ok clean inside)); err = λ clean inside. on_err r _ (reads_keeps a b (bare (it.ok clean inside))); crash = it.crash };
    finds = λ clean inside store. so (it.ok clean inside) store;
  }

  module _ {A E : Type 0} (R : Trees → E → Type 0) (D : Trees → A → Type 0) where
    -- an answer or a refusal is given to what was found
    pub found_inside : (a b : State) (x : A) (r : Result B F) → LooksInside R D a b (Ok x) → (IsStore a → D a.now.trees x → Answers (S a.now.trees) (G a.now.trees) r) → LooksInside S G a b r
    found_inside a b x r it so = record {
      call = record { ok = λ clean inside. on_ok r (OnlyReads a b) (it.call.ok clean inside); err = λ clean inside. on_err r _ (reads_keeps a b (it.call.ok clean inside)); crash = it.call.crash };
      finds = λ clean inside store. so store (it.finds clean inside store);
    }

    -- its refusal is handed on
    pub handed_inside : (a b : State) (e : E) (fault : F) (r : Result B F) → LooksInside R D a b (Err e) → IsErrAnd r (λ met. met ≡ fault) → (IsStore a → R a.now.trees e → S a.now.trees fault) → LooksInside S G a b r
    handed_inside a b e fault r it failed so = record {
      call = failed_inside _ a b e r _ _ it.call failed;
      finds = λ clean inside store. refused_so (S a.now.trees) (G a.now.trees) r fault (fault_met r fault failed) (so store (it.finds clean inside store));
    }

    -- ---- one call behind another

    module _ {C Fault : Type 0} (Met : Trees → Fault → Type 0) (Next : Trees → C → Type 0) (a b c : State) (x : A) (first : LooksInside R D a b (Ok x)) where
      -- an answer or a refusal is given to what both found
      pub found_behind : (y : C) (r : Result B F) → LooksInside Met Next b c (Ok y) → (IsStore a → D a.now.trees x → Next a.now.trees y → Answers (S a.now.trees) (G a.now.trees) r) → LooksInside S G a c r
      found_behind y r second so = record {
        call = record {
          ok = λ clean inside. on_ok r (OnlyReads a c) (both_read a b c x y first.call second.call clean inside);
          err = λ clean inside. on_err r _ (reads_keeps a c (both_read a b c x y first.call second.call clean inside));
          crash = quiet_then a b c first.call.crash second.call.crash;
        };
        finds = λ clean inside store.
            let before = clean_before b c second.call.crash clean in
            let read = first.call.ok before inside in
            so store (first.finds before inside store) (subst (λ (d : Database). Next d.trees y) read.now_is (second.finds clean read.mode (store_same a b read.now_is store)));
      }

      -- the second is refused, and that is handed on
      pub handed_on_behind : (e : Fault) (fault : F) (r : Result B F) → LooksInside Met Next b c (Err e) → IsErrAnd r (λ met. met ≡ fault) → (IsStore a → D a.now.trees x → Met a.now.trees e → S a.now.trees fault) → LooksInside S G a c r
      handed_on_behind e fault r second failed so = record {
        call = record {
          ok = λ clean inside. shows_none _ r (λ _. OnlyReads a c) failed;
          err = λ clean inside. let read = first.call.ok (clean_before b c second.call.crash clean) inside in on_err r _ (goes_keeps a b c (reads_goes a b read) (second.call.err clean read.mode));
          crash = quiet_then a b c first.call.crash second.call.crash;
        };
        finds = λ clean inside store.
            let before = clean_before b c second.call.crash clean in
            let read = first.call.ok before inside in
            refused_so (S a.now.trees) (G a.now.trees) r fault (fault_met r fault failed)
            (so store (first.finds before inside store) (subst (λ (d : Database). Met d.trees e) read.now_is (second.finds clean read.mode (store_same a b read.now_is store))));
      }

-- the answer is that of the second
pub inside_then : {A B E F : Type 0} (R : Trees → E → Type 0) (D : Trees → A → Type 0) (Met S : Trees → F → Type 0) (Next G : Trees → B → Type 0) (a b c : State) (x : A) (r : Result B F) → LooksInside R D a b (Ok x) → LooksInside Met Next b c r
    → (IsStore a → D a.now.trees x → (fault : F) → Met a.now.trees fault → S a.now.trees fault) → (IsStore a → D a.now.trees x → (y : B) → Next a.now.trees y → G a.now.trees y) → LooksInside S G a c r
inside_then R D Met S Next G a b c x (Ok y) first second refused so = found_behind S G R D Met Next a b c x first y (Ok y) second (λ store found. so store found y)
inside_then R D Met S Next G a b c x (Err fault) first second refused so = handed_on_behind S G R D Met Next a b c x first fault fault (Err fault) second (search rules) (λ store found. refused store found fault)
