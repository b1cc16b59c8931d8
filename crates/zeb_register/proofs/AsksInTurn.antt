-- Calls that ask a store's tables, one after the other: what they tell is told, or the refusal of one is handed on.
use Rattle.zeb_register.proofs.Cited.{Database, Row, State, Trees, ◌≡◌, ℕ, List, Result, Ok, Err, Error, refl, subst, IsListOf, Asks, IsStore, LooksUp}
use Rattle.std.specs.Result.{IsErrAnd}
use Rattle.sqlite.specs.State.{Shown}
use Rattle.zeb_register.proofs.Calls.{reading_behind, store_same}
use Rattle.zeb_register.proofs.HandedOn.{clean_before, error_behind, failed_behind, failed_reading, handed_error, shows_none, told_reading}
use Rattle.zeb_register.proofs.Refusals.{IsReasonedQuery, why_failed}

-- ---- one statement

module _ {A : Type 0} {rows : A → List Row} {sql : List ℕ} {params : Row} where
  -- what its rows mean is told
  pub asks_rows : (P : Trees → List Row → Type 0) → IsReasonedQuery sql params → (old new : State) (r : Result A Error)
      → ((all : List Row) → IsStore old → Shown sql params old new all → P old.now.trees all) → LooksUp rows sql params old new r → Asks old new r (λ trees x. P trees (rows x))
  asks_rows P reasoned old new (Ok x) means looks = record { call = looks.call; value = λ clean store. means (rows x) store (looks.ok clean); refused = λ clean store. tt }
  asks_rows P reasoned old new (Err e) means looks = record { call = looks.call; value = λ clean store. tt; refused = why_failed reasoned old new (Err e) looks }

  -- the rows are listed
  pub asks_list : (P : Trees → Row → Type 0) → IsReasonedQuery sql params → (old new : State) (r : Result A Error)
      → ((all : List Row) → IsStore old → Shown sql params old new all → IsListOf (P old.now.trees) all) → LooksUp rows sql params old new r → Asks old new r (λ trees x. IsListOf (P trees) (rows x))
  asks_list P = asks_rows (λ trees all. IsListOf (P trees) all)

-- ---- one call

-- another answer is given to what was told
pub asks_so : {A B : Type 0} (a b : State) (x : A) (y : B) (P : Trees → A → Type 0) (Q : Trees → B → Type 0) → Asks a b (Ok x) P → (IsStore a → P a.now.trees x → Q a.now.trees y) → Asks a b (Ok y) Q
asks_so a b x y P Q it so = record { call = told_reading a b x y _ (λ same. same) it.call; value = λ clean store. so store (it.value clean store); refused = λ clean store. tt }

-- its refusal is handed on
pub asks_handed : {A B : Type 0} (a b : State) (e : Error) (r : Result B Error) (P : Trees → A → Type 0) (Q : Trees → B → Type 0) → Asks a b (Err e) P → IsErrAnd r (λ met. met ≡ e) → Asks a b r Q
asks_handed a b e r P Q it failed = record {
  call = failed_reading _ a b e r _ _ it.call failed;
  value = λ clean store. shows_none _ r _ failed;
  refused = handed_error a b e r it.refused failed;
}

-- ---- one call behind another

-- an answer is given to what both told
pub asks_behind : {A B C : Type 0} (a b c : State) (x : A) (y : B) (z : C) (P : Trees → A → Type 0) (Q : Trees → B → Type 0) (R : Trees → C → Type 0)
    → Asks a b (Ok x) P → Asks b c (Ok y) Q → (IsStore a → P a.now.trees x → Q a.now.trees y → R a.now.trees z) → Asks a c (Ok z) R
asks_behind a b c x y z P Q R first second so = record {
  call = reading_behind a b c y z _ first.call.idle first.call.ok first.call.same first.call.crash second.call (λ same. same);
  value = λ clean store.
      let before = clean_before b c second.call.crash clean in
      let same = (first.call.ok before).0.now_is in
      so store (first.value before store) (subst (λ (d : Database). Q d.trees y) same (second.value clean (store_same a b same store)));
  refused = λ clean store. tt;
}

-- the second fails, and its refusal is handed on
pub asks_handed_behind : {A B C : Type 0} (a b c : State) (x : A) (e : Error) (r : Result C Error) (P : Trees → A → Type 0) (Q : Trees → B → Type 0) (R : Trees → C → Type 0)
    → Asks a b (Ok x) P → Asks b c (Err e) Q → IsErrAnd r (λ met. met ≡ e) → Asks a c r R
asks_handed_behind a b c x e r P Q R first second failed = record {
  call = failed_behind _ a b c x e r _ _ first.call second.call failed;
  value = λ clean store. shows_none _ r _ failed;
  refused = error_behind a b c x e r first.call second.call.crash second.refused failed;
}

-- the answer is that of the second
pub asks_then : {A B : Type 0} (a b c : State) (x : A) (r : Result B Error) (P : Trees → A → Type 0) (Q R : Trees → B → Type 0)
    → Asks a b (Ok x) P → Asks b c r Q → (IsStore a → P a.now.trees x → (y : B) → Q a.now.trees y → R a.now.trees y) → Asks a c r R
asks_then a b c x (Ok y) P Q R first second so = asks_behind a b c x y y P Q R first second (λ store told. so store told y)
asks_then a b c x (Err e) P Q R first second so = asks_handed_behind a b c x e (Err e) P Q R first second refl
