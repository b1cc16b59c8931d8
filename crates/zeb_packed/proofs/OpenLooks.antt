-- Looks into a store's tables on a connection that a transaction borrows: what rows show, a look behind another, and a call behind a look.
use Rattle.zeb_packed.proofs.Cited.{◌≡◌, ◌∙◌, ◌⊎◌, inl, inr, Result, Ok, Err, IsTrue, subst, sym, Database, Trees, State, state, HasCleanDisk, IsStore, OnlyReads, Answers, GoesOnOpenOf, store_same}
use Rattle.std.specs.Borrow.{MutBor}
use Rattle.std.specs.Result.{IsErrAnd}
use Rattle.sqlite.specs.Held.{Held}
use Rattle.sqlite_trees.specs.declared.store.Store.{Ghosts}
use Rattle.zeb_register.proofs.HandedOn.{clean_before, failed_inside}
use Rattle.zeb_register.proofs.LooksInside.{found_inside, handed_inside, inside_then, shown_inside}
use Rattle.zeb_register.specs.Connections.{InStoreOf, InsideOf, LooksInsideOf}

-- ---- one statement

module _ {S B : Type 0} {store : Ghosts S} {a b : MutBor (Held S)} where
  -- what rows show is told
  pub rows_tell : {A E F : Type 0} {x : A} {r : Result B F} {Refused : Trees → F → Type 0} {Found : Trees → B → Type 0} {Shown : A → State → State → Type 0}
      → InsideOf {E = E} store a b (Ok x) (λ y old new. OnlyReads old new × (IsStore old → Shown y old new))
      → (IsStore (state store a.now) → Shown x (state store a.now) (state store b.now) → Answers (Refused (state store a.now).now.trees) (Found (state store a.now).now.trees) r) → LooksInsideOf store a b r Refused Found
  rows_tell {x = x} {r = r} {Refused = Refused} {Found = Found} read so = record { same = read.same; looks = shown_inside Refused Found _ _ x r _ read.does (λ shown. shown.0) (λ shown store'. so store' (shown.1 store')) }

-- a rule refuses the statement, which has looked at nothing
pub rule_looks : {S A E : Type 0} {store : Ghosts S} {a b : MutBor (Held S)} {e : E} {P : A → State → State → Type 0} → InsideOf store a b (Err e) P → (HasCleanDisk (state store b.now) → IsTrue (state store a.now).in_transaction → OnlyReads (state store a.now) (state store b.now))
    → LooksInsideOf {A = Unit {0}} {E = E} store a b (Ok tt) (λ _ _. Unit {0}) (λ _ _. Unit {0})
rule_looks call reads = record { same = call.same; looks = record { call = record { ok = reads; err = λ clean inside. tt; crash = call.does.crash }; finds = λ clean inside store'. tt } }

-- ---- one look

module _ {S A E : Type 0} {store : Ghosts S} {a b : MutBor (Held S)} {R : Trees → E → Type 0} {D : Trees → A → Type 0} where
  pub as_read : {r : Result A E} → LooksInsideOf store a b r R D → InsideOf store a b r (λ _. OnlyReads)
  as_read look = record { same = look.same; does = look.looks.call }

  -- it is refused, and the call that looked
  pub look_failed : {B F : Type 0} {e : E} {r : Result B F} {Q : B → State → State → Type 0} (fault : F) → LooksInsideOf store a b (Err e) R D → IsErrAnd r (λ met. met ≡ fault) → InsideOf store a b r Q
  look_failed {e = e} {r = r} fault look failed = record { same = look.same; does = failed_inside _ _ _ e r _ _ look.looks.call failed }

  module _ {B F : Type 0} {Refused : Trees → F → Type 0} {Found : Trees → B → Type 0} where
    -- what it found is told otherwise, or its refusal
    pub look_found : {x : A} {r : Result B F} → LooksInsideOf store a b (Ok x) R D → ((trees : Trees) → D trees x → Answers (Refused trees) (Found trees) r) → LooksInsideOf store a b r Refused Found
    look_found {x} {r} look so = record { same = look.same; looks = found_inside Refused Found R D _ _ x r look.looks (λ store' found. so _ found) }

    pub look_refused : {e : E} {r : Result B F} (fault : F) → LooksInsideOf store a b (Err e) R D → IsErrAnd r (λ met. met ≡ fault) → ((trees : Trees) → R trees e → Refused trees fault) → LooksInsideOf store a b r Refused Found
    look_refused {e} {r} fault look failed so = record { same = look.same; looks = handed_inside Refused Found R D _ _ e fault r look.looks failed (λ store' refused. so _ refused) }

    -- another look behind it tells as much as before it
    pub look_behind : {c : MutBor (Held S)} {x : A} {r : Result B F} → LooksInsideOf store a b (Ok x) R D → LooksInsideOf store b c r Refused Found → LooksInsideOf store a c r Refused Found
    look_behind {c} {x} {r} one two = record { same = two.same ∙ one.same; looks = inside_then R D Refused Refused Found Found _ _ _ x r one.looks two.looks (λ _ _ fault refused. refused) (λ _ _ y found. found) }

  -- the same of a look behind looks of one kind, or behind none
  pub behind_some : {B : Type 0} {c : MutBor (Held S)} {x : A} {r : Result B E} {N : Type 0} {Found : Trees → B → Type 0} → (N × (b ≡ a)) ⊎ LooksInsideOf store a b (Ok x) R D → LooksInsideOf store b c r R Found → LooksInsideOf store a c r R Found
  behind_some {c = c} {r = r} {Found = Found} (inl none) look = subst (λ m. LooksInsideOf store m c r R Found) none.1 look
  behind_some (inr looks) look = look_behind looks look

  -- what a call behind it is known to do where the tables are as was found
  pub behind_look : {B F : Type 0} {c : MutBor (Held S)} {x : A} {r : Result B F} (Said : Trees → Type 0) → LooksInsideOf store a b (Ok x) R D → GoesOnOpenOf store b c r
      → (IsTrue (state store b.now).is_open → InStoreOf store b c (λ trees. D trees x → Said trees)) → InStoreOf store a c Said
  behind_look {x = x} Said look next so clean inside store' =
      let before = clean_before _ _ next.crash clean in
      let read = look.looks.call.ok before inside in
      let found = subst (λ (d : Database). D d.trees x) (sym read.now_is) (look.looks.finds before inside store') in
      subst (λ (d : Database). Said d.trees) read.now_is (so read.is_open clean read.mode (store_same _ _ read.now_is store') found)
