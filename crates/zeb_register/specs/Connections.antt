-- What the clauses of many calls say, of a connection: the state that it had before the call, and the one that it has now. Each of these but
-- `InsideOf` and `LooksInsideOf` unfolds by itself.
use Rattle.std.specs.Prelude.{◌≡◌, ℕ, Bool, Result}
use Rattle.std.specs.Borrow.{MutBor}
use Rattle.sqlite.specs.declared.error.Error.{Error}
use Rattle.sqlite.specs.Held.{Held, state}
use Rattle.sqlite.specs.State.{State}
use Rattle.sqlite.specs.Tree.{Trees}
use Rattle.sqlite_trees.specs.declared.store.Store.{Ghosts}
use Rattle.zeb_register.specs.declared.faults.RegFault.{RegFault}
use Rattle.zeb_register.specs.Answers.{Asks, AsksWhether, LooksInside, LooksInto}
use Rattle.zeb_register.specs.Calls.{Alters, Inside, Reading}
use Rattle.zeb_register.specs.Clauses.{ChangesTable, InStore, IsDueRefusalInside, IsReasoned, IsReasonedError, IsReasonedErrorInside, OnStore, Tells, TellsInside}

-- ---- of a connection outside a transaction

module _ {S : Type 0} (store : Ghosts S) (old new : Held S) where
  -- a call reads, and shows this where it is accepted
  abbrev pub ReadingOf : {A E : Type 0} → Result A E → (A → State → State → Type 0) → Type 0
  ReadingOf result Shown = Reading (state store old) (state store new) result Shown

  -- this is said of a store's tables as they were before a call
  abbrev pub OnStoreOf : (Trees → Type 0) → Type 0
  OnStoreOf Said = OnStore (state store old) (state store new) Said

  -- the answer of an accepted call tells this of a store's tables
  abbrev pub TellsOf : {A E : Type 0} → Result A E → (Trees → A → Type 0) → Type 0
  TellsOf result Told = Tells (state store old) (state store new) result Told

  -- Store is answered on a store's tables only where the store may refuse
  abbrev pub IsReasonedOf : {A : Type 0} → Result A RegFault → Type 0
  IsReasonedOf result = IsReasoned (state store old) (state store new) result

  -- a statement on a store's tables fails with an error that is told as Store only where the store may refuse
  abbrev pub IsReasonedErrorOf : {A : Type 0} → Result A Error → Type 0
  IsReasonedErrorOf result = IsReasonedError (state store old) (state store new) result

  -- a call asks a store's tables, and an accepted answer tells this of them
  abbrev pub AsksOf : {A : Type 0} → Result A Error → (Trees → A → Type 0) → Type 0
  AsksOf result Told = Asks (state store old) (state store new) result Told

  -- a call asks whether this holds of the tables, where what it is given is so
  abbrev pub AsksWhetherOf : (Trees → Type 0) → Type 0 → Result Bool Error → Type 0
  AsksWhetherOf Holds Given result = AsksWhether (state store old) (state store new) Holds Given result

  -- a call looks into a store's tables: an accepted answer tells this of them, and Damaged that they have this damage
  abbrev pub LooksIntoOf : {A : Type 0} → Result A RegFault → (Trees → Type 0) → (Trees → A → Type 0) → Type 0
  LooksIntoOf result Damage Found = LooksInto Damage Found (state store old) (state store new) result

-- ---- of a connection inside a transaction, which borrows it

-- a call works, and has done this where it is accepted; the transaction borrows the same connection
pub record InsideOf {S A E : Type 0} (store : Ghosts S) (old new : MutBor (Held S)) (result : Result A E) (Done : A → State → State → Type 0) : Type 0 where
  pub same : new.ghost_name ≡ old.ghost_name
  pub does : Inside (state store old.now) (state store new.now) result Done

-- a call looks into a store's tables, and its answer or its refusal tells this of them; the transaction borrows the same connection
pub record LooksInsideOf {S A E : Type 0} (store : Ghosts S) (old new : MutBor (Held S)) (result : Result A E) (Refused : Trees → E → Type 0) (Found : Trees → A → Type 0) : Type 0 where
  pub same : new.ghost_name ≡ old.ghost_name
  pub looks : LooksInside Refused Found (state store old.now) (state store new.now) result

module _ {S : Type 0} (store : Ghosts S) (old new : MutBor (Held S)) where
  -- a call asks a store's tables, and an accepted answer tells this of them
  abbrev pub AsksInsideOf : {A : Type 0} → Result A Error → (Trees → A → Type 0) → Type 0
  AsksInsideOf result Told = LooksInsideOf store old new result (λ _ _. Unit {0}) Told

  -- this is said of a store's tables as they were before a call
  abbrev pub InStoreOf : (Trees → Type 0) → Type 0
  InStoreOf Said = InStore (state store old.now) (state store new.now) Said

  -- the answer of an accepted call tells this of a store's tables
  abbrev pub TellsInsideOf : {A E : Type 0} → Result A E → (Trees → A → Type 0) → Type 0
  TellsInsideOf result Told = TellsInside (state store old.now) (state store new.now) result Told

  -- the transaction goes on, and one table is written so
  abbrev pub WritesOf : {A E : Type 0} → ℕ → (ℕ → Trees → Trees → Type 0) → Result A E → Type 0
  WritesOf tree Rows result = InsideOf store old new result (λ _. Alters tree Rows)

  -- the one table is changed so by an accepted call
  abbrev pub ChangesTableOf : {A E : Type 0} → ℕ → Result A E → (A → ℕ → Trees → Trees → Type 0) → Type 0
  ChangesTableOf tree result Rows = ChangesTable tree (state store old.now) (state store new.now) result Rows

  -- a call is refused as is due
  abbrev pub IsDueRefusalInsideOf : {A : Type 0} → Result A RegFault → Type 0
  IsDueRefusalInsideOf result = IsDueRefusalInside (state store old.now) (state store new.now) result

  -- a statement on a store's tables fails with an error that is told as Store only where the store may refuse
  abbrev pub IsReasonedErrorInsideOf : {A : Type 0} → Result A Error → Type 0
  IsReasonedErrorInsideOf result = IsReasonedErrorInside (state store old.now) (state store new.now) result
