-- What the clauses of many calls on the tables have in common. Each of these unfolds by itself.
--
-- What a call returns is known where the disk has given back what was written to it. `OnStore` is said of a call outside a transaction
-- on the tables of a store, `InStore` of one inside a transaction.
use Rattle.std.specs.Prelude.{◌≡◌, ◌<◌, ◌≤◌, ◌^◌, ℕ, IsTrue, Option, None, Result, Err, IfErr, IfOk, OnOk}
use Rattle.sqlite.specs.declared.error.Error.{Error}
use Rattle.sqlite.specs.Schema.{Schema}
use Rattle.sqlite.specs.Tree.{Trees}
use Rattle.sqlite.specs.State.{State, HasCleanDisk}
use Rattle.zeb_register.specs.declared.faults.RegFault.{RegFault}
use Rattle.zeb_register.specs.declared.faults.RegFault.TheVariants.{Damaged, Store}
use Rattle.zeb_register.specs.Calls.{MayRefuse}
use Rattle.zeb_register.specs.Content.{Content, IsStorable}
use Rattle.zeb_register.specs.Faults.{fault_of}
use Rattle.zeb_register.specs.Sql.{KeepsTables}
use Rattle.zeb_register.specs.Store.{IsStore, Changes}

-- on a clean disk this is said of a store's tables as they were before a call
abbrev pub OnStore : State → State → (Trees → Type 0) → Type 0
OnStore old new Said = HasCleanDisk new → IsStore old → Said old.now.trees

-- on a clean disk this is said of a store's tables as they were before a call inside a transaction
abbrev pub InStore : State → State → (Trees → Type 0) → Type 0
InStore old new Said = HasCleanDisk new → IsTrue old.in_transaction → IsStore old → Said old.now.trees

-- ---- what an accepted call tells

-- the answer of an accepted call tells this of a store's tables
abbrev pub Tells : {A E : Type 0} → State → State → Result A E → (Trees → A → Type 0) → Type 0
Tells old new result Told = OnStore old new (λ trees. IfOk result (Told trees))

-- the answer of an accepted call inside a transaction tells this of a store's tables
abbrev pub TellsInside : {A E : Type 0} → State → State → Result A E → (Trees → A → Type 0) → Type 0
TellsInside old new result Told = InStore old new (λ trees. IfOk result (Told trees))

-- of a number that a column stores an answer tells this; of a greater one it tells that there is nothing
pub record TellsByNumber {A : Type 0} (number : ℕ) (Told : Option A → Type 0) (found : Option A) : Type 0 where
  pub small : number < 2 ^ 63 → Told found
  pub large : 2 ^ 63 ≤ number → found ≡ None

-- the one table is changed so by an accepted call inside a transaction
abbrev pub ChangesTable : {A E : Type 0} → ℕ → State → State → Result A E → (A → ℕ → Trees → Trees → Type 0) → Type 0
ChangesTable tree old new result Rows = InStore old new (λ _. IfOk result (λ answer. Changes tree (Rows answer) old new))

-- ---- why a call is refused

-- Damaged is answered only on a connection that was open
abbrev pub IsOpenDamage : {A : Type 0} → State → State → Result A RegFault → Type 0
IsOpenDamage old new result = HasCleanDisk new → result ≡ Err Damaged → IsTrue old.is_open

-- a call inside a transaction answers Damaged only on a connection that was open
abbrev pub IsOpenDamageInside : {A : Type 0} → State → State → Result A RegFault → Type 0
IsOpenDamageInside old new result = HasCleanDisk new → IsTrue old.in_transaction → result ≡ Err Damaged → IsTrue old.is_open

-- Store is answered on a store's tables only where the store may refuse
abbrev pub IsReasoned : {A : Type 0} → State → State → Result A RegFault → Type 0
IsReasoned old new result = HasCleanDisk new → IsStore old → result ≡ Err Store → MayRefuse old new

-- a call inside a transaction answers Store on a store's tables only where the store may refuse
abbrev pub IsReasonedInside : {A : Type 0} → State → State → Result A RegFault → Type 0
IsReasonedInside old new result = InStore old new (λ _. result ≡ Err Store → MayRefuse old new)

-- a call inside a transaction is refused as is due: with Damaged only on a connection that was open, with Store on a store's tables only where the
-- store may refuse
pub record IsDueRefusalInside {A : Type 0} (old new : State) (result : Result A RegFault) : Type 0 where
  pub opened : IsOpenDamageInside old new result
  pub reasoned : IsReasonedInside old new result

-- a statement on a store's tables fails with an error that is told as Store only where the store may refuse
abbrev pub IsReasonedError : {A : Type 0} → State → State → Result A Error → Type 0
IsReasonedError old new result = OnStore old new (λ _. IfErr result (λ e. fault_of e ≡ Store → MayRefuse old new))

-- inside a transaction a statement on a store's tables fails with an error that is told as Store only where the store may refuse
abbrev pub IsReasonedErrorInside : {A : Type 0} → State → State → Result A Error → Type 0
IsReasonedErrorInside old new result = InStore old new (λ _. IfErr result (λ e. fault_of e ≡ Store → MayRefuse old new))

-- ---- calls on tables that hold a content in some format

module _ (Holds : Trees → Content → Type 0) where
  -- the answer of an accepted call tells this of each content that the tables hold
  abbrev pub TellsHeld : {A E : Type 0} → State → State → Result A E → (Content → A → Type 0) → Type 0
  TellsHeld old new result Told = Tells old new result (λ trees answer. (content : Content) → Holds trees content → Told content answer)

  -- Damaged is answered only where no content is held that every layout can store
  abbrev pub IsHonestStorable : {A : Type 0} → State → State → Result A RegFault → Type 0
  IsHonestStorable old new result = OnStore old new (λ trees. result ≡ Err Damaged
      → (content : Content) → IsStorable content → ¬ Holds trees content)

-- ---- calls that make tables

-- on a database of this schema an accepted call inside a transaction has done this
abbrev pub DoneUnder : {A E : Type 0} → Schema → State → State → Result A E → (State → State → Type 0) → Type 0
DoneUnder schema old new result Done = HasCleanDisk new → IsTrue old.in_transaction → old.now.schema ≡ schema → OnOk result (Done old new)

-- an accepted call inside a transaction keeps each table that is there, with its rows
abbrev pub KeepsAllTables : {A E : Type 0} → State → State → Result A E → Type 0
KeepsAllTables old new result = HasCleanDisk new → IsTrue old.in_transaction → OnOk result (KeepsTables old.now new.now)
