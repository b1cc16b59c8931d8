-- What a call on a store's tables answers, this of its value or that of its refusal; and what a call does that only reads.
use Rattle.std.specs.Prelude.{◌≡◌, ◌↔◌, Bool, IsTrue, Result, Ok, Err}
use Rattle.sqlite.specs.declared.error.Error.{Error}
use Rattle.sqlite.specs.Tree.{Trees}
use Rattle.sqlite.specs.State.{State, IsUnchanged}
use Rattle.zeb_register.specs.declared.faults.RegFault.{RegFault}
use Rattle.zeb_register.specs.declared.faults.RegFault.TheVariants.{Damaged}
use Rattle.zeb_register.specs.declared.faults.RowFault.{RowFault}
use Rattle.zeb_register.specs.declared.faults.RowFault.TheVariants.{Damaged as DamagedRow}
use Rattle.zeb_register.specs.Calls.{Inside, OnlyReads, Reading}
use Rattle.zeb_register.specs.Clauses.{InStore, IsOpenDamage, IsReasoned, IsReasonedError, OnStore, Tells}

-- what is said of an accepted call's value, or of a refused one's refusal
abbrev pub Answers : {A E : Type 0} → (E → Type 0) → (A → Type 0) → Result A E → Type 0
Answers Refused Done (Ok x) = Done x
Answers Refused Done (Err fault) = Refused fault

-- Damaged is told only where this is so; the store or memory may fail
abbrev pub IfDamaged : Type 0 → RegFault → Type 0
IfDamaged Damage fault = fault ≡ Damaged → Damage

-- the same of rows, which ask no store
abbrev pub IfRowDamaged : Type 0 → RowFault → Type 0
IfRowDamaged Damage fault = fault ≡ DamagedRow → Damage

-- A call outside a transaction asks a store's tables: nothing that is seen changes, its answer tells this of the tables, whatever rows they have,
-- and it fails as the store only where the store may refuse. It never answers damage.
pub record Asks {A : Type 0} (old new : State) (result : Result A Error) (Told : Trees → A → Type 0) : Type 0 where
  pub call : Reading old new result (λ _. IsUnchanged)
  pub value : Tells old new result Told
  pub refused : IsReasonedError old new result

-- a call asks whether this holds of the tables, where what it is given is so
abbrev pub AsksWhether : (old new : State) → (Trees → Type 0) → Type 0 → Result Bool Error → Type 0
AsksWhether old new Holds Given result = Asks old new result (λ trees answer. Given → IsTrue answer ↔ Holds trees)

-- A call outside a transaction looks into a store's tables: nothing that is seen changes, its answer tells this of the tables, whatever rows they
-- have, Damaged says that they have this damage and that the connection was open, and it fails as the store only where the store may refuse.
pub record LooksInto {A : Type 0} (Damage : Trees → Type 0) (Found : Trees → A → Type 0) (old new : State) (result : Result A RegFault) : Type 0 where
  pub call : Reading old new result (λ _. IsUnchanged)
  pub finds : OnStore old new (λ trees. Answers (IfDamaged (Damage trees)) (Found trees) result)
  pub refused : IsReasoned old new result
  pub opened : IsOpenDamage old new result

-- A call inside a transaction looks into a store's tables: the transaction goes on, nothing that is seen changes, and its answer or its refusal
-- tells this of the tables, whatever rows they have.
pub record LooksInside {A E : Type 0} (Refused : Trees → E → Type 0) (Found : Trees → A → Type 0) (old new : State) (result : Result A E) : Type 0 where
  pub call : Inside old new result (λ _. OnlyReads)
  pub finds : InStore old new (λ trees. Answers (Refused trees) (Found trees) result)
