-- What a call on the tables does to a connection, beside what it does to rows.
use Rattle.std.specs.Prelude.{◌≡◌, ◌⊎◌, ℕ, true, false, IsTrue, IsSome, Result, IfOk, OnErr}
use Rattle.sqlite.specs.Tree.{Trees}
use Rattle.sqlite_disk.specs.Disk.{MoreFaults}
use Rattle.sqlite.specs.State.{State, HasCleanDisk, Shows, KeepsCommit, Survives}
use Rattle.zeb_register.specs.Store.{IsStore, Changes}

-- inside a transaction: it goes on, and nothing is committed
abbrev pub GoesOn : State → State → Type 0
GoesOn old new = Shows old new new.now old.committed true

-- the same, and nothing that is seen changes
abbrev pub OnlyReads : State → State → Type 0
OnlyReads old new = Shows old new old.now old.committed true

-- outside a transaction: what is seen and what was committed are as they were, as long as the connection is open
abbrev pub ChangesNothing : State → State → Type 0
ChangesNothing old new = IsTrue new.is_open → IsTrue old.is_open × (new.now ≡ old.now) × (new.committed ≡ old.committed)

-- one table is written inside a transaction, which goes on; what becomes of the rows is said where the tables are those of the store
pub record Alters (tree : ℕ) (Rows : ℕ → Trees → Trees → Type 0) (old new : State) : Type 0 where
  pub on : GoesOn old new
  pub rows : IsStore old → Changes tree Rows old new

-- why the store may refuse a query that fits its tables: the connection was closed, the disk failed, or a limit on steps is set
abbrev pub MayRefuse : State → State → Type 0
MayRefuse old new = (old.is_open ≡ false) ⊎ (MoreFaults old.faults new.faults ⊎ IsSome old.step_limit)

-- ---- what is said of every call. What a call returns is known where the disk has given back what was written to it.

-- on a clean disk a call inside a transaction does what is said where it is accepted, and commits nothing where it is refused; a crash leaves what
-- it left before
pub record Inside {A E : Type 0} (old new : State) (result : Result A E) (Done : A → State → State → Type 0) : Type 0 where
  pub ok : HasCleanDisk new → IsTrue old.in_transaction → IfOk result (λ a. Done a old new)
  pub err : HasCleanDisk new → IsTrue old.in_transaction → OnErr result (KeepsCommit old new)
  pub crash : Survives old new (λ _. ⊥)

-- on a clean disk a call that reads shows what is said where it is accepted, and outside a transaction changes nothing, whatever it answers; a
-- crash leaves what it left before
pub record Reading {A E : Type 0} (old new : State) (result : Result A E) (Shown : A → State → State → Type 0) : Type 0 where
  pub idle : old.in_transaction ≡ false → new.in_transaction ≡ false
  pub ok : HasCleanDisk new → IfOk result (λ a. Shown a old new)
  pub same : HasCleanDisk new → old.in_transaction ≡ false → ChangesNothing old new
  pub crash : Survives old new (λ _. ⊥)
