-- What only the contracts of private functions speak of; no public clause reaches it.
-- What a statement that writes does.
use Rattle.std.specs.Prelude.{ℕ, List, IsTrue, Result, Ok, OnErr, OnOk}
use Rattle.sqlite.specs.Order.{Row}
use Rattle.sqlite.specs.State.{Executes, HasCleanDisk, KeepsCommit, State, Survives}
use Rattle.zeb_register.specs.Calls.{GoesOn}

-- inside a transaction the statement of this text is carried out, and the transaction goes on; where it is refused nothing was committed
pub record Ran {A E : Type 0} (sql : List ℕ) (params : Row) (old new : State) (result : Result A E) : Type 0 where
  pub ok : HasCleanDisk new → IsTrue old.in_transaction → OnOk result ((count : ℕ) × Executes sql params old new (Ok count) × GoesOn old new)
  pub err : HasCleanDisk new → IsTrue old.in_transaction → OnErr result (KeepsCommit old new)
  pub crash : Survives old new (λ _. ⊥)
