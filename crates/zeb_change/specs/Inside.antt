-- What work inside a transaction does to a connection, whatever it does to rows.
use Rattle.std.specs.Prelude.{◌≡◌, IsTrue, MatchResult, Result}
use Rattle.std.specs.Borrow.{MutBor}
use Rattle.sqlite.specs.Held.{Held, state}
use Rattle.sqlite.specs.State.{HasCleanDisk, KeepsCommit, State, Survives}
use Rattle.sqlite_trees.specs.declared.store.Store.{Ghosts}

-- Inside a transaction: nothing is committed, the transaction goes on, and an open connection stays open.
pub record Continues (old new : State) : Type 0 where
  pub kept : KeepsCommit old new
  pub mode : IsTrue new.in_transaction
  pub stays_open : IsTrue old.is_open → IsTrue new.is_open

-- Inside a transaction, what work did that was done or refused: a refusal leaves nothing committed.
abbrev pub StaysInside : {T E : Type 0} → State → State → Result T E → Type 0
StaysInside old new result = MatchResult result (λ _. Continues old new) (λ _. KeepsCommit old new)

-- What a call does that works inside a transaction: it leaves the transaction as said, and a crash leaves what it left before.
pub record WorksInside {T E : Type 0} (old new : State) (result : Result T E) : Type 0 where
  pub stays : HasCleanDisk new → IsTrue old.in_transaction → StaysInside old new result
  pub crash : Survives old new (λ _. ⊥)

-- the same, of a connection that a transaction borrows, and goes on to borrow
pub record WorksInsideOf {S T E : Type 0} (store : Ghosts S) (old new : MutBor (Held S)) (result : Result T E) : Type 0 where
  pub same : new.ghost_name ≡ old.ghost_name
  pub does : WorksInside (state store old.now) (state store new.now) result
