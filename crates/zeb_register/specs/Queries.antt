-- A query outside a transaction, as those who write a layout make it.
use Rattle.std.specs.Prelude.{◌≡◌, ℕ, List, None, Result, Ok, IfOk, IfErr}
use Rattle.sqlite.specs.Compile.{first, returning}
use Rattle.sqlite.specs.Order.{Row}
use Rattle.sqlite.specs.Schema.{Schema}
use Rattle.sqlite.specs.State.{FailsToQuery, HasCleanDisk, IsUnchanged, Shown, State}
use Rattle.sqlite.specs.declared.error.Error.{Error}
use Rattle.sqlite_resolve.specs.Lowering.{and_then}
use Rattle.zeb_register.specs.Calls.{Reading}

-- a text that is no statement which writes rows and shows them, under any schema
abbrev pub IsSilent : List ℕ → Type 0
IsSilent text = (schema : Schema) (base : ℕ) → and_then (first text) (λ p. returning schema base p.statement) ≡ Ok None

-- the query of this text changes nothing, and its rows or its failure are what the text means by these parameters
pub record LooksUp {A : Type 0} (rows : A → List Row) (sql : List ℕ) (params : Row) (old new : State) (result : Result A Error) : Type 0 where
  pub call : Reading old new result (λ _. IsUnchanged)
  pub ok : HasCleanDisk new → IfOk result (λ a. Shown sql params old new (rows a))
  pub err : HasCleanDisk new → IfErr result (FailsToQuery sql params old new)
