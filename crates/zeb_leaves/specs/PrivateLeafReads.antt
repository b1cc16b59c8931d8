-- What only the contracts of private functions speak of; no public clause reaches it: what statements show of leaves inside a transaction,
-- and which leaf is found behind a key.
use Rattle.std.specs.Prelude.{◌≡◌, ℕ, ℤ, false, List, Option, Some, None}
use Rattle.std.specs.Option.{option_map}
use Rattle.std.specs.Ordering.{is_lt}
use Rattle.sqlite.specs.declared.types.Value.TheVariants.{Int, Text}
use Rattle.sqlite.specs.Order.{Row, column, value_cmp}
use Rattle.sqlite.specs.State.{Shown, State}
use Rattle.sqlite.specs.Tree.{Trees}
use Rattle.zeb_leaf_rows.specs.LeafRows.{IsLastOf}
use Rattle.zeb_leaf_rows.specs.PrivateLeafRows.{IsFirst}
use Rattle.zeb_register.specs.Calls.{OnlyReads}
use Rattle.zeb_register.specs.Covering.{IsUpTo, own_key}
use Rattle.zeb_register.specs.declared.registers.RegisterOf.{RegisterOf}
use Rattle.zeb_register.specs.PrivateKeyColumns.{register_columns}
use Rattle.zeb_register.specs.Store.{IsRest, blocks_tree}

-- ---- what statements show: a row by the columns behind its register

-- a query inside a transaction changes nothing, and tells the last of the rows that it shows
pub record ShowsLast (sql : List ℕ) (params : Row) (found : Option Row) (old new : State) : Type 0 where
  pub reads : OnlyReads old new
  pub last : (rows : List Row) × Shown sql params old new rows × IsLastOf rows found

-- the one with the least own key
abbrev pub IsLeast : (Row → Type 0) → Option Row → Type 0
IsLeast = IsFirst (λ row other. IsUpTo (own_key other) row)

-- it tells whether there is such a row
abbrev pub TellsSome : (Row → Type 0) → Option Row → Type 0
TellsSome P (Some shown) = (some : Row) × P some
TellsSome P None = (row : Row) → ¬ P row

-- it tells the own key, alone, of a row that is Found, or that there is none
abbrev pub TellsKey : (Option Row → Type 0) → Option Row → Type 0
TellsKey Found told = (leaf : Option Row) × (told ≡ option_map own_key leaf) × Found leaf

-- a row of the register and the term, whose block isn't below the first one
abbrev pub IsOfTermFrom : RegisterOf → List ℕ → ℤ → Trees → Row → Type 0
IsOfTermFrom at term first trees row =
    IsRest blocks_tree (register_columns at) trees row × (column row 0 ≡ Text term) × (is_lt (value_cmp (column row 1) (Int first)) ≡ false)

-- ---- the leaf behind a key

module _ (Leaves : Row → Type 0) (key : Row) where
  -- it is the least of those that aren't up to the key; without one each leaf is up to the key
  abbrev pub IsNextBehind : Option Row → Type 0
  IsNextBehind (Some leaf) = Leaves leaf × (¬ IsUpTo key leaf) × ((other : Row) → Leaves other → ¬ IsUpTo key other → IsUpTo (own_key other) leaf)
  IsNextBehind None = (leaf : Row) → Leaves leaf → IsUpTo key leaf
