-- What only the contracts of private functions speak of; no public clause reaches it: the greatest leaf of some terms. zeb_leaves speaks of it too.
use Rattle.std.specs.Prelude.{◌≡◌, ◌∷◌, ℕ, ℤ, true, List, [], Option, Some, None}
use Rattle.std.specs.Cmp.Lexicographic.{slice_cmp}
use Rattle.std.specs.Ordering.{is_lt, nat_cmp}
use Rattle.sqlite.specs.declared.types.Value.TheVariants.{Int, Text}
use Rattle.sqlite.specs.Order.{Row, column, value_cmp}
use Rattle.sqlite.specs.Tree.{Trees}
use Rattle.zeb_leaf_rows.specs.LeafRows.{HasBlockFrom}
use Rattle.zeb_register.specs.Covering.{Covers, IsUpTo, own_key}
use Rattle.zeb_register.specs.PlainRows.{register_front}
use Rattle.zeb_register.specs.Store.{IsRest, blocks_tree}
use Rattle.zeb_register.specs.declared.registers.RegisterOf.{RegisterOf}

module _ (Before : Row → Row → Type 0) (P : Row → Type 0) where
  -- of the rows that are P one that stands before each other, alone; or there is none
  abbrev pub ShowsFirst : List Row → Type 0
  ShowsFirst [] = (row : Row) → ¬ P row
  ShowsFirst (row ∷ rows) = (rows ≡ []) × P row × ((other : Row) → P other → Before row other)

  -- one of them, or there is none
  abbrev pub IsFirst : Option Row → Type 0
  IsFirst (Some row) = P row × ((other : Row) → P other → Before row other)
  IsFirst None = (row : Row) → ¬ P row

-- the one with the greatest own key
abbrev pub ShowsGreatest : (Row → Type 0) → List Row → Type 0
ShowsGreatest = ShowsFirst (λ row other. IsUpTo (own_key row) other)

abbrev pub IsGreatest : (Row → Type 0) → Option Row → Type 0
IsGreatest = IsFirst (λ row other. IsUpTo (own_key row) other)

-- a row of the register and the term, whose block isn't negative and is below the end
abbrev pub IsOfTermBelow : RegisterOf → List ℕ → ℤ → Trees → Row → Type 0
IsOfTermBelow at term end trees row =
    IsRest blocks_tree (register_front at.db.0 at.index at.register) trees row × (column row 0 ≡ Text term) × HasBlockFrom 0 row
    × (is_lt (value_cmp (column row 1) (Int end)) ≡ true)

-- a row of the register and a term below, whose block isn't negative
abbrev pub IsOfTermsBelow : RegisterOf → List ℕ → Trees → Row → Type 0
IsOfTermsBelow at term trees row =
    IsRest blocks_tree (register_front at.db.0 at.index at.register) trees row × (is_lt (value_cmp (column row 0) (Text term)) ≡ true) × HasBlockFrom 0 row

-- the leaf covers the key; without one no leaf is up to the key
abbrev pub IsCovering : (Leaves : Row → Type 0) (key : Row) → Option Row → Type 0
IsCovering Leaves key (Some leaf) = Covers Leaves key leaf
IsCovering Leaves key None = (leaf : Row) → Leaves leaf → ¬ IsUpTo key leaf

-- the row's own term is text, and below this one
abbrev pub HasTermBelow : List ℕ → Row → Type 0
HasTermBelow text row = (term : List ℕ) × (column row 0 ≡ Text term) × (is_lt (slice_cmp nat_cmp term text) ≡ true)
