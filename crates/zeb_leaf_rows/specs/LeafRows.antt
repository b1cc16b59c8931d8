-- What calls tell of the rows of `blocks` that are leaves of a register: the leaf that covers a block of a term, and the rows of neighbouring terms.
use Rattle.std.specs.Prelude.{◌≡◌, ◌++◌, ◌∷◌, ℕ, pos, true, false, List, [], Option, Some, None, MatchOption}
use Rattle.std.specs.Cmp.Lexicographic.{slice_cmp}
use Rattle.std.specs.Ordering.{is_lt, nat_cmp}
use Rattle.sqlite.specs.declared.types.Value.TheVariants.{Int, Text}
use Rattle.sqlite.specs.Order.{Row, column, value_cmp}
use Rattle.sqlite.specs.Tree.{Trees}
use Rattle.zeb_register.specs.Covering.{Covers, leaf_key, own_key}
use Rattle.zeb_register.specs.LeafUnits.{IsLeafOf}
use Rattle.zeb_register.specs.Occurring.{key_in}
use Rattle.zeb_register.specs.PlainRows.{register_front}
use Rattle.zeb_register.specs.Store.{IsRest, blocks_tree}
use Rattle.zeb_register.specs.declared.registers.RegisterOf.{RegisterOf}

-- the leaves of a register
abbrev pub IsLeafIn : Trees → RegisterOf → Row → Type 0
IsLeafIn trees at = IsLeafOf trees at.db.0 (key_in at.index at.register [])

-- ---- what statements show: a row by the columns behind its register

-- the last of the rows, or there is none
abbrev pub IsLastOf : List Row → Option Row → Type 0
IsLastOf rows found = MatchOption found (rows ≡ []) (λ row. (front : List Row) × (rows ≡ front ++ row ∷ []))

-- some row of these is shown, or there is none
abbrev pub ShowsSome : (Row → Type 0) → List Row → Type 0
ShowsSome P [] = (row : Row) → ¬ P row
ShowsSome P (row ∷ rows) = (some : Row) × P some

-- the row's block is this or above
abbrev pub HasBlockFrom : ℕ → Row → Type 0
HasBlockFrom block row = is_lt (value_cmp (column row 1) (Int (pos block))) ≡ false

-- a row of the register whose block isn't negative
abbrev pub IsInRegister : RegisterOf → Trees → Row → Type 0
IsInRegister at trees row = IsRest blocks_tree (register_front at.db.0 at.index at.register) trees row × HasBlockFrom 0 row

-- a row of the register with a term from one text on and below another, whose block isn't negative
abbrev pub IsRowBetween : RegisterOf → (first end : List ℕ) → Trees → Row → Type 0
IsRowBetween at first end trees row =
    (IsRest blocks_tree (register_front at.db.0 at.index at.register) trees row × (is_lt (value_cmp (column row 0) (Text first)) ≡ false)
    × (is_lt (value_cmp (column row 0) (Text end)) ≡ true)) × HasBlockFrom 0 row

-- ---- the leaf that covers a key

module _ (Leaves : Row → Type 0) (key : Row) where
  -- the leaf covers the key; without one the register has no leaf
  abbrev pub IsLeafAt : Option Row → Type 0
  IsLeafAt (Some leaf) = Covers Leaves key leaf
  IsLeafAt None = (leaf : Row) → ¬ Leaves leaf

  -- the register has a leaf, and none covers the key
  abbrev pub IsUncovered : Type 0
  IsUncovered = (leaf : Row) × Leaves leaf × ((other : Row) → ¬ Covers Leaves key other)

-- the leaf covers block 0 of the first text, and no leaf has an own key whose term stands from there on and below the end
pub record IsOnlyLeaf (Leaves : Row → Type 0) (first end : List ℕ) (leaf : Row) : Type 0 where
  pub covers : Covers Leaves (leaf_key first 0) leaf
  pub alone : (other : Row) → Leaves other → (term : List ℕ) (block : ℕ) → own_key other ≡ leaf_key term block
      → is_lt (slice_cmp nat_cmp term first) ≡ false → is_lt (slice_cmp nat_cmp term end) ≡ false
