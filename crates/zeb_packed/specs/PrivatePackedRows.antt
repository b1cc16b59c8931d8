-- What only the contracts of private functions speak of; no public clause reaches it.
-- Postings and terms as rows of the packed tables show them.
use Rattle.std.specs.Prelude.{◌≡◌, ◌↔◌, ◌<◌, ℕ, ℤ, pos, true, false, List, [], ◌∷◌, get_or, length, map, take}
use Rattle.std.specs.Ordering.{is_lt}
use Rattle.std.specs.List.Sorted.{IsStrictlySortedBy}
use Rattle.sqlite.specs.declared.types.Value.TheVariants.{Int, Text}
use Rattle.sqlite.specs.Order.{Row, column, row_cmp, value_cmp}
use Rattle.sqlite.specs.Tree.{Trees}
use Rattle.sqlite_sql.specs.Query.{as_count, limited}
use Rattle.sqlite_rules.specs.Lists.{Has}
use Rattle.zeb_register.specs.declared.registers.TermCount.{TermCount}
use Rattle.zeb_register.specs.PackedBlocks.{CountsTerm}
use Rattle.zeb_register.specs.PrivateRowPlaces.{first_two}
use Rattle.zeb_register.specs.Sql.{IsListOf}
use Rattle.zeb_register.specs.Store.{IsRest}
use Rattle.zeb_register.specs.PackedUnits.{IsMalformed}

-- ---- what statements list

-- the first of the rows that are P, rising, and at most so many, or all where that is below 0
abbrev pub ListsFirst : ℤ → (Row → Type 0) → List Row → Type 0
ListsFirst limit P rows = (all : List Row) × IsListOf P all × (rows ≡ limited (as_count (Int limit)) all)

-- the rows that are P, each once, falling
pub record IsFallingListOf (P : Row → Type 0) (rows : List Row) : Type 0 where
  pub each : (x : Row) → Has rows x ↔ P x
  pub falling : IsStrictlySortedBy (λ x y. row_cmp y x) rows

-- the last of the rows that are P, falling, and at most so many, or all where that is below 0
abbrev pub ListsLast : ℤ → (Row → Type 0) → List Row → Type 0
ListsLast limit P rows = (all : List Row) × IsFallingListOf P all × (rows ≡ limited (as_count (Int limit)) all)

-- ---- terms that rows of `dict` count

-- a row that follows these columns in some row of a table, and whose text isn't below the start
abbrev pub IsRestFrom : ℕ → Row → List ℕ → Trees → Row → Type 0
IsRestFrom tree front start trees row = IsRest tree front trees row × (is_lt (value_cmp (column row 0) (Text start)) ≡ false)

-- the same of one whose text is below the start
abbrev pub IsRestBefore : ℕ → Row → List ℕ → Trees → Row → Type 0
IsRestBefore tree front start trees row = IsRest tree front trees row × (is_lt (value_cmp (column row 0) (Text start)) ≡ true)

-- the columns of a term beside the register
abbrev pub count_row : TermCount → Row
count_row t = Text t.term ∷ Int (pos t.records) ∷ []

-- these rows count the terms, one after the other
pub record TellTerms (rows : List Row) (terms : List TermCount) : Type 0 where
  pub shown : map count_row terms ≡ map first_two rows
  pub counted : (row : Row) → Has rows row → CountsTerm row

-- one of the rows counts none; those before it count these terms
pub record EndsCounting (rows : List Row) : Type 0 where
  pub at : ℕ
  pub within : at < length rows
  pub row : Row
  pub is : row ≡ get_or rows at row
  pub bad : ¬ CountsTerm row
  pub terms : List TermCount
  pub told : TellTerms (take at rows) terms

-- ---- blocks

-- one of the rows is malformed
abbrev pub SomeMalformed : List Row → Type 0
SomeMalformed rows = (row : Row) × Has rows row × IsMalformed row
