-- What only the contracts of private functions speak of; no public clause reaches it.
-- The rows that single statements show, and what they write. zeb_packed speaks of them too.
use Rattle.std.specs.Prelude.{◌≡◌, ◌≢◌, ◌↔◌, ◌⊎◌, ℕ, ℤ, pos, false, List, [], ◌∷◌, IsTrue, IsUtf8, Result, IfErr}
use Rattle.std.specs.List.{AllByRecursion}
use Rattle.std.specs.Ordering.{is_lt}
use Rattle.sqlite.specs.declared.types.Value.TheVariants.{Int, Text, Blob}
use Rattle.sqlite.specs.Effect.{IsDatabase}
use Rattle.sqlite.specs.Order.{Row, column, value_cmp}
use Rattle.sqlite.specs.Schema.{Schema}
use Rattle.sqlite.specs.State.{HasCleanDisk, State}
use Rattle.sqlite.specs.Tree.{Trees}
use Rattle.sqlite.specs.declared.error.Error.{Error}
use Rattle.sqlite.specs.declared.error.Error.TheVariants.{SqliteFailure}
use Rattle.sqlite.specs.declared.error.ErrorCode.TheVariants.{ConstraintViolation}
use Rattle.sqlite_schema.specs.declared.schema.Constraint.{Constraint}
use Rattle.zeb_register.specs.Calls.{OnlyReads}
use Rattle.zeb_register.specs.Kept.{IsRecordCount}
use Rattle.zeb_register.specs.Sql.{HasRow, IsListOf, Replaces}
use Rattle.zeb_register.specs.Store.{HasDatabase, HasRecord, IsRest, IsStore, entry, meta_tree}

-- the table has one row more
abbrev pub Gains : Row → ℕ → Trees → Trees → Type 0
Gains row tree old new = (columns : Row) → HasRow new tree columns ↔ (HasRow old tree columns ⊎ (columns ≡ row))

-- a statement inside a transaction that a rule of the tables refuses changes nothing
abbrev pub IsUnchangedByViolation : {A : Type 0} → State → State → Result A Error → Type 0
IsUnchangedByViolation old new result =
    HasCleanDisk new → IsTrue old.in_transaction → IfErr result (λ e. (rule : Constraint) → e ≡ SqliteFailure (ConstraintViolation rule) → OnlyReads old new)

-- the tables of the schema are there, with no row, and the transaction goes on
pub record IsMade (schema : Schema) (s : State) : Type 0 where
  pub is : s.now.schema ≡ schema
  pub sound : IsDatabase s.now
  pub empty : AllByRecursion (λ t. s.now.trees t.tree ≡ []) schema.tables
  pub inside : IsTrue s.in_transaction

-- rows are read inside a transaction: just those that are P of the tables, rising
abbrev pub ListsInside : (Trees → Row → Type 0) → State → State → List Row → Type 0
ListsInside P old new rows = OnlyReads old new × (IsStore old → IsListOf (P old.now.trees) rows)

-- where some row was P, the table has the row in place of those that were
abbrev pub Renews : (Row → Type 0) → Row → ℕ → Trees → Trees → Type 0
Renews P row tree old new = ((was : Row) × HasRow old tree was × P was) → Replaces P row tree old new

abbrev pub whole_posting_row : ℤ → ℤ → ℤ → List ℕ → ℤ → ℤ → ℤ → Row
whole_posting_row db idx reg term sysno seq place = Int db ∷ Int idx ∷ Int reg ∷ Text term ∷ Int sysno ∷ Int seq ∷ Int place ∷ []

-- a row that shows a value of the name
abbrev pub IsValueRow : Trees → List ℕ → Row → Type 0
IsValueRow trees name row = (value : List ℕ) × (row ≡ Text value ∷ []) × HasRow trees meta_tree (entry name value)

-- there is one database more, with an id that none had
abbrev pub AddsDatabase : ℤ → List ℕ → ℤ → ℕ → Trees → Trees → Type 0
AddsDatabase id name last tree old new =
    ((i : ℤ) (n : List ℕ) (l : ℤ) → HasDatabase new i n l ↔ (HasDatabase old i n l ⊎ ((i ≡ id) × (n ≡ name) × (l ≡ last))))
    × ((n : List ℕ) (l : ℤ) → ¬ HasDatabase old id n l)

-- the database with the id has this last number, and keeps its name, and each other is as it was
abbrev pub SetsLast : ℤ → ℤ → ℕ → Trees → Trees → Type 0
SetsLast id last tree old new =
    (i : ℤ) (name : List ℕ) (n : ℤ) → HasDatabase new i name n
    ↔ (((i ≢ id) × HasDatabase old i name n) ⊎ ((i ≡ id) × (n ≡ last) × ((before : ℤ) × HasDatabase old i name before)))

-- a row that shows the id and the last number of the database of this name
abbrev pub IsDatabaseRow : Trees → List ℕ → Row → Type 0
IsDatabaseRow trees name row = (id : ℤ) × (last : ℤ) × (row ≡ Int id ∷ Int last ∷ []) × HasDatabase trees id name last

-- a row that shows the name, the id and the last number of a database
abbrev pub IsListedRow : Trees → Row → Type 0
IsListedRow trees row = (name : List ℕ) × (id : ℤ) × (last : ℤ) × (row ≡ Text name ∷ Int id ∷ Int last ∷ []) × HasDatabase trees id name last

-- such a row whose last number is 0 or more, and whose name is UTF-8
abbrev pub IsDatabaseShown : Row → Type 0
IsDatabaseShown row = (name : List ℕ) × (id : ℤ) × (n : ℕ) × (row ≡ Text name ∷ Int id ∷ Int (pos n) ∷ []) × IsUtf8 name

-- no row is left
abbrev pub Empties : ℕ → Trees → Trees → Type 0
Empties tree old new = new tree ≡ []

-- a row that shows the number and the bytes of the record with this identifier
abbrev pub IsElderRow : ℤ → List ℕ → Trees → Row → Type 0
IsElderRow db ident trees row = (sysno : ℤ) × (bytes : List ℕ) × (row ≡ Int sysno ∷ Blob bytes ∷ []) × HasRecord trees db sysno ident bytes

-- a row that shows the identifier of the record with this number
abbrev pub IsIdentRow : ℤ → ℤ → Trees → Row → Type 0
IsIdentRow db sysno trees row = (ident : List ℕ) × (bytes : List ℕ) × (row ≡ Text ident ∷ []) × HasRecord trees db sysno ident bytes

abbrev pub place_key : ℤ → ℤ → ℤ → List ℕ → ℤ → Row
place_key db idx reg term sysno = Int db ∷ Int idx ∷ Int reg ∷ Text term ∷ Int sysno ∷ []

-- a row that shows a record
abbrev pub IsRecordShown : Row → Type 0
IsRecordShown row = (n : ℕ) × (t : List ℕ) × (b : List ℕ) × (row ≡ Int (pos n) ∷ Text t ∷ Blob b ∷ []) × IsUtf8 t

-- ---- counts, and one row after the other

-- one row that shows how many records the database has
abbrev pub ShowsCount : ℤ → Trees → List Row → Type 0
ShowsCount db trees rows = (count : ℕ) × IsRecordCount trees db count × (rows ≡ (Int (pos count) ∷ []) ∷ [])

-- a row that follows these columns in some row of a table, and whose number isn't below the start
abbrev pub IsRestAtLeast : ℕ → Row → ℤ → Trees → Row → Type 0
IsRestAtLeast tree front start trees row = IsRest tree front trees row × (is_lt (value_cmp (column row 0) (Int start)) ≡ false)
