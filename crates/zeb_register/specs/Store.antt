-- The tables of the store as sets of rows.
use Rattle.std.specs.Prelude.{◌≡◌, ◌≢◌, ◌↔◌, ◌⊎◌, ◌++◌, ℕ, ℤ, IsTrue, List, [], ◌∷◌, Option, Some, None, String, string_bytes, IsUtf8}
use Rattle.std.specs.declared.alloc.Global.{Global}
use Rattle.std.specs.List.{AllByRecursion}
use Rattle.sqlite.specs.declared.types.Value.TheVariants.{Null, Int, Text, Blob}
use Rattle.sqlite.specs.Order.{Row, column}
use Rattle.sqlite.specs.Tree.{Trees}
use Rattle.sqlite.specs.State.{State}
use Rattle.sqlite_rules.specs.Lists.{Has}
use Rattle.zeb_register.specs.Tables.{store_schema}
use Rattle.zeb_register.specs.Sql.{HasRow, HasLayout, ChangesOneTable}

-- a connection's tables are the store's six and obey their schema, and the rowids of each are integers that rise
abbrev pub IsStore : State → Type 0
IsStore = HasLayout store_schema

-- the store's tables are there without a row, inside a transaction
abbrev pub IsEmptyStore : State → Type 0
IsEmptyStore s = IsStore s × IsTrue s.in_transaction × AllByRecursion (λ t. s.now.trees t.tree ≡ []) store_schema.tables

-- one table of the store is written as said, each other is as it was, the tables are still a store's, and no transaction begins or ends
abbrev pub Changes : ℕ → (ℕ → Trees → Trees → Type 0) → State → State → Type 0
Changes = ChangesOneTable store_schema

-- the table of texts, by the number that contracts name it by
abbrev pub meta_tree : ℕ
meta_tree = 0

-- the table of single postings
abbrev pub postings_tree : ℕ
postings_tree = 7

-- the table of blocks
abbrev pub blocks_tree : ℕ
blocks_tree = 9

-- the table of terms with their numbers of records
abbrev pub dict_tree : ℕ
dict_tree = 11

-- a row of the database, in the table of records or in one of the registers
abbrev pub IsOfDatabase : ℤ → Row → Type 0
IsOfDatabase db columns = column columns 0 ≡ Int db

-- the row of a name and its text
abbrev pub entry : List ℕ → List ℕ → Row
entry name value = Text name ∷ Text value ∷ []

-- the entry of meta with this name
abbrev pub IsEntryOf : List ℕ → Row → Type 0
IsEntryOf name columns = column columns 0 ≡ Text name

abbrev pub key_of : ℤ → ℤ → ℤ → List ℕ → Row
key_of db idx reg term = Int db ∷ Int idx ∷ Int reg ∷ Text term ∷ []

-- the value of the name, or none where it has none
abbrev pub IsValueOf : Trees → List ℕ → Option (String Global) → Type 0
IsValueOf trees name None = (value : List ℕ) → ¬ HasRow trees meta_tree (entry name value)
IsValueOf trees name (Some value) = HasRow trees meta_tree (entry name (string_bytes value))

-- the text of this name is UTF-8
abbrev pub AreReadableTexts : Trees → List ℕ → Type 0
AreReadableTexts trees name = (value : List ℕ) → HasRow trees meta_tree (entry name value) → IsUtf8 value

-- the table of databases
abbrev pub databases_tree : ℕ
databases_tree = 2

-- the columns of a database, whose id is the rowid, and so the column of the id is NULL
abbrev pub database_columns : List ℕ → ℤ → Row
database_columns name last = Null ∷ Text name ∷ Int last ∷ []

-- a database with this id, name and last number
abbrev pub HasDatabase : Trees → ℤ → List ℕ → ℤ → Type 0
HasDatabase trees id name last = Has (trees databases_tree) (Int id ∷ database_columns name last)

-- there is no database of this id any more, and each other is as it was
abbrev pub TakesDatabase : ℤ → ℕ → Trees → Trees → Type 0
TakesDatabase id tree old new = (i : ℤ) (name : List ℕ) (last : ℤ) → HasDatabase new i name last ↔ (HasDatabase old i name last × (i ≢ id))

-- ---- records

-- the table of records
abbrev pub records_tree : ℕ
records_tree = 4

-- the row of a kept record: its database's id, its number, its identifier and its bytes
abbrev pub record_row : ℤ → ℤ → List ℕ → List ℕ → Row
record_row db sysno ident bytes = Int db ∷ Int sysno ∷ Text ident ∷ Blob bytes ∷ []

-- the database keeps a record with this number, this identifier and these bytes
abbrev pub HasRecord : Trees → ℤ → ℤ → List ℕ → List ℕ → Type 0
HasRecord trees db sysno ident bytes = HasRow trees records_tree (record_row db sysno ident bytes)

-- a record of the database with this number
abbrev pub HasNumber : ℤ → ℤ → Row → Type 0
HasNumber db sysno columns = (column columns 0 ≡ Int db) × (column columns 1 ≡ Int sysno)

-- a record of the database with this number or this identifier
abbrev pub SharesRecord : ℤ → ℤ → List ℕ → Row → Type 0
SharesRecord db sysno ident columns = HasNumber db sysno columns ⊎ ((column columns 0 ≡ Int db) × (column columns 2 ≡ Text ident))

-- a row that begins with these columns, shown by the others
abbrev pub IsRest : ℕ → Row → Trees → Row → Type 0
IsRest tree front trees row = HasRow trees tree (front ++ row)

-- ---- the tables of the lists, and those of the registers, each by the number of its tree: 0 is `meta`, 2 `databases`, 4 `records`, 7
-- `postings`, 9 `blocks` and 11 `dict`; the numbers between are those of their indexes

abbrev pub LacksLists : Trees → Type 0
LacksLists trees = (trees 0 ≡ []) × (trees 2 ≡ []) × (trees 4 ≡ [])

-- the registers' three tables have no row
abbrev pub LacksRegisters : Trees → Type 0
LacksRegisters trees = (trees 7 ≡ []) × (trees 9 ≡ []) × (trees 11 ≡ [])

-- the tables of texts, databases and records are as they were
abbrev pub KeepsLists : Trees → Trees → Type 0
KeepsLists old new = (new 0 ≡ old 0) × (new 2 ≡ old 2) × (new 4 ≡ old 4)

-- the registers' three tables are as they were
abbrev pub KeepsRegisters : Trees → Trees → Type 0
KeepsRegisters old new = (new 7 ≡ old 7) × (new 9 ≡ old 9) × (new 11 ≡ old 11)
