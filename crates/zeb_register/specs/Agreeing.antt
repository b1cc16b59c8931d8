-- Texts, databases and records beside what is expected of them, under whatever ids the databases are.
use Rattle.std.specs.Prelude.{◌≡◌, ◌↔◌, ◌≤ℤ◌, ℕ, ℤ, pos, List, [], ◌∷◌, Option, None, Some, map, string_bytes}
use Rattle.sqlite.specs.declared.types.Value.TheVariants.{Int}
use Rattle.sqlite.specs.Order.{Row}
use Rattle.sqlite.specs.Tree.{Trees}
use Rattle.sqlite_rules.specs.Lists.{Has}
use Rattle.zeb_register.specs.declared.belonging.Ends.{Ends}
use Rattle.zeb_register.specs.declared.catalog.ListedDatabase.{ListedDatabase}
use Rattle.zeb_register.specs.declared.expected.ExpectedDatabase.{ExpectedDatabase}
use Rattle.zeb_register.specs.declared.expected.Expected.{Expected}
use Rattle.zeb_register.specs.Catalog.{AreDatabases}
use Rattle.zeb_register.specs.Expected.{IsTextOf}
use Rattle.zeb_register.specs.Kept.{record_shown}
use Rattle.zeb_register.specs.Sql.{HasRow}
use Rattle.zeb_register.specs.Store.{HasDatabase, IsRest, dict_tree, entry, meta_tree, postings_tree, records_tree}

-- ---- rows under the ids of databases

-- some row of the table begins with the id
abbrev pub Owns : ℕ → Trees → ℤ → Type 0
Owns tree trees id = (rest : Row) × HasRow trees tree (Int id ∷ rest)

-- the least id with which a row of the table begins, and one that none is above; none where the table has no row
abbrev pub AreEnds : ℕ → Trees → Option Ends → Type 0
AreEnds tree trees None = (id : ℤ) → ¬ Owns tree trees id
AreEnds tree trees (Some ends) = Owns tree trees ends.first × ((id : ℤ) → Owns tree trees id → (ends.first ≤ℤ id) × (id ≤ℤ ends.last))

-- the least id from a start on that is P; none where each that is P is below the start
abbrev pub IsLeastFrom : (ℤ → Type 0) → ℤ → Option ℤ → Type 0
IsLeastFrom P start None = (id : ℤ) → P id → ¬ (start ≤ℤ id)
IsLeastFrom P start (Some id) = P id × (start ≤ℤ id) × ((other : ℤ) → P other → start ≤ℤ other → id ≤ℤ other)

-- the rows of the table that begin with the id go on like these
abbrev pub HoldsUnder : ℕ → ℤ → List Row → Trees → Type 0
HoldsUnder tree id rests trees = (row : Row) → IsRest tree (Int id ∷ []) trees row ↔ Has rests row

-- no row stands in the tables of single postings and of terms with their numbers of records
abbrev pub LacksPostingsAndDict : Trees → Type 0
LacksPostingsAndDict trees = (trees postings_tree ≡ []) × (trees dict_tree ≡ [])

-- ---- databases

-- the databases that are there have the expected names and last numbers
abbrev pub HasNames : Trees → List ExpectedDatabase → Type 0
HasNames trees databases =
    (name : List ℕ) (last : ℤ) → ((id : ℤ) × HasDatabase trees id name last)
    ↔ ((database : ExpectedDatabase) × Has databases database × (name ≡ string_bytes database.name) × (last ≡ pos database.last))

-- the database is expected, and it is there under the id
abbrev pub IsThere : Trees → List ExpectedDatabase → ℤ → ExpectedDatabase → Type 0
IsThere trees databases id database = Has databases database × HasDatabase trees id (string_bytes database.name) (pos database.last)

-- each row of the table begins with the id of an expected database
abbrev pub BelongsThere : ℕ → List ExpectedDatabase → Trees → Type 0
BelongsThere tree databases trees = (id : ℤ) → Owns tree trees id → (database : ExpectedDatabase) × IsThere trees databases id database

abbrev pub EachThere : (ℤ → ExpectedDatabase → Trees → Type 0) → List ExpectedDatabase → Trees → Type 0
EachThere Holds databases trees = (id : ℤ) (database : ExpectedDatabase) → IsThere trees databases id database → Holds id database trees

-- the table holds this of each database that is there, and no other row
abbrev pub HoldsThere : ℕ → (ℤ → ExpectedDatabase → Trees → Type 0) → List ExpectedDatabase → Trees → Type 0
HoldsThere tree Holds databases trees = EachThere Holds databases trees × BelongsThere tree databases trees

-- ---- texts, databases and records

abbrev pub KeepsExpectedTexts : Trees → Expected → Type 0
KeepsExpectedTexts trees expected = (name value : List ℕ) → HasRow trees meta_tree (entry name value) ↔ IsTextOf expected name value

-- the records under the id are those that are expected of the database
abbrev pub HasRecords : ℤ → ExpectedDatabase → Trees → Type 0
HasRecords id database = HoldsUnder records_tree id (map record_shown database.records.items)

abbrev pub RecordsAgree : List ExpectedDatabase → Trees → Type 0
RecordsAgree = HoldsThere records_tree HasRecords

-- texts, databases and records are just the expected ones, under whatever ids the databases are
pub record ListsAgree (trees : Trees) (expected : Expected) : Type 0 where
  pub texts : KeepsExpectedTexts trees expected
  pub names : HasNames trees expected.databases.items
  pub records : RecordsAgree expected.databases.items trees

-- ---- a list of the databases that are there

-- one of the databases has the id
abbrev pub IsListedId : List ListedDatabase → ℤ → Type 0
IsListedId listed id = (database : ListedDatabase) × Has listed database × (id ≡ database.id.0)

abbrev pub listed_name : ListedDatabase → List ℕ × ℕ
listed_name database = (string_bytes database.name, database.last)

abbrev pub expected_name : ExpectedDatabase → List ℕ × ℕ
expected_name database = (string_bytes database.name, database.last)

-- these databases are there, and they have the expected names and last numbers, in the same order
abbrev pub AreBeside : List ListedDatabase → List ExpectedDatabase → Trees → Type 0
AreBeside listed databases trees = AreDatabases trees listed × (map listed_name listed ≡ map expected_name databases)
