-- What only the contracts of private functions speak of; no public clause reaches it.
-- The rows of one table, read one at a time, beside what is expected.
use Rattle.std.specs.Prelude.{◌≡◌, ◌↔◌, ℕ, ℤ, Bool, IsTrue, List, [], ◌∷◌, length, map, drop, Option, Some, None}
use Rattle.sqlite.specs.declared.types.Value.TheVariants.{Int}
use Rattle.sqlite.specs.Order.{Row}
use Rattle.sqlite.specs.State.{State, IsUnchanged}
use Rattle.zeb_register.specs.declared.read_beside.TheConstants.{RESTS_RECORDS, RESTS_POSTINGS, RESTS_BLOCKS, RESTS_DICT}
use Rattle.zeb_register.specs.declared.statements.owners.TheConstants.{LEAST_RECORDS, LEAST_POSTINGS, LEAST_BLOCKS, LEAST_DICT, GREATEST_RECORDS, GREATEST_POSTINGS, GREATEST_BLOCKS, GREATEST_DICT, NEXT_RECORDS, NEXT_POSTINGS, NEXT_BLOCKS, NEXT_DICT}
use Rattle.zeb_register.specs.declared.agreeing.Table.{Table}
use Rattle.zeb_register.specs.declared.agreeing.Table.TheVariants.{Records, Postings, Blocks, Dict}
use Rattle.zeb_register.specs.declared.expected.ExpectedDatabase.{ExpectedDatabase}
use Rattle.zeb_register.specs.Kept.{record_shown}
use Rattle.zeb_register.specs.PrivateRowExpected.{AreBlocks, IsInOrder, TakeAll, posting_shown, tree_of}
use Rattle.zeb_register.specs.PrivateRowKeys.{IsRunBefore}
use Rattle.zeb_register.specs.Sql.{IsListOf}
use Rattle.zeb_register.specs.Store.{IsRest, IsStore}

-- the query for the rows of a table under the id of a database, in the order of the table's key
abbrev pub rests_text : Table → List ℕ
rests_text Records = RESTS_RECORDS.now
rests_text Postings = RESTS_POSTINGS.now
rests_text Blocks = RESTS_BLOCKS.now
rests_text Dict = RESTS_DICT.now

-- the queries for the least id with which a row of the table begins, for the greatest, and for the least from one on
abbrev pub least_text : Table → List ℕ
least_text Records = LEAST_RECORDS.now
least_text Postings = LEAST_POSTINGS.now
least_text Blocks = LEAST_BLOCKS.now
least_text Dict = LEAST_DICT.now

abbrev pub greatest_text : Table → List ℕ
greatest_text Records = GREATEST_RECORDS.now
greatest_text Postings = GREATEST_POSTINGS.now
greatest_text Blocks = GREATEST_BLOCKS.now
greatest_text Dict = GREATEST_DICT.now

abbrev pub next_text : Table → List ℕ
next_text Records = NEXT_RECORDS.now
next_text Postings = NEXT_POSTINGS.now
next_text Blocks = NEXT_BLOCKS.now
next_text Dict = NEXT_DICT.now

-- at most one row, and it shows the id that is P and is so to each other that is P
abbrev pub ShowsFirst : (ℤ → ℤ → Type 0) → (ℤ → Type 0) → List Row → Type 0
ShowsFirst Up P [] = (id : ℤ) → ¬ P id
ShowsFirst Up P (row ∷ rows) = (id : ℤ) × (row ≡ Int id ∷ []) × P id × ((other : ℤ) → P other → Up id other)

-- the first of the ids that are P; none where there is none
abbrev pub IsFirst : (ℤ → ℤ → Type 0) → (ℤ → Type 0) → Option ℤ → Type 0
IsFirst Up P None = (id : ℤ) → ¬ P id
IsFirst Up P (Some id) = P id × ((other : ℤ) → P other → Up id other)

-- how long the list is that a table's rows are compared with
abbrev pub size_of : Table → ExpectedDatabase → ℕ
size_of Records database = length database.records.items
size_of Postings database = length database.postings.items
size_of Blocks database = length database.postings.items
size_of Dict database = length database.postings.items

-- the rows are those that this list has from a place on
abbrev pub Fits : Table → ExpectedDatabase → List Row → ℕ → Type 0
Fits Records database rows at = rows ≡ map record_shown (drop at database.records.items)
Fits Postings database rows at = rows ≡ map posting_shown (drop at database.postings.items)
Fits Blocks database rows at = AreBlocks rows (drop at database.postings.items)
Fits Dict database rows at = TakeAll IsRunBefore rows (drop at database.postings.items)

-- nothing is changed, and the answer tells whether the rows under the id are those of the whole list, where it rises
abbrev pub ReadsRests : Table → ℤ → ExpectedDatabase → Bool → State → State → Type 0
ReadsRests table db database agree old new =
    IsUnchanged old new
    × (IsStore old → (rows : List Row) × IsListOf (IsRest (tree_of table) (Int db ∷ []) old.now.trees) rows
    × (IsInOrder database → IsTrue agree ↔ Fits table database rows 0))
