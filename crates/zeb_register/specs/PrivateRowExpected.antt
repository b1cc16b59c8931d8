-- What only the contracts of private functions speak of; no public clause reaches it.
-- Rows, table by table and database by database, beside what is expected.
use Rattle.std.specs.Prelude.{◌≡◌, ◌≢◌, ◌↔◌, ℕ, ℤ, pos, List, [], ◌∷◌, ◌++◌, map, filter, codes, string_bytes, slice_get, Some}
use Rattle.std.specs.List.Sorted.{IsStrictlySortedBy}
use Rattle.std.specs.Ordering.{is_eq}
use Rattle.sqlite.specs.declared.types.Value.TheVariants.{Int, Text, Blob}
use Rattle.sqlite.specs.Order.{Row, column}
use Rattle.sqlite.specs.Tree.{Trees}
use Rattle.sqlite_rules.specs.Lists.{Has}
use Rattle.zeb_blocks.specs.declared.postings.Posting.{Posting}
use Rattle.zeb_blocks.specs.Blocks.{BlockSpells, IsNumbered}
use Rattle.zeb_keys.specs.declared.keys.Key.{Key}
use Rattle.zeb_keys.specs.Order.{key_order}
use Rattle.zeb_keys.specs.Registers.{register_code}
use Rattle.zeb_register.specs.declared.agreeing.Table.{Table}
use Rattle.zeb_register.specs.declared.agreeing.Table.TheVariants.{Records, Postings, Blocks, Dict}
use Rattle.zeb_register.specs.declared.catalog.ListedDatabase.{ListedDatabase}
use Rattle.zeb_register.specs.declared.expected.KeyPosting.{KeyPosting}
use Rattle.zeb_register.specs.declared.expected.ExpectedDatabase.{ExpectedDatabase}
use Rattle.zeb_register.specs.declared.expected.Expected.{Expected}
use Rattle.zeb_register.specs.Agreeing.{HasRecords, HoldsThere, HoldsUnder, IsListedId, Owns}
use Rattle.zeb_register.specs.Expected.{key_posting_order, number_order}
use Rattle.zeb_register.specs.Occurring.{IsCount}
use Rattle.zeb_register.specs.PackedBlocks.{part_in}
use Rattle.zeb_register.specs.PlainRows.{posting_row}
use Rattle.zeb_register.specs.PrivateRowTerms.{IsInRecord}
use Rattle.zeb_register.specs.Store.{IsRest, blocks_tree, dict_tree, entry, postings_tree, records_tree}

-- ---- what rows show

-- the expected rows of `meta`, by their names
abbrev pub text_rows : Expected → List Row
text_rows expected =
    entry (codes "identifier") (string_bytes expected.identifier) ∷ entry (codes "profile") (string_bytes expected.profile) ∷ entry (codes "version") (string_bytes expected.version) ∷ []

-- the columns of a key beside its database
abbrev pub key_shown : Key → Row
key_shown key = Int (pos key.index) ∷ Int (pos (register_code key.register)) ∷ Text key.term ∷ []

abbrev pub posting_shown : KeyPosting → Row
posting_shown p = key_shown p.key ++ posting_row p.posting

abbrev pub next_three : Row → Row
next_three row = column row 3 ∷ column row 4 ∷ column row 5 ∷ []

-- ---- one table, database by database

-- each row of the table begins with the id of one of the databases
abbrev pub BelongsTo : ℕ → List ListedDatabase → Trees → Type 0
BelongsTo tree listed trees = (id : ℤ) → Owns tree trees id → IsListedId listed id

-- the two stand at one place of the lists
abbrev pub IsPair : List ListedDatabase → List ExpectedDatabase → ListedDatabase → ExpectedDatabase → Type 0
IsPair listed databases one database = (k : ℕ) × (slice_get listed k ≡ Some one) × (slice_get databases k ≡ Some database)

-- ---- what is expected of each table that has rows of databases

abbrev pub tree_of : Table → ℕ
tree_of Records = records_tree
tree_of Postings = postings_tree
tree_of Blocks = blocks_tree
tree_of Dict = dict_tree

-- the postings of the key
abbrev pub list_under : Key → List KeyPosting → List Posting
list_under key postings = map (λ (p : KeyPosting). p.posting) (filter (λ (p : KeyPosting). is_eq (key_order p.key key)) postings)

-- the columns of a row of `blocks` beside its database: a key and a block in which it has a posting, and the bytes that spell what it has
-- there
abbrev pub IsBlockRest : List KeyPosting → Row → Type 0
IsBlockRest postings row =
    (key : Key) × (block : ℕ) × (bytes : List ℕ) × BlockSpells block (part_in block (list_under key postings)) bytes
    × (row ≡ key_shown key ++ Int (pos block) ∷ Blob bytes ∷ [])

-- those of a row of `dict`: a key that has a posting, and how many records have it
abbrev pub IsDictRest : List KeyPosting → Row → Type 0
IsDictRest postings row =
    (key : Key) × (records : ℕ) × (list_under key postings ≢ []) × IsCount (IsInRecord (list_under key postings)) records
    × (row ≡ key_shown key ++ Int (pos records) ∷ [])

-- the rows of the table that begin with the id are those that are expected of the database
abbrev pub AsExpected : Table → ℤ → ExpectedDatabase → Trees → Type 0
AsExpected Records id database trees = HasRecords id database trees
AsExpected Postings id database trees = HoldsUnder postings_tree id (map posting_shown database.postings.items) trees
AsExpected Blocks id database trees =
    ((p : KeyPosting) → Has database.postings.items p → IsNumbered p.posting)
    × ((row : Row) → IsRest blocks_tree (Int id ∷ []) trees row ↔ IsBlockRest database.postings.items row)
AsExpected Dict id database trees = (row : Row) → IsRest dict_tree (Int id ∷ []) trees row ↔ IsDictRest database.postings.items row

-- each database has under its id what is expected of it
abbrev pub EachAsExpected : Table → List ListedDatabase → List ExpectedDatabase → Trees → Type 0
EachAsExpected table listed databases trees =
    (one : ListedDatabase) (database : ExpectedDatabase) → IsPair listed databases one database → AsExpected table one.id.0 database trees

-- and no other id has a row
abbrev pub HoldsExpected : Table → List ListedDatabase → List ExpectedDatabase → Trees → Type 0
HoldsExpected table listed databases trees = EachAsExpected table listed databases trees × BelongsTo (tree_of table) listed trees

-- records and postings rise
abbrev pub IsInOrder : ExpectedDatabase → Type 0
IsInOrder database = IsStrictlySortedBy number_order database.records.items × IsStrictlySortedBy key_posting_order database.postings.items

abbrev pub AreInOrder : List ExpectedDatabase → Type 0
AreInOrder databases = (database : ExpectedDatabase) → Has databases database → IsInOrder database

-- the table holds just what is expected of the databases that are there
abbrev pub TableHolds : Table → List ExpectedDatabase → Trees → Type 0
TableHolds table = HoldsThere (tree_of table) (AsExpected table)

-- no packed table has a row
abbrev pub LacksPacked : Trees → Type 0
LacksPacked trees = BelongsTo blocks_tree [] trees × BelongsTo dict_tree [] trees

-- ---- rows of packed tables, each before those that are left

abbrev pub with_key : Key → Posting → KeyPosting
with_key key p = record { key = key; posting = p }

-- the row spells the postings that stand before the rest: those of its key in its block
abbrev pub IsBlockBefore : Row → List KeyPosting → List KeyPosting → Type 0
IsBlockBefore row postings rest =
    (key : Key) × (block : ℕ) × (bytes : List ℕ) × (part : List Posting) × (row ≡ key_shown key ++ Int (pos block) ∷ Blob bytes ∷ [])
    × BlockSpells block part bytes × (postings ≡ map (with_key key) part ++ rest)

-- the rows take the postings, each its own from the front of those that are left
abbrev pub TakeAll : (Row → List KeyPosting → List KeyPosting → Type 0) → List Row → List KeyPosting → Type 0
TakeAll Before [] postings = postings ≡ []
TakeAll Before (row ∷ rows) postings = (rest : List KeyPosting) × Before row postings rest × TakeAll Before rows rest

-- the rows spell the postings, one behind the other
abbrev pub AreBlocks : List Row → List KeyPosting → Type 0
AreBlocks = TakeAll IsBlockBefore

-- `dict` holds what is expected, and the table of single postings has no row
abbrev pub HoldsKeysAlone : List ListedDatabase → List ExpectedDatabase → Trees → Type 0
HoldsKeysAlone listed databases trees = HoldsExpected Dict listed databases trees × BelongsTo postings_tree [] trees
