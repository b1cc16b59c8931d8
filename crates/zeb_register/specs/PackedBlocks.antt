-- Version 2, the layout with packed blocks: which rows hold a content. Such tables and blocks are this project's own.
use Rattle.std.specs.Prelude.{◌≡◌, ◌≢◌, ◌↔◌, ◌+◌, ◌/◌, ◌==◌, ◌≤◌, if◌then◌else◌, ℕ, ℤ, pos, List, [], ◌∷◌, ◌++◌, filter, IsUtf8}
use Rattle.sqlite.specs.declared.types.Value.{Value}
use Rattle.sqlite.specs.declared.types.Value.TheVariants.{Int, Text, Blob}
use Rattle.sqlite.specs.Order.{Row, column}
use Rattle.sqlite.specs.Tree.{Trees}
use Rattle.sqlite_rules.specs.Lists.{Has}
use Rattle.zeb_blocks.specs.declared.postings.Posting.{Posting}
use Rattle.zeb_blocks.specs.Blocks.{BlockSpells, IsNumbered}
use Rattle.zeb_keys.specs.declared.keys.Key.{Key}
use Rattle.zeb_register.specs.Sql.{HasRow}
use Rattle.zeb_register.specs.Store.{IsRest, postings_tree, blocks_tree, dict_tree}
use Rattle.zeb_register.specs.Content.{Content, HasRisingLists, posted}
use Rattle.zeb_register.specs.Occurring.{IsCount, HasKey}
use Rattle.zeb_register.specs.PlainRows.{key_row}

-- the postings of a list that lie in the block: those whose system number div 256 is the block
abbrev pub part_in : ℕ → List Posting → List Posting
part_in block list = filter (λ p. p.sysno / 256 == block) list

-- a row of `blocks`: a key, the number of a block, and bytes
abbrev pub block_row : ℤ → Key → ℕ → List ℕ → Row
block_row db key block bytes = key_row db key ++ Int (pos block) ∷ Blob bytes ∷ []

-- a row of `dict`: a key, and how many records have it
abbrev pub dict_row : ℤ → Key → ℕ → Row
dict_row db key records = key_row db key ++ Int (pos records) ∷ []

-- the row of a key and a block in which it has a posting: its bytes spell the postings of the key there
abbrev pub IsBlockRow : Content → Row → Type 0
IsBlockRow content row =
    (db : ℤ) × (key : Key) × (block : ℕ) × (bytes : List ℕ)
    × BlockSpells block (part_in block (content db key)) bytes × (row ≡ block_row db key block bytes)

-- the row of a key that has a posting: it counts the records that have the key
abbrev pub IsDictRow : Content → Row → Type 0
IsDictRow content row =
    (db : ℤ) × (key : Key) × (records : ℕ)
    × (content db key ≢ []) × IsCount (HasKey (posted content db) key) records × (row ≡ dict_row db key records)

-- The tables of the registers hold the content: a row of `blocks` for each key and each block in which it has a posting, a row of `dict`
-- for each key that has one, and no other, and no row of `postings`. No number of a posting is 0 or needs more than 64 bits.
pub record HoldsBlocks (trees : Trees) (content : Content) : Type 0 where
  pub rising : HasRisingLists content
  pub numbered : (db : ℤ) (key : Key) (p : Posting) → Has (content db key) p → IsNumbered p
  pub blocks : (row : Row) → HasRow trees blocks_tree row ↔ IsBlockRow content row
  pub dict : (row : Row) → HasRow trees dict_tree row ↔ IsDictRow content row
  pub alone : trees postings_tree ≡ []

-- how many rows of `blocks` a rising list has: one, and one more wherever the next posting lies in another block
abbrev pub blocks_of : List Posting → ℕ
blocks_of [] = 0
blocks_of (p ∷ []) = 1
blocks_of (p ∷ q ∷ list) = (if p.sysno / 256 == q.sysno / 256 then 0 else 1) + blocks_of (q ∷ list)

-- the row shows a block and bytes that spell these postings in it
abbrev pub SpellsPart : Row → List Posting → Type 0
SpellsPart row part = (block : ℕ) × (bytes : List ℕ) × (column row 0 ≡ Int (pos block)) × (column row 1 ≡ Blob bytes) × BlockSpells block part bytes

-- each row of `blocks` that begins with these columns spells some postings
abbrev pub AreAllSpelled : Trees → Row → Type 0
AreAllSpelled trees front = (row : Row) → IsRest blocks_tree front trees row → (part : List Posting) × SpellsPart row part

-- ---- rows of `dict`, whatever they hold

-- a number of records: each has a number of 1 to 999,999,999
abbrev pub IsRecordNumber : Value → Type 0
IsRecordNumber value = (records : ℕ) × (value ≡ Int (pos records)) × (1 ≤ records) × (records ≤ 999999999)

-- the row shows a term of UTF-8, and a number of records that have it
abbrev pub CountsTerm : Row → Type 0
CountsTerm row = (term : List ℕ) × (column row 0 ≡ Text term) × IsUtf8 term × IsRecordNumber (column row 1)
