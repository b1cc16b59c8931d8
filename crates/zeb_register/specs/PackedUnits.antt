-- What packed rows say, unit by unit, on any rows: of a key in one record its places, of a key how many records have it. Such tables are
-- this project's own.
use Rattle.std.specs.Prelude.{◌≡◌, ◌≢◌, ◌/◌, ◌≤◌, ℕ, ℤ, pos, List, []}
use Rattle.sqlite.specs.declared.types.Value.TheVariants.{Int}
use Rattle.sqlite.specs.Order.{Row, column}
use Rattle.sqlite.specs.Tree.{Trees}
use Rattle.zeb_blocks.specs.declared.postings.Posting.{Posting}
use Rattle.zeb_keys.specs.declared.keys.Key.{Key}
use Rattle.zeb_register.specs.declared.registers.Place.{Place}
use Rattle.zeb_register.specs.Content.{places_in}
use Rattle.zeb_register.specs.PackedBlocks.{IsRecordNumber, SpellsPart, block_row, dict_row}
use Rattle.zeb_register.specs.PlainRows.{key_row}
use Rattle.zeb_register.specs.Sql.{HasRow}
use Rattle.zeb_register.specs.Store.{IsRest, blocks_tree, dict_tree, postings_tree}

-- a row of the key's blocks, shown by its columns behind the key
abbrev pub IsOfKey : Trees → ℤ → Key → Row → Type 0
IsOfKey trees db key = IsRest blocks_tree (key_row db key) trees

-- a row of the key's blocks has this block's number
abbrev pub IsOfBlock : Trees → ℤ → Key → ℕ → Row → Type 0
IsOfBlock trees db key block row = IsOfKey trees db key row × (column row 0 ≡ Int (pos block))

-- the row's bytes spell no postings in its block
abbrev pub IsMalformed : Row → Type 0
IsMalformed row = (part : List Posting) → ¬ SpellsPart row part

-- The block of the key reads as these postings: its row spells them, or they are none and there is no row. Two rows of one block, which no
-- store has, would both have to.
pub record BlockReads (trees : Trees) (db : ℤ) (key : Key) (block : ℕ) (part : List Posting) : Type 0 where
  pub spelled : (row : Row) → IsOfBlock trees db key block row → SpellsPart row part
  pub there : part ≢ [] → (row : Row) × IsOfBlock trees db key block row

-- a row of the key with this block's number spells no postings
abbrev pub IsBlockMalformed : Trees → ℤ → Key → ℕ → Type 0
IsBlockMalformed trees db key block = (row : Row) × IsOfBlock trees db key block row × IsMalformed row

-- ---- a unit: a database, a key and a record's number

-- in packed blocks a key has just these places in a record
abbrev pub ReadsAs : Trees → ℤ → Key → ℕ → List Place → Type 0
ReadsAs trees db key sysno places = (part : List Posting) × BlockReads trees db key (sysno / 256) part × (places ≡ places_in sysno part)

-- a unit is malformed where the row of its block is
abbrev pub IsMalformedAt : Trees → ℤ → Key → ℕ → Type 0
IsMalformedAt trees db key sysno = IsBlockMalformed trees db key (sysno / 256)

-- a row of the key is malformed; where it is of no block that a record lies in, it is so too
abbrev pub HasMalformed : Trees → ℤ → Key → Type 0
HasMalformed trees db key = (row : Row) × IsOfKey trees db key row × IsMalformed row

-- ---- how many records have a key: 0 where it has no row of `dict`

-- a row of the key in `dict`, shown by its columns behind the key
abbrev pub IsCountOf : Trees → ℤ → Key → Row → Type 0
IsCountOf trees db key = IsRest dict_tree (key_row db key) trees

-- the key's row of `dict` says so many records, 1 to 999,999,999, or they are none and there is no row
pub record CountsAs (trees : Trees) (db : ℤ) (key : Key) (records : ℕ) : Type 0 where
  pub said : (row : Row) → IsCountOf trees db key row → (1 ≤ records) × (records ≤ 999999999) × (column row 0 ≡ Int (pos records))
  pub there : 1 ≤ records → (row : Row) × IsCountOf trees db key row

-- the key's row of `dict` says no number of records
abbrev pub IsMiscounted : Trees → ℤ → Key → Type 0
IsMiscounted trees db key = (row : Row) × IsCountOf trees db key row × ¬ IsRecordNumber (column row 0)

-- ---- each row of the registers is one of a block or a count

-- each row of `blocks` is that of a block of a key, each of `dict` that of a key's count, and `postings` has none
pub record AreBlocksAlone (trees : Trees) : Type 0 where
  pub blocks : (row : Row) → HasRow trees blocks_tree row → (db : ℤ) × (key : Key) × (block : ℕ) × (bytes : List ℕ) × (row ≡ block_row db key block bytes)
  pub dict : (row : Row) → HasRow trees dict_tree row → (db : ℤ) × (key : Key) × (records : ℕ) × (row ≡ dict_row db key records)
  pub alone : trees postings_tree ≡ []
