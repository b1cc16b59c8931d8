-- What the rows of the registers have to be that a search reads, whatever the others hold. Of a row of `postings` nothing is asked.
use Rattle.std.specs.Prelude.{◌≡◌, ◌≢◌, ◌↔◌, ℕ, ℤ, List, ◌++◌, IsUtf8}
use Rattle.sqlite.specs.declared.types.Value.TheVariants.{Text}
use Rattle.sqlite.specs.Order.{Row, column}
use Rattle.sqlite.specs.Tree.{Trees}
use Rattle.zeb_blocks.specs.declared.postings.Posting.{Posting}
use Rattle.zeb_keys.specs.declared.keys.Key.{Key}
use Rattle.zeb_leaf.specs.declared.entries.Entry.{Entry}
use Rattle.zeb_register.specs.Formats.{Format, packed_blocks, packed_leaves, plain_rows}
use Rattle.zeb_register.specs.LeafUnits.{AreLeavesWhole, IsLeafMalformed, IsLeafOf, LeavesCount}
use Rattle.zeb_register.specs.PackedBlocks.{AreAllSpelled, CountsTerm, IsRecordNumber, SpellsPart}
use Rattle.zeb_register.specs.PlainRows.{key_row, register_front}
use Rattle.zeb_register.specs.Readings.{IsEntryOf}
use Rattle.zeb_register.specs.Sql.{HasRow}
use Rattle.zeb_register.specs.Store.{IsRest, blocks_tree, dict_tree, postings_tree}

-- ---- lists

-- in packed blocks each row of a key's blocks spells some postings, in leaves each of its blocks reads as some, and
-- in plain rows nothing is asked
abbrev pub IsListSound : Format → Trees → ℤ → Key → Type 0
IsListSound plain_rows trees db key = Unit {0}
IsListSound packed_blocks trees db key = AreAllSpelled trees (key_row db key)
IsListSound packed_leaves trees db key = AreLeavesWhole trees db key

-- ---- terms

-- In plain rows nothing is asked. In packed blocks each row of `dict` with the key's term counts it, and then the key's list is sound. In leaves
-- the term has a count, so each leaf that covers a block of it shows its entries; and where one of these is of the term, the term is UTF-8 and the
-- key's list is sound.
abbrev pub IsTermSound : Format → Trees → ℤ → Key → Type 0
IsTermSound plain_rows trees db key = Unit {0}
IsTermSound packed_blocks trees db key = (row : Row) → IsRest dict_tree (register_front db key.index key.register) trees row → column row 0 ≡ Text key.term
    → CountsTerm row × AreAllSpelled trees (key_row db key)
IsTermSound packed_leaves trees db key =
    ((records : ℕ) × LeavesCount trees db key records)
    × ((e : Entry) → IsEntryOf (IsLeafOf trees db key) key.term e → IsUtf8 key.term × AreLeavesWhole trees db key)

-- ---- rows that a change of a key leaves

-- a row of `blocks` spells some postings of a key whose term is UTF-8
abbrev pub SpellsSome : Row → Type 0
SpellsSome row = (db : ℤ) × (key : Key) × (rest : Row) × (part : List Posting) × (row ≡ key_row db key ++ rest) × IsUtf8 key.term × SpellsPart rest part

-- the row says how many records have a key
abbrev pub CountsSome : Row → Type 0
CountsSome row = (db : ℤ) × (key : Key) × (rest : Row) × (row ≡ key_row db key ++ rest) × IsUtf8 key.term × IsRecordNumber (column rest 0)

-- Each row of `blocks` that spells no postings is there still, and so is each of `dict` that says no number of records.
pub record KeepsMalformed (old new : Trees) : Type 0 where
  pub blocks : (row : Row) → ¬ SpellsSome row → HasRow old blocks_tree row → HasRow new blocks_tree row
  pub dict : (row : Row) → ¬ CountsSome row → HasRow old dict_tree row → HasRow new dict_tree row

-- each unit of leaves that is malformed is malformed still, and so it reads in no way
abbrev pub KeepsMalformedUnits : (old new : Trees) → Type 0
KeepsMalformedUnits old new = (db : ℤ) (key : Key) (sysno : ℕ) → IsLeafMalformed old db key sysno → IsLeafMalformed new db key sysno

-- what is malformed is so still: rows, or where one row is of many keys, units
abbrev pub keeps_malformed : Format → (old new : Trees) → Type 0
keeps_malformed plain_rows = KeepsMalformed
keeps_malformed packed_blocks = KeepsMalformed
keeps_malformed packed_leaves = KeepsMalformedUnits

-- the table has just the rows that it had, but those that begin with these columns
abbrev pub KeepsBeside : (front : Row) → ℕ → (old new : Trees) → Type 0
KeepsBeside front tree old new = (row : Row) → ((rest : Row) → row ≢ front ++ rest) → HasRow new tree row ↔ HasRow old tree row

-- the same of each table of the registers
pub record KeepsRowsBeside (front : Row) (old new : Trees) : Type 0 where
  pub postings : KeepsBeside front postings_tree old new
  pub blocks : KeepsBeside front blocks_tree old new
  pub dict : KeepsBeside front dict_tree old new
