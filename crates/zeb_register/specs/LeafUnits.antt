-- What leaves say, unit by unit, on any rows: of a key in one record its places, of a key how many records have it. This layout is the
-- project's own.
use Rattle.std.specs.Prelude.{◌≡◌, ◌/◌, ℕ, ℤ, pos, List}
use Rattle.sqlite.specs.declared.types.Value.TheVariants.{Int}
use Rattle.sqlite.specs.Order.{Row, column}
use Rattle.sqlite.specs.Tree.{Trees}
use Rattle.zeb_blocks.specs.declared.postings.Posting.{Posting}
use Rattle.zeb_keys.specs.declared.keys.Key.{Key}
use Rattle.zeb_register.specs.Readings.{IsPartMalformed, LacksSum, PartReads, SumsRecords}
use Rattle.zeb_register.specs.declared.registers.Place.{Place}
use Rattle.zeb_register.specs.Content.{places_in}
use Rattle.zeb_register.specs.PlainRows.{register_front}
use Rattle.zeb_register.specs.Store.{IsRest, blocks_tree}

-- a leaf of the key's register: a row of `blocks` whose block isn't negative; nobody reads another
abbrev pub IsLeafOf : Trees → ℤ → Key → Row → Type 0
IsLeafOf trees db key leaf =
    IsRest blocks_tree (register_front db key.index key.register) trees leaf × (block : ℕ) × (column leaf 1 ≡ Int (pos block))

-- a block of the key reads as these postings
abbrev pub LeavesReadBlock : Trees → ℤ → Key → ℕ → List Posting → Type 0
LeavesReadBlock trees db key = PartReads (IsLeafOf trees db key) key.term

-- ---- a unit: a database, a key and a record's number

-- a unit reads as the places that its block has in the record
abbrev pub LeavesRead : Trees → ℤ → Key → ℕ → List Place → Type 0
LeavesRead trees db key sysno places =
    (part : List Posting) × LeavesReadBlock trees db key (sysno / 256) part × (places ≡ places_in sysno part)

-- a unit is malformed where its block is
abbrev pub IsLeafMalformed : Trees → ℤ → Key → ℕ → Type 0
IsLeafMalformed trees db key sysno = IsPartMalformed (IsLeafOf trees db key) key.term (sysno / 256)

-- each block of the key reads as some postings
abbrev pub AreLeavesWhole : Trees → ℤ → Key → Type 0
AreLeavesWhole trees db key = (block : ℕ) → (part : List Posting) × LeavesReadBlock trees db key block part

-- in leaves some block of the key is malformed
abbrev pub HasMalformedLeaf : Trees → ℤ → Key → Type 0
HasMalformedLeaf trees db key = (block : ℕ) × IsPartMalformed (IsLeafOf trees db key) key.term block

-- ---- how many records have a key

-- so many records have a key by the sum over its entries, where each leaf that covers a block of it shows its entries
abbrev pub LeavesCount : Trees → ℤ → Key → ℕ → Type 0
LeavesCount trees db key = SumsRecords (IsLeafOf trees db key) key.term

-- a leaf that covers a block of the key shows no entries; or the key's register has leaves, and none covers some block of it
abbrev pub AreLeavesMiscounted : Trees → ℤ → Key → Type 0
AreLeavesMiscounted trees db key = LacksSum (IsLeafOf trees db key) key.term
