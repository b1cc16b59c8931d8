-- What the leaves of a register say of a term, block by block, whatever they are: its postings in a block, and how many records have it.
use Rattle.std.specs.Prelude.{◌≡◌, ◌≢◌, ◌⊎◌, ◌↔◌, ℕ, List, [], sum_by}
use Rattle.std.specs.List.Sorted.{IsStrictlySortedBy}
use Rattle.sqlite.specs.Order.{Row}
use Rattle.sqlite_rules.specs.Lists.{Has}
use Rattle.zeb_blocks.specs.Blocks.{BlockSpells}
use Rattle.zeb_blocks.specs.declared.postings.Posting.{Posting}
use Rattle.zeb_leaf.specs.Order.{entry_cmp}
use Rattle.zeb_leaf.specs.declared.entries.Entry.{Entry}
use Rattle.zeb_register.specs.Covering.{Covers, HasEntriesAt, LacksEntriesAt, ShowsEntries, leaf_key}
use Rattle.zeb_register.specs.Occurring.{IsCount}

-- a posting of the list is of the record with this number
abbrev pub HasRecordOf : List Posting → ℕ → Type 0
HasRecordOf list sysno = (p : Posting) × Has list p × (p.sysno ≡ sysno)

-- the entry's block spells these postings, and the entry counts their records
pub record SaysPart (e : Entry) (part : List Posting) : Type 0 where
  pub spelled : BlockSpells e.block part e.bytes
  pub counted : IsCount (HasRecordOf part) e.records

-- the entry is that of the block of the term
abbrev pub IsAt : List ℕ → ℕ → Entry → Type 0
IsAt term block e = (e.term ≡ term) × (e.block ≡ block)

-- entries say these postings of a block of a term: the entry of the block says them, or they are none and there is no such entry
pub record SayPart (entries : List Entry) (term : List ℕ) (block : ℕ) (part : List Posting) : Type 0 where
  pub said : (e : Entry) → Has entries e → IsAt term block e → SaysPart e part
  pub there : part ≢ [] → (e : Entry) × Has entries e × IsAt term block e

module _ (Leaves : Row → Type 0) (term : List ℕ) where
  -- the block of the term reads as these postings: the leaf that covers it says them
  abbrev pub PartReads : ℕ → List Posting → Type 0
  PartReads block part =
      (entries : List Entry) × HasEntriesAt Leaves (leaf_key term block) entries × SayPart entries term block part

  -- the leaf that covers the block of the term says no postings of it
  abbrev pub IsPartMalformed : ℕ → Type 0
  IsPartMalformed block =
      LacksEntriesAt Leaves (leaf_key term block)
      ⊎ ((leaf : Row) × (entries : List Entry) × Covers Leaves (leaf_key term block) leaf × ShowsEntries leaf entries
      × ((part : List Posting) → ¬ SayPart entries term block part))

  -- an entry of the term, in the leaf that covers its block
  abbrev pub IsEntryOf : Entry → Type 0
  IsEntryOf e =
      (e.term ≡ term) × (leaf : Row) × (entries : List Entry)
      × Covers Leaves (leaf_key term e.block) leaf × ShowsEntries leaf entries × Has entries e

  -- so many records have the term: the sum over its entries, where each leaf that covers a block of it shows its entries
  pub record SumsRecords (records : ℕ) : Type 0 where
    pub whole : (block : ℕ) → (entries : List Entry) × HasEntriesAt Leaves (leaf_key term block) entries
    pub own : List Entry
    pub rising : IsStrictlySortedBy entry_cmp own
    pub each : (e : Entry) → Has own e ↔ IsEntryOf e
    pub sum : records ≡ sum_by (λ e. e.records) own

  -- a leaf that covers a block of the term shows no entries, or none covers it
  abbrev pub LacksSum : Type 0
  LacksSum = (block : ℕ) × LacksEntriesAt Leaves (leaf_key term block)
