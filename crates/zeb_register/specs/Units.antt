-- What the registers say, unit by unit, on any rows and in each format. A unit is a database, a key and the number of a record: it reads
-- as its places, or is malformed. A key of a database counts as so many records, or is miscounted.
use Rattle.std.specs.Prelude.{◌↔◌, ℕ, ℤ, List, Result, Vec}
use Rattle.std.specs.declared.alloc.Global.{Global}
use Rattle.std.specs.List.Sorted.{IsStrictlySortedBy}
use Rattle.sqlite.specs.Tree.{Trees}
use Rattle.sqlite.specs.State.{State}
use Rattle.sqlite_rules.specs.Lists.{Has}
use Rattle.zeb_blocks.specs.declared.postings.Posting.{Posting}
use Rattle.zeb_keys.specs.declared.keys.Key.{Key}
use Rattle.zeb_register.specs.declared.faults.RegFault.{RegFault}
use Rattle.zeb_register.specs.declared.registers.Place.{Place}
use Rattle.zeb_register.specs.declared.registers.RegisterOf.{RegisterOf}
use Rattle.zeb_register.specs.Answers.{LooksInto}
use Rattle.zeb_register.specs.Between.{IsBetween}
use Rattle.zeb_register.specs.Content.{Content, HasRisingLists, IsStorable, places_in, posted, posting_cmp}
use Rattle.zeb_register.specs.Formats.{Format, holds_in, packed_blocks, packed_leaves, plain_rows}
use Rattle.zeb_register.specs.HeldLeaves.{AreLeavesAlone}
use Rattle.zeb_register.specs.LeafUnits.{AreLeavesMiscounted, AreLeavesWhole, HasMalformedLeaf, IsLeafMalformed, LeavesCount, LeavesRead}
use Rattle.zeb_register.specs.Occurring.{HasKey, IsCount, key_in}
use Rattle.zeb_register.specs.PackedBlocks.{AreAllSpelled}
use Rattle.zeb_register.specs.PackedUnits.{AreBlocksAlone, CountsAs, HasMalformed, IsMalformedAt, IsMiscounted, ReadsAs}
use Rattle.zeb_register.specs.PlainRows.{key_row}
use Rattle.zeb_register.specs.PlainUnits.{AreAllShown, AreRowsAlone, HasShownNone, IsRowMalformed, RowsCount, RowsRead}

-- ---- one unit, one count

-- a unit, which is a database, a key and the number of a record, reads as these places
abbrev pub reads_as : Format → Trees → ℤ → Key → ℕ → List Place → Type 0
reads_as plain_rows = RowsRead
reads_as packed_blocks = ReadsAs
reads_as packed_leaves = LeavesRead

-- a unit is malformed: in plain rows a row of it shows no posting; in packed blocks the row of its block spells none; in leaves its block isn't
-- readable
abbrev pub is_malformed : Format → Trees → ℤ → Key → ℕ → Type 0
is_malformed plain_rows = IsRowMalformed
is_malformed packed_blocks = IsMalformedAt
is_malformed packed_leaves = IsLeafMalformed

-- the rows of a key in a database count so many records that have it
abbrev pub counts_as : Format → Trees → ℤ → Key → ℕ → Type 0
counts_as plain_rows = RowsCount
counts_as packed_blocks = CountsAs
counts_as packed_leaves = LeavesCount

-- a key is miscounted: in plain rows a row of it shows no posting; in packed blocks its row of `dict` says no number of records; in leaves no
-- entries can be read where some block of it has to stand
abbrev pub is_miscounted : Format → Trees → ℤ → Key → Type 0
is_miscounted plain_rows = HasShownNone
is_miscounted packed_blocks = IsMiscounted
is_miscounted packed_leaves = AreLeavesMiscounted

-- ---- all units of a key

-- each row of the key is of a unit that reads as some places; in leaves, each unit of the key reads
abbrev pub is_whole : Format → Trees → ℤ → Key → Type 0
is_whole plain_rows trees db key = AreAllShown trees db key
is_whole packed_blocks trees db key = AreAllSpelled trees (key_row db key)
is_whole packed_leaves trees db key = AreLeavesWhole trees db key

-- one of its rows is malformed, or of no unit; in leaves, one of its units is malformed
abbrev pub has_malformed : Format → Trees → ℤ → Key → Type 0
has_malformed plain_rows = HasShownNone
has_malformed packed_blocks = HasMalformed
has_malformed packed_leaves = HasMalformedLeaf

-- the postings are those that the units of the key say, in order, and no row of the key stands beside
pub record ListsUnits (format : Format) (trees : Trees) (db : ℤ) (key : Key) (list : List Posting) : Type 0 where
  pub rising : IsStrictlySortedBy posting_cmp list
  pub units : (sysno : ℕ) → reads_as format trees db key sysno (places_in sysno list)
  pub whole : is_whole format trees db key

-- a call that changes nothing lists the units of the key, or is refused as Damaged only where one of the key's rows is malformed
abbrev pub ListsKey : Format → ℤ → Key → State → State → Result (Vec Posting Global) RegFault → Type 0
ListsKey format db key =
    LooksInto (λ trees. has_malformed format trees db key) (λ (trees : Trees) (list : Vec Posting Global). ListsUnits format trees db key list.items)

-- ---- all units of neighbouring terms

-- the postings are those that the units of the terms from one text to another say, in any order, and no row of these terms stands beside
pub record ListsBetween (format : Format) (trees : Trees) (at : RegisterOf) (first last : List ℕ) (list : List Posting) : Type 0 where
  pub lists : List ℕ → List Posting
  pub units : (term : List ℕ) → IsBetween first last term → ListsUnits format trees at.db.0 (key_in at.index at.register term) (lists term)
  pub each : (p : Posting) → Has list p ↔ ((term : List ℕ) × IsBetween first last term × Has (lists term) p)

-- a row of one of these terms is malformed, or of no unit
abbrev pub HasMalformedBetween : Format → Trees → RegisterOf → (first last : List ℕ) → Type 0
HasMalformedBetween format trees at first last =
    (term : List ℕ) × IsBetween first last term × has_malformed format trees at.db.0 (key_in at.index at.register term)

-- a call that changes nothing lists the units of these terms, or is refused as Damaged only where a row of one of them is malformed
abbrev pub ListsTerms : Format → RegisterOf → (first last : List ℕ) → State → State → Result (Vec Posting Global) RegFault → Type 0
ListsTerms format at first last =
    LooksInto (λ trees. HasMalformedBetween format trees at first last) (λ (trees : Trees) (list : Vec Posting Global). ListsBetween format trees at first last list.items)

-- ---- what the tables hold as a whole

-- each row of the registers is that of a unit or a count; in leaves, each entry of each row is
abbrev pub are_alone : Format → Trees → Type 0
are_alone plain_rows = AreRowsAlone
are_alone packed_blocks = AreBlocksAlone
are_alone packed_leaves = AreLeavesAlone

-- each unit and each count reads as the content says, and no row stands beside
pub record HoldsUnits (format : Format) (trees : Trees) (content : Content) : Type 0 where
  pub rising : HasRisingLists content
  pub units : (db : ℤ) (key : Key) (sysno : ℕ) → reads_as format trees db key sysno (places_in sysno (content db key))
  pub counts : (db : ℤ) (key : Key) (records : ℕ) → IsCount (HasKey (posted content db) key) records → counts_as format trees db key records
  pub alone : are_alone format trees

-- where the tables hold a content, what is told by units and counts is told of it, and they are damaged for no
-- content that can be stored
abbrev pub TellsOfContent : {A : Type 0} → Format → Trees → (Told : A → Type 0) → (Damage : Type 0) → (Content → A → Type 0) → Type 0
TellsOfContent format trees Told Damage Says =
    (content : Content) → holds_in format trees content → ((answer : _) → Told answer → Says content answer) × (IsStorable content → ¬ Damage)
