-- What changes of a key's places do to its units, on any rows of a store and in each format.
use Rattle.std.specs.Prelude.{Bool, true, false, pos, IsUtf8, ◌+◌, ◌↔◌, ◌≡◌, ◌≢◌, ◌⊎◌, ◌/◌, ◌≤◌, ℕ, ℤ, List, [], ◌∷◌, Result}
use Rattle.std.specs.List.{AllByRecursion}
use Rattle.std.specs.List.Sorted.{IsNonDecreasingBy}
use Rattle.sqlite.specs.Order.{Row}
use Rattle.sqlite.specs.State.{State}
use Rattle.sqlite.specs.Tree.{Trees}
use Rattle.sqlite_rules.specs.Lists.{Has}
use Rattle.zeb_blocks.specs.declared.postings.Posting.{Posting}
use Rattle.zeb_keys.specs.Registers.{register_code}
use Rattle.zeb_keys.specs.declared.keys.Key.{Key}
use Rattle.zeb_register.specs.declared.faults.RegFault.{RegFault}
use Rattle.zeb_register.specs.declared.faults.RegFault.TheVariants.{Damaged, Store}
use Rattle.zeb_register.specs.declared.registers.Place.{Place}
use Rattle.zeb_register.specs.declared.registers.RecordChange.{RecordChange}
use Rattle.zeb_register.specs.Answers.{Answers}
use Rattle.zeb_register.specs.Clauses.{InStore}
use Rattle.zeb_register.specs.Content.{AreStorablePlaces, places_in}
use Rattle.zeb_register.specs.Formats.{Format, packed_blocks, packed_leaves, plain_rows}
use Rattle.zeb_register.specs.KeptUnits.{KeepsUnits}
use Rattle.zeb_register.specs.PackedBlocks.{block_row, dict_row}
use Rattle.zeb_register.specs.PackedUnits.{CountsAs}
use Rattle.zeb_register.specs.PlainRows.{key_row}
use Rattle.zeb_register.specs.PrivateKeyColumns.{IsNumberedRow, IsDictIn}
use Rattle.zeb_register.specs.PrivateRowPlaces.{IsPlaceIn, posting_columns}
use Rattle.zeb_register.specs.Sound.{KeepsRowsBeside}
use Rattle.zeb_register.specs.Sql.{HasRow}
use Rattle.zeb_register.specs.Store.{IsStore, KeepsLists, blocks_tree, dict_tree, postings_tree}
use Rattle.zeb_register.specs.Units.{reads_as}

-- ---- changes of a key's units, one after the other

-- a change of a record to places, all of which are stored in each format
pub record IsStorableChange (change : RecordChange) : Type 0 where
  pub sysno : (1 ≤ change.sysno) × (change.sysno ≤ 999999999)
  pub places : AreStorablePlaces change.new.now

-- The numbers of the records don't fall. Changes of one record stand in the order in which they are made.
abbrev pub NumbersRise : List RecordChange → Type 0
NumbersRise changes = IsNonDecreasingBy (λ (change : RecordChange). change.sysno) changes

-- so many records have a key before and after one record's places are changed
abbrev pub CountsOn : List Place → List Place → ℕ → ℕ → Type 0
CountsOn [] [] old new = new ≡ old
CountsOn [] (p ∷ ps) old new = new ≡ old + 1
CountsOn (p ∷ ps) [] old new = old ≡ new + 1
CountsOn (p ∷ ps) (q ∷ qs) old new = new ≡ old

-- the places of a key in each record, and how many records have the key
pub record KeyUnits : Type 0 where
  pub places : ℕ → List Place
  pub records : ℕ

-- where a record of the block has the key, some record is counted
abbrev pub IsBlockCounted : ℕ → KeyUnits → Type 0
IsBlockCounted block units = (sysno : ℕ) → sysno / 256 ≡ block → units.places sysno ≢ [] → 1 ≤ units.records

-- The count goes along, up to 999,999,999. Before and behind the change some record is counted where one of its block has the key.
pub record TurnsCount (change : RecordChange) (old new : KeyUnits) : Type 0 where
  pub counted : CountsOn change.old.now change.new.now old.records new.records
  pub few : new.records ≤ 999999999
  pub had : IsBlockCounted (change.sysno / 256) old
  pub has : IsBlockCounted (change.sysno / 256) new

-- plain rows keep no count, and leaves none beside their entries
abbrev pub turns_count : Format → RecordChange → (old new : KeyUnits) → Type 0
turns_count plain_rows change old new = Unit {0}
turns_count packed_blocks change old new = TurnsCount change old new
turns_count packed_leaves change old new = Unit {0}

-- The record has the places that the change says, and then the new ones. A count that is kept goes along.
pub record TurnsUnit (format : Format) (change : RecordChange) (old new : KeyUnits) : Type 0 where
  pub found : old.places change.sysno ≡ change.old.now
  pub put : new.places change.sysno ≡ change.new.now
  pub kept : (sysno : ℕ) → sysno ≢ change.sysno → new.places sysno ≡ old.places sysno
  pub count : turns_count format change old new

-- nothing of a key's units differs
abbrev pub AreSame : (one two : KeyUnits) → Type 0
AreSame one two = ((sysno : ℕ) → two.places sysno ≡ one.places sysno) × (two.records ≡ one.records)

-- the changes, one after the other, turn a key's old units into its new ones
abbrev pub TurnsUnits : Format → List RecordChange → (old new : KeyUnits) → Type 0
TurnsUnits format [] old new = AreSame old new
TurnsUnits format (change ∷ changes) old new = (mid : KeyUnits) × TurnsUnit format change old mid × TurnsUnits format changes mid new

-- ---- the postings of a key in a block

-- The record had the places that the change says, and then has the new ones. Each other record has those that it had.
pub record TurnsPlaces (change : RecordChange) (old new : List Posting) : Type 0 where
  pub found : places_in change.sysno old ≡ change.old.now
  pub put : places_in change.sysno new ≡ change.new.now
  pub kept : (sysno : ℕ) → sysno ≢ change.sysno → places_in sysno new ≡ places_in sysno old

-- ---- which units the changes read

-- one of the changes is of the record
abbrev pub IsChanged : List RecordChange → ℕ → Type 0
IsChanged changes sysno = (change : RecordChange) × Has changes change × (change.sysno ≡ sysno)

abbrev pub IsTouched : List RecordChange → ℕ → Type 0
IsTouched changes block = (change : RecordChange) × Has changes change × (change.sysno / 256 ≡ block)

-- the record's unit is read: in plain rows that of a changed record, in packed blocks and in leaves each of its block
abbrev pub are_read : Format → List RecordChange → ℕ → Type 0
are_read plain_rows changes sysno = IsChanged changes sysno
are_read packed_blocks changes sysno = IsTouched changes (sysno / 256)
are_read packed_leaves changes sysno = IsTouched changes (sysno / 256)

-- ---- rows that the changes read and write

-- the table has its rows still that are not these, and of these at most such a row
pub record KeepsBut (These Such : Row → Type 0) (tree : ℕ) (old new : Trees) : Type 0 where
  pub stays : (row : Row) → ¬ These row → HasRow old tree row → HasRow new tree row
  pub comes : (row : Row) → HasRow new tree row → (HasRow old tree row × ¬ These row) ⊎ Such row

-- ---- plain rows

abbrev pub IsPlaceAmong : ℤ → Key → List RecordChange → Row → Type 0
IsPlaceAmong db key changes row = (sysno : ℕ) × IsChanged changes sysno × IsPlaceIn db key sysno row

abbrev pub IsOwnPlace : ℤ → Key → List RecordChange → Row → Type 0
IsOwnPlace db key changes row = (sysno : ℕ) × (place : Place) × IsChanged changes sysno × (row ≡ posting_columns db key sysno place)

-- but for the places of changed records, each row is as it was
pub record PutsPlaces (db : ℤ) (key : Key) (changes : List RecordChange) (old new : Trees) : Type 0 where
  pub postings : KeepsBut (IsPlaceAmong db key changes) (IsOwnPlace db key changes) postings_tree old new
  pub blocks : new blocks_tree ≡ old blocks_tree
  pub dict : new dict_tree ≡ old dict_tree

-- ---- packed blocks

abbrev pub IsBlockIn : ℤ → Key → ℕ → Row → Type 0
IsBlockIn db key block = IsNumberedRow db (pos key.index) (pos (register_code key.register)) key.term (pos block)

-- it is told rightly whether some row of a table is P
abbrev pub IsTold : Bool → (Row → Type 0) → ℕ → Trees → Type 0
IsTold true P tree trees = (row : Row) × HasRow trees tree row × P row
IsTold false P tree trees = (row : Row) → HasRow trees tree row → ¬ P row

-- the row of the key says how many records have it, and there is none where none has
abbrev pub PutsCount : ℤ → Key → ℕ → ℕ → Trees → Trees → Type 0
PutsCount db key records tree old new =
    (row : Row) → HasRow new tree row ↔ ((HasRow old tree row × ¬ IsDictIn db key row) ⊎ ((records ≢ 0) × (row ≡ dict_row db key records)))

abbrev pub LacksBlock : ℤ → Key → ℕ → Trees → Type 0
LacksBlock db key block = IsTold false (IsBlockIn db key block) blocks_tree

-- no block in which a change lies has a row
abbrev pub LacksBlocks : ℤ → Key → List RecordChange → Trees → Type 0
LacksBlocks db key changes trees = (block : ℕ) → IsTouched changes block → LacksBlock db key block trees

abbrev pub IsBlockAmong : ℤ → Key → List RecordChange → Row → Type 0
IsBlockAmong db key changes row = (block : ℕ) × IsTouched changes block × IsBlockIn db key block row

abbrev pub IsOwnBlock : ℤ → Key → List RecordChange → Row → Type 0
IsOwnBlock db key changes row = (block : ℕ) × (bytes : List ℕ) × IsTouched changes block × (row ≡ block_row db key block bytes)

-- but for the blocks in which changes lie, and the key's count, each row is as it was
pub record PutsBlocks (db : ℤ) (key : Key) (changes : List RecordChange) (records : ℕ) (old new : Trees) : Type 0 where
  pub blocks : KeepsBut (IsBlockAmong db key changes) (IsOwnBlock db key changes) blocks_tree old new
  pub dict : PutsCount db key records dict_tree old new
  pub postings : new postings_tree ≡ old postings_tree

-- So many records have the key. Where none is counted, no block in which a change lies has a row.
pub record IsCounted (db : ℤ) (key : Key) (changes : List RecordChange) (trees : Trees) (records : ℕ) : Type 0 where
  pub is : CountsAs trees db key records
  pub lacks : records ≡ 0 → LacksBlocks db key changes trees

-- ---- leaves

-- the unit is of the key, and of a block in which a change lies
abbrev pub IsUnitTouched : Key → List RecordChange → Key → ℕ → Type 0
IsUnitTouched key changes k sysno = (k ≡ key) × IsTouched changes (sysno / 256)

-- ---- in each format

-- in packed blocks so many records have the key, and where none has, no block in which a change lies has a row; in
-- another format nothing is said
abbrev pub is_counted : Format → ℤ → Key → List RecordChange → Trees → ℕ → Type 0
is_counted plain_rows db key changes trees records = Unit {0}
is_counted packed_blocks db key changes trees records = IsCounted db key changes trees records
is_counted packed_leaves db key changes trees records = Unit {0}

-- which rows alone may change: in plain rows those of the key in changed records; in packed blocks those of the key's blocks in which changes lie,
-- and its row of `dict`, which says the new count; in leaves just the units of such blocks may change
abbrev pub puts_rows : Format → ℤ → Key → List RecordChange → ℕ → (old new : Trees) → Type 0
puts_rows plain_rows db key changes records old new = PutsPlaces db key changes old new
puts_rows packed_blocks db key changes records old new = PutsBlocks db key changes records old new
puts_rows packed_leaves db key changes records old new = KeepsUnits db (IsUnitTouched key changes) old new

-- ---- a call

-- The rows allow the changes: the units that are read read as some places, the key has a count where one is kept, and both can be turned as
-- the changes say.
pub record AllowsChanges (format : Format) (db : ℤ) (key : Key) (changes : List RecordChange) (trees : Trees) (were are : KeyUnits) : Type 0 where
  pub count : is_counted format db key changes trees were.records
  pub found : (sysno : ℕ) → are_read format changes sysno → reads_as format trees db key sysno (were.places sysno)
  pub turns : TurnsUnits format changes were are

-- The changes can be stored, and the rows before allow them. The units that are read read as the new places after, a count that is kept goes along,
-- and each other row, in leaves each other unit, is as it was.
pub record PutsUnits (format : Format) (db : ℤ) (key : Key) (changes : List RecordChange) (old new : Trees) : Type 0 where
  pub text : IsUtf8 key.term
  pub stored : AllByRecursion IsStorableChange changes
  pub were : KeyUnits
  pub are : KeyUnits
  pub allowed : AllowsChanges format db key changes old were are
  pub put : (sysno : ℕ) → are_read format changes sysno → reads_as format new db key sysno (are.places sysno)
  pub rows : puts_rows format db key changes are.records old new
  pub lists : KeepsLists old new

-- the units are changed so, and where there is no change nothing is
abbrev pub PutsAny : Format → ℤ → Key → List RecordChange → (old new : Trees) → Type 0
PutsAny format db key [] old new = (tree : ℕ) → new tree ≡ old tree
PutsAny format db key (change ∷ changes) old new = PutsUnits format db key (change ∷ changes) old new

-- Changes that can't be stored are refused as Store. Damaged is told only of others, where the rows don't allow them.
abbrev pub IsRefusedAs : Format → ℤ → Key → List RecordChange → Trees → RegFault → Type 0
IsRefusedAs format db key changes trees fault =
    (¬ AllByRecursion IsStorableChange changes → fault ≡ Store)
    × (fault ≡ Damaged → AllByRecursion IsStorableChange changes × ((were are : KeyUnits) → ¬ AllowsChanges format db key changes trees were are))

-- accepted inside a transaction on a store, the call puts the changes
abbrev pub ChangesKey : {A : Type 0} → Format → ℤ → Key → List RecordChange → (old new : State) → Result A RegFault → Type 0
ChangesKey format db key changes old new result = InStore old new (λ trees.
    Answers (IsRefusedAs format db key changes trees) (λ done. IsStore new × PutsAny format db key changes trees new.now.trees) result)

-- what isn't the key's is as it was: rows, or where one row is of many keys, units
abbrev pub keeps_others : Format → ℤ → Key → List RecordChange → (old new : Trees) → Type 0
keeps_others plain_rows db key changes = KeepsRowsBeside (key_row db key)
keeps_others packed_blocks db key changes = KeepsRowsBeside (key_row db key)
keeps_others packed_leaves db key changes = KeepsUnits db (IsUnitTouched key changes)
