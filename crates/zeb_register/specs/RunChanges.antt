-- What changes of the places of a run of keys do to the units of these keys, on any rows of a store and in each format. All is said of the
-- tables before the call and after it: which rows stood between, and how often one was read or written, is left open.
use Rattle.std.specs.Prelude.{IsUtf8, ◌+◌, ◌≡◌, ◌≢◌, ◌↔◌, ◌++◌, ℕ, ℤ, List, [], ◌∷◌, Result, length, map}
use Rattle.std.specs.List.{AllByRecursion}
use Rattle.std.specs.List.Sorted.{IsStrictlySortedBy}
use Rattle.sqlite.specs.Order.{Row}
use Rattle.sqlite.specs.State.{State}
use Rattle.sqlite.specs.Tree.{Trees}
use Rattle.sqlite_rules.specs.Lists.{Has}
use Rattle.zeb_keys.specs.Order.{key_order}
use Rattle.zeb_keys.specs.declared.keys.Key.{Key}
use Rattle.zeb_register.specs.declared.faults.RegFault.{RegFault}
use Rattle.zeb_register.specs.declared.faults.RegFault.TheVariants.{Damaged}
use Rattle.zeb_register.specs.declared.registers.KeyChanges.{KeyChanges}
use Rattle.zeb_register.specs.declared.registers.RecordChange.{RecordChange}
use Rattle.zeb_register.specs.Answers.{Answers}
use Rattle.zeb_register.specs.Clauses.{InStore}
use Rattle.zeb_register.specs.Content.{AreListChanges, Content}
use Rattle.zeb_register.specs.Formats.{Format, packed_blocks, packed_leaves, plain_rows}
use Rattle.zeb_register.specs.KeptUnits.{KeepsUnits}
use Rattle.zeb_register.specs.PackedBlocks.{dict_row}
use Rattle.zeb_register.specs.PackedUnits.{CountsAs}
use Rattle.zeb_register.specs.PlainRows.{key_row}
use Rattle.zeb_register.specs.PrivateKeyColumns.{IsDictIn}
use Rattle.zeb_register.specs.Sql.{HasRow}
use Rattle.zeb_register.specs.Store.{IsStore, KeepsLists, blocks_tree, dict_tree, postings_tree}
use Rattle.zeb_register.specs.UnitChanges.{AllowsChanges, IsBlockAmong, IsOwnBlock, IsOwnPlace, IsPlaceAmong, IsStorableChange, IsUnitTouched, KeepsBut, KeyUnits, NumbersRise, are_read}
use Rattle.zeb_register.specs.Units.{reads_as}

-- ---- runs of keys

abbrev pub run_key : KeyChanges → Key
run_key one = one.key.now

-- each key is below the next one, so that none stands twice
abbrev pub KeysRise : List KeyChanges → Type 0
KeysRise run = IsStrictlySortedBy key_order (map run_key run)

-- a run of keys, with changes of each by rising numbers of records
pub record IsRun (run : List KeyChanges) : Type 0 where
  pub keys : KeysRise run
  pub numbers : AllByRecursion (λ (one : KeyChanges). NumbersRise one.changes.now) run

-- a key is one of the run
abbrev pub IsOfRun : List KeyChanges → Key → Type 0
IsOfRun run key = (one : KeyChanges) × Has run one × (one.key.now ≡ key)

-- how many changes there are of all keys
abbrev pub changes_in : List KeyChanges → ℕ
changes_in [] = 0
changes_in (one ∷ run) = length one.changes.now + changes_in run

-- ---- one key of a run

-- the count of the key follows, where one is kept
abbrev pub counts_on : Format → Trees → ℤ → Key → ℕ → Type 0
counts_on plain_rows trees db key records = Unit {0}
counts_on packed_blocks trees db key records = CountsAs trees db key records
counts_on packed_leaves trees db key records = Unit {0}

-- The changes can be stored, and the rows before allow them. The units that are read read as the new places after, and the key counts as so
-- many records.
pub record TurnsKey (format : Format) (db : ℤ) (key : Key) (changes : List RecordChange) (old new : Trees) : Type 0 where
  pub text : IsUtf8 key.term
  pub stored : AllByRecursion IsStorableChange changes
  pub were : KeyUnits
  pub are : KeyUnits
  pub allowed : AllowsChanges format db key changes old were are
  pub put : (sysno : ℕ) → are_read format changes sysno → reads_as format new db key sysno (are.places sysno)
  pub counted : counts_on format new db key are.records

-- a key without a change isn't read
abbrev pub TurnsAny : Format → ℤ → Key → List RecordChange → (old new : Trees) → Type 0
TurnsAny format db key [] old new = Unit {0}
TurnsAny format db key (change ∷ changes) old new = TurnsKey format db key (change ∷ changes) old new

-- ---- rows of all keys of a run

-- the row is such a one of a key of the run
abbrev pub IsAmong : (Key → List RecordChange → Row → Type 0) → List KeyChanges → Row → Type 0
IsAmong Of run row = (one : KeyChanges) × Has run one × Of one.key.now one.changes.now row

abbrev pub IsCountAmong : ℤ → Key → List RecordChange → Row → Type 0
IsCountAmong db key changes row = (changes ≢ []) × IsDictIn db key row

abbrev pub IsOwnCount : ℤ → Key → List RecordChange → Row → Type 0
IsOwnCount db key changes row = (records : ℕ) × (changes ≢ []) × (row ≡ dict_row db key records)

-- but for the places of changed records, each row is as it was
pub record PutsRunPlaces (db : ℤ) (run : List KeyChanges) (old new : Trees) : Type 0 where
  pub postings : KeepsBut (IsAmong (IsPlaceAmong db) run) (IsAmong (IsOwnPlace db) run) postings_tree old new
  pub blocks : new blocks_tree ≡ old blocks_tree
  pub dict : new dict_tree ≡ old dict_tree

-- but for the blocks in which changes lie, and the counts of the keys, each row is as it was
pub record PutsRunBlocks (db : ℤ) (run : List KeyChanges) (old new : Trees) : Type 0 where
  pub blocks : KeepsBut (IsAmong (IsBlockAmong db) run) (IsAmong (IsOwnBlock db) run) blocks_tree old new
  pub dict : KeepsBut (IsAmong (IsCountAmong db) run) (IsAmong (IsOwnCount db) run) dict_tree old new
  pub postings : new postings_tree ≡ old postings_tree

-- the unit is one that changes of a key of the run touch
abbrev pub IsUnitAmong : List KeyChanges → Key → ℕ → Type 0
IsUnitAmong run key sysno = (one : KeyChanges) × Has run one × IsUnitTouched one.key.now one.changes.now key sysno

-- which rows alone may change: in plain rows those of the run's keys in changed records; in packed blocks those of blocks in which their changes
-- lie, and the counts of changed keys; in leaves just the units of such blocks may change
abbrev pub puts_run_rows : Format → ℤ → List KeyChanges → (old new : Trees) → Type 0
puts_run_rows plain_rows = PutsRunPlaces
puts_run_rows packed_blocks = PutsRunBlocks
puts_run_rows packed_leaves = λ db run. KeepsUnits db (IsUnitAmong run)

-- ---- a call

-- the units of each key of the run are changed by its changes, and each other row, in leaves each other unit, is as it was
pub record PutsKeys (format : Format) (db : ℤ) (run : List KeyChanges) (old new : Trees) : Type 0 where
  pub each : AllByRecursion (λ (one : KeyChanges). TurnsAny format db one.key.now one.changes.now old new) run
  pub rows : puts_run_rows format db run old new
  pub lists : KeepsLists old new

-- the changes of one key of the run can be stored, and its rows don't allow them
abbrev pub LacksLeave : Format → ℤ → List KeyChanges → Trees → Type 0
LacksLeave format db run trees =
    (one : KeyChanges) × Has run one × AllByRecursion IsStorableChange one.changes.now
    × ((were are : KeyUnits) → ¬ AllowsChanges format db one.key.now one.changes.now trees were are)

-- Damaged is told only where the changes of some key of the run can be stored, and the rows before don't allow them
abbrev pub IsRunRefusedAs : Format → ℤ → List KeyChanges → Trees → RegFault → Type 0
IsRunRefusedAs format db run trees fault = fault ≡ Damaged → LacksLeave format db run trees

-- accepted inside a transaction on a store, the call puts the changes of all keys
abbrev pub ChangesKeys : {A : Type 0} → Format → ℤ → List KeyChanges → (old new : State) → Result A RegFault → Type 0
ChangesKeys format db run old new result = InStore old new (λ trees.
    Answers (IsRunRefusedAs format db run trees) (λ done. IsStore new × PutsKeys format db run trees new.now.trees) result)

-- ---- what the changes make of contents, and of other rows

-- the list of each key of the run in one database is changed by the key's changes, and no other list is
pub record AreChangedBy (db : ℤ) (run : List KeyChanges) (old new : Content) : Type 0 where
  pub lists : AllByRecursion (λ (one : KeyChanges). AreListChanges one.changes.now (old db one.key.now) (new db one.key.now)) run
  pub others : (d : ℤ) (k : Key) → ¬ ((d ≡ db) × IsOfRun run k) → new d k ≡ old d k

-- the table has just the rows that it had, but those of the keys
abbrev pub KeepsBesideKeys : ℤ → List KeyChanges → ℕ → (old new : Trees) → Type 0
KeepsBesideKeys db run tree old new =
    (row : Row) → ((one : KeyChanges) (rest : Row) → Has run one → row ≢ key_row db one.key.now ++ rest) → HasRow new tree row ↔ HasRow old tree row

-- the same of each table of the registers
pub record KeepsBesideRun (db : ℤ) (run : List KeyChanges) (old new : Trees) : Type 0 where
  pub postings : KeepsBesideKeys db run postings_tree old new
  pub blocks : KeepsBesideKeys db run blocks_tree old new
  pub dict : KeepsBesideKeys db run dict_tree old new

-- what is of none of the keys is as it was: rows, or where one row is of many keys, units
abbrev pub keeps_run_others : Format → ℤ → List KeyChanges → (old new : Trees) → Type 0
keeps_run_others plain_rows = KeepsBesideRun
keeps_run_others packed_blocks = KeepsBesideRun
keeps_run_others packed_leaves = λ db run. KeepsUnits db (IsUnitAmong run)
