-- What only the contracts of private functions speak of; no public clause reaches it.
-- Changes of a key, and calls that put those of one block into its row.
use Rattle.std.specs.Prelude.{◌≡◌, ◌/◌, ◌<◌, ◌≤◌, ◌^◌, ℕ, ℤ, List, [], ◌∷◌, IsTrue, IsUtf8, Result, Err, IfOk}
use Rattle.std.specs.Borrow.{MutBor}
use Rattle.std.specs.List.{AllByRecursion}
use Rattle.sqlite.specs.Held.{Held, state}
use Rattle.sqlite.specs.State.{State}
use Rattle.sqlite_trees.specs.declared.store.Store.{Ghosts}
use Rattle.zeb_keys.specs.declared.keys.Key.{Key}
use Rattle.zeb_register.specs.declared.faults.RegFault.{RegFault}
use Rattle.zeb_register.specs.declared.faults.RegFault.TheVariants.{Damaged}
use Rattle.zeb_register.specs.declared.registers.RecordChange.{RecordChange}
use Rattle.zeb_register.specs.Calls.{Alters, Inside}
use Rattle.zeb_register.specs.Clauses.{InStore}
use Rattle.zeb_register.specs.Store.{blocks_tree}
use Rattle.sqlite.specs.Tree.{Trees}
use Rattle.zeb_blocks.specs.Blocks.{LiesIn}
use Rattle.zeb_blocks.specs.declared.postings.Posting.{Posting}
use Rattle.zeb_register.specs.declared.registers.Place.{Place}
use Rattle.zeb_register.specs.Store.{IsStore}
use Rattle.zeb_register.specs.Answers.{Answers, IfDamaged}
use Rattle.zeb_packed.specs.PrivatePackedChanges.{IsClearFrom, PutsBlock}
use Rattle.zeb_packed.specs.declared.packed_changes.Known.{Known}
use Rattle.zeb_packed.specs.declared.packed_parts.KeyBlock.{KeyBlock}
use Rattle.zeb_register.specs.PackedUnits.{BlockReads, CountsAs, ReadsAs}
use Rattle.zeb_register.specs.Formats.{packed_blocks}
use Rattle.zeb_register.specs.PrivatePackedRows.{IsInBlock}
use Rattle.zeb_register.specs.PrivateUnits.{units_of}
use Rattle.zeb_register.specs.UnitChanges.{IsBlockAmong, IsOwnBlock, IsRefusedAs, IsStorableChange, IsTouched, KeepsBut, KeyUnits, LacksBlock, NumbersRise, PutsUnits, TurnsUnits}

-- ---- what calls are given

-- the changes can be put into the rows of a key of which so much is known
pub record CanBePut (key : Key) (changes : List RecordChange) (known : Known) : Type 0 where
  pub text : IsUtf8 key.term
  pub stored : AllByRecursion IsStorableChange changes
  pub rising : NumbersRise changes
  pub few : known.records ≤ 999999999
  pub clear : IsClearFrom known

-- changes of records of the block that can be stored, where at most 999,999,999 records have the key
pub record AreOfBlock (block records : ℕ) (changes : List RecordChange) : Type 0 where
  pub stored : AllByRecursion IsStorableChange changes
  pub inside : AllByRecursion (IsInBlock block) changes
  pub few : records ≤ 999999999

-- the same of a block whose number a row can have
pub record IsRunOf (block records : ℕ) (run : List RecordChange) : Type 0 where
  pub changes : AreOfBlock block records run
  pub small : block < 2 ^ 63

-- ---- units of one block

-- What is held of a key in a block is turned so, and is of the same block then. Damaged is told only where it can't be turned so.
pub record TurnsHeld (Turns : KeyUnits → KeyUnits → Type 0) (held : KeyBlock) (result : Result KeyBlock RegFault) : Type 0 where
  pub turned : Answers (IfDamaged ((are : KeyUnits) → ¬ Turns (units_of held.list.items held.records) are)) (λ after. Turns (units_of held.list.items held.records) (units_of after.list.items after.records)) result
  pub lies : IfOk result (λ after. LiesIn held.block after.list.items)
  pub block : IfOk result (λ after. after.block ≡ held.block)

-- the row of a block spells the postings that it had with the changes of its records
pub record TurnsBlock (db : ℤ) (key : Key) (block : ℕ) (run : List RecordChange) (records after : ℕ) (old new : Trees) : Type 0 where
  pub part : List Posting
  pub next : List Posting
  pub reads : BlockReads old db key block part
  pub turns : TurnsUnits packed_blocks run (units_of part records) (units_of next after)
  pub lies : LiesIn block next
  pub row : PutsBlock db key block next blocks_tree old new

-- it can be changed so
abbrev pub AllowsBlock : ℤ → Key → ℕ → List RecordChange → ℕ → Trees → Type 0
AllowsBlock db key block run records trees =
    (part : List Posting) × (are : KeyUnits) × BlockReads trees db key block part × TurnsUnits packed_blocks run (units_of part records) are

-- ---- all blocks

-- There is no row of a block in which a change lies, where it is one of these blocks and above those of all changes before it.
abbrev pub LacksNewBlocks : (ℕ → Type 0) → ℤ → Key → List RecordChange → Trees → Type 0
LacksNewBlocks These db key [] trees = Unit {0}
LacksNewBlocks These db key (change ∷ changes) trees =
    (These (change.sysno / 256) → LacksBlock db key (change.sysno / 256) trees)
    × LacksNewBlocks (λ block. These block × (change.sysno / 256 < block)) db key changes trees

-- the rows of `blocks`, where so many records have the key before and after, and the key is known to have no row of these blocks
pub record TurnsBlocks (db : ℤ) (key : Key) (changes : List RecordChange) (These : ℕ → Type 0) (records after : ℕ) (old new : Trees) : Type 0 where
  pub were : ℕ → List Place
  pub are : ℕ → List Place
  pub found : (sysno : ℕ) → IsTouched changes (sysno / 256) → ReadsAs old db key sysno (were sysno)
  pub put : (sysno : ℕ) → IsTouched changes (sysno / 256) → ReadsAs new db key sysno (are sysno)
  pub turns : TurnsUnits packed_blocks changes (record { places = were; records = records }) (record { places = are; records = after })
  pub lacks : LacksNewBlocks These db key changes old
  pub rows : KeepsBut (IsBlockAmong db key changes) (IsOwnBlock db key changes) blocks_tree old new

-- these rows allow the changes, where so many records have the key
pub record AllowsBlocks (db : ℤ) (key : Key) (changes : List RecordChange) (These : ℕ → Type 0) (records : ℕ) (trees : Trees) : Type 0 where
  pub were : ℕ → List Place
  pub are : KeyUnits
  pub found : (sysno : ℕ) → IsTouched changes (sysno / 256) → ReadsAs trees db key sysno (were sysno)
  pub turns : TurnsUnits packed_blocks changes (record { places = were; records = records }) are
  pub lacks : LacksNewBlocks These db key changes trees

-- a call inside a transaction puts the changes, with the row of `dict`
abbrev pub ChangesUnits : {A : Type 0} → ℤ → Key → List RecordChange → (old new : State) → Result A RegFault → Type 0
ChangesUnits db key changes old new result = InStore old new (λ trees.
    Answers (IsRefusedAs packed_blocks db key changes trees) (λ done. IsStore new × PutsUnits packed_blocks db key changes trees new.now.trees) result)

-- the same on an open connection, where so many records have the key before
abbrev pub ChangesKnown : {A : Type 0} → ℤ → Key → List RecordChange → (records : ℕ) → (old new : State) → Result A RegFault → Type 0
ChangesKnown db key changes records old new result = IsTrue old.is_open → InStore old new (λ trees. CountsAs trees db key records
    → Answers (IsRefusedAs packed_blocks db key changes trees) (λ done. IsStore new × PutsUnits packed_blocks db key changes trees new.now.trees) result)

-- ---- calls on one row

module _ (db : ℤ) (key : Key) (block : ℕ) (run : List RecordChange) (records : ℕ) (Clear : Type 0) (old new : State) where
  -- The row is turned, and so many records have the key then. Where the key is known to have no row of the block, it has none.
  abbrev pub PutsRun : Result ℕ RegFault → Type 0
  PutsRun result = Inside old new result (λ after. Alters blocks_tree (λ tree a b. TurnsBlock db key block run records after a b × (Clear → LacksBlock db key block a)))

  -- Damaged is told only where the row can't be turned so, or the key has a row where it is known to have none
  abbrev pub IsHonestRun : Result ℕ RegFault → Type 0
  IsHonestRun result = InStore old new (λ trees. result ≡ Err Damaged → (Clear → LacksBlock db key block trees) → ¬ AllowsBlock db key block run records trees)

-- A call inside a transaction puts a run into the row of its block, and at most 999,999,999 records have the key then; the transaction borrows
-- the same connection.
pub record PutsRunOf {S : Type 0} (store : Ghosts S) (old new : MutBor (Held S)) (db : ℤ) (key : Key) (block : ℕ) (run : List RecordChange) (records : ℕ) (Clear : Type 0) (result : Result ℕ RegFault) : Type 0 where
  pub same : new.ghost_name ≡ old.ghost_name
  pub does : PutsRun db key block run records Clear (state store old.now) (state store new.now) result
  pub honest : IsHonestRun db key block run records Clear (state store old.now) (state store new.now) result
  pub few : IfOk result (λ after. after ≤ 999999999)
