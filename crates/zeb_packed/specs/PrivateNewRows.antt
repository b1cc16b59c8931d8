-- What only the contracts of private functions speak of; no public clause reaches it.
-- Rows of keys that have none yet, which are held and put together with those of other keys.
use Rattle.std.specs.Prelude.{◌≡◌, ◌≢◌, ◌↔◌, ◌⊎◌, ◌++◌, ◌≤◌, ℕ, ℤ, Bool, List, [], ◌∷◌, length, map, take, IsTrue, Result, Err, IfOk}
use Rattle.std.specs.Borrow.{MutBor}
use Rattle.std.specs.List.{AllByRecursion}
use Rattle.sqlite.specs.Held.{Held, state}
use Rattle.sqlite.specs.Order.{Row}
use Rattle.sqlite.specs.State.{State, Survives}
use Rattle.sqlite.specs.Tree.{Trees}
use Rattle.sqlite_rules.specs.Lists.{Has}
use Rattle.sqlite_trees.specs.declared.store.Store.{Ghosts}
use Rattle.zeb_blocks.specs.Blocks.{BlockSpells}
use Rattle.zeb_blocks.specs.declared.postings.Posting.{Posting}
use Rattle.zeb_keys.specs.Registers.{register_code}
use Rattle.zeb_keys.specs.declared.keys.Key.{Key}
use Rattle.zeb_packed.specs.PrivatePackedChanges.{IsClearFrom}
use Rattle.zeb_packed.specs.PrivateUnitCalls.{TurnsBlocks}
use Rattle.zeb_packed.specs.declared.new_rows.NewBlock.{NewBlock}
use Rattle.zeb_packed.specs.declared.new_rows.NewCount.{NewCount}
use Rattle.zeb_packed.specs.declared.new_rows.NewRows.{NewRows}
use Rattle.zeb_packed.specs.declared.packed_changes.Known.{Known}
use Rattle.zeb_packed.specs.declared.statements.many.TheConstants.{MANY}
use Rattle.zeb_register.specs.Answers.{Answers, IfDamaged}
use Rattle.zeb_register.specs.Calls.{GoesOn, Inside}
use Rattle.zeb_register.specs.Clauses.{InStore}
use Rattle.zeb_register.specs.Formats.{packed_blocks}
use Rattle.zeb_register.specs.PackedBlocks.{block_row, dict_row}
use Rattle.zeb_register.specs.PackedUnits.{CountsAs}
use Rattle.zeb_register.specs.PrivateUnits.{units_of}
use Rattle.zeb_register.specs.RunChanges.{IsRunRefusedAs, LacksLeave, PutsKeys}
use Rattle.zeb_register.specs.Sql.{HasRow}
use Rattle.zeb_register.specs.Store.{Changes, IsStore, KeepsLists, blocks_tree, dict_tree, postings_tree}
use Rattle.zeb_register.specs.UnitChanges.{IsRefusedAs, IsStorableChange, IsTouched, KeyUnits, LacksBlock, NumbersRise, PutsUnits, TurnsUnits}
use Rattle.zeb_register.specs.declared.faults.RegFault.{RegFault}
use Rattle.zeb_register.specs.declared.faults.RegFault.TheVariants.{Damaged}
use Rattle.zeb_register.specs.declared.registers.KeyChanges.{KeyChanges}
use Rattle.zeb_register.specs.declared.registers.RecordChange.{RecordChange}

-- ---- rows

abbrev pub new_block_row : ℤ → NewBlock → Row
new_block_row db one = block_row db one.key.now one.block one.bytes.items

abbrev pub new_count_row : ℤ → NewCount → Row
new_count_row db one = dict_row db one.key.now one.records

-- the values of rows, one row behind the other
abbrev pub joined : List Row → Row
joined [] = []
joined (row ∷ rows) = row ++ joined rows

-- the table has these rows beside those that it had
abbrev pub GainsAll : List Row → ℕ → Trees → Trees → Type 0
GainsAll rows tree old new = (row : Row) → HasRow new tree row ↔ (HasRow old tree row ⊎ Has rows row)

-- the tables of the packed registers have the held rows beside those that they had, and each other table is as it was
pub record GainsRows (db : ℤ) (held : NewRows) (old new : Trees) : Type 0 where
  pub blocks : GainsAll (map (new_block_row db) held.blocks.items) blocks_tree old new
  pub dict : GainsAll (map (new_count_row db) held.counts.items) dict_tree old new
  pub postings : new postings_tree ≡ old postings_tree
  pub lists : KeepsLists old new

-- ---- whether the blocks have rows

-- no two are of one key and one block
abbrev pub AreApart : List NewBlock → Type 0
AreApart [] = Unit {0}
AreApart (one ∷ blocks) = ((other : NewBlock) → Has blocks other → ¬ ((other.key.now ≡ one.key.now) × (other.block ≡ one.block))) × AreApart blocks

abbrev pub AreLacking : ℤ → List NewBlock → Trees → Type 0
AreLacking db blocks trees = (one : NewBlock) → Has blocks one → LacksBlock db one.key.now one.block trees

abbrev pub SomeStands : ℤ → List NewBlock → Trees → Type 0
SomeStands db blocks trees = (one : NewBlock) × Has blocks one × ¬ LacksBlock db one.key.now one.block trees

-- ---- whether keys have rows of `dict`

-- where it is told that the key is new, it has none
abbrev pub IsToldNew : Bool → ℤ → Key → Trees → Type 0
IsToldNew is_new db key trees = IsTrue is_new → CountsAs trees db key 0

-- the same of each key of a run
abbrev pub AreToldNew : Bool → ℤ → List KeyChanges → Trees → Type 0
AreToldNew are_new db run trees = (one : KeyChanges) → Has run one → IsToldNew are_new db one.key.now trees

-- the key is of the first one's register
abbrev pub IsOfRegister : Key → KeyChanges → Type 0
IsOfRegister first one = (one.key.now.index ≡ first.index) × (register_code one.key.now.register ≡ register_code first.register)

-- ---- the rows of one key

-- the record has some place of the key behind the change
abbrev pub LeavesPlaces : RecordChange → Type 0
LeavesPlaces change = change.new.now ≢ []

-- changes by rising numbers that can be stored, each of which leaves its record some place, of a key that no record has
pub record AreOfNewKey (changes : List RecordChange) (known : Known) : Type 0 where
  pub stored : AllByRecursion IsStorableChange changes
  pub rising : NumbersRise changes
  pub leaves : AllByRecursion LeavesPlaces changes
  pub none : known.records ≡ 0
  pub clear : IsClearFrom known

-- changes of records of a block make a list of none, which the bytes spell
pub record SpellsNew (block : ℕ) (run : List RecordChange) (records after : ℕ) (bytes : List ℕ) : Type 0 where
  pub list : List Posting
  pub turns : TurnsUnits packed_blocks run (units_of [] records) (units_of list after)
  pub spells : BlockSpells block list bytes

-- Changes of records of a block make its row for a key that has none there, and it is told how many records have the key then. Damaged is told
-- only where a list of none can't be changed so.
pub record BeginsRow (key : Key) (block : ℕ) (run : List RecordChange) (records : ℕ) (result : Result (NewBlock × ℕ) RegFault) : Type 0 where
  pub own : IfOk result (λ made. (made.0.key.now ≡ key) × (made.0.block ≡ block))
  pub spells : IfOk result (λ made. SpellsNew block run records made.1 made.0.bytes.items)
  pub few : IfOk result (λ made. made.1 ≤ 999999999)
  pub honest : result ≡ Err Damaged → (are : KeyUnits) → ¬ TurnsUnits packed_blocks run (units_of [] records) are

-- The changes of a key make these rows of blocks where none of them has one: then the blocks are changed so, in any tables.
pub record BeginsBlocks (key : Key) (changes : List RecordChange) (known : Known) (blocks : List NewBlock) (after : ℕ) : Type 0 where
  pub apart : AreApart blocks
  pub own : (one : NewBlock) → Has blocks one → (one.key.now ≡ key) × IsTouched changes one.block
  pub turns : (db : ℤ) (old new : Trees) → AreLacking db blocks old → GainsAll (map (new_block_row db) blocks) blocks_tree old new
      → TurnsBlocks db key changes (λ block. known.clear_from ≤ block) known.records after old new

-- The changes of a key make these rows where it has none: then its units are changed so, in any tables.
pub record BeginsKey (key : Key) (changes : List RecordChange) (made : NewRows) : Type 0 where
  pub stored : AllByRecursion IsStorableChange changes
  pub apart : AreApart made.blocks.items
  pub own : (one : NewBlock) → Has made.blocks.items one → (one.key.now ≡ key) × IsTouched changes one.block
  pub counts : (one : NewCount) → Has made.counts.items one → one.key.now ≡ key
  pub puts : (db : ℤ) (old new : Trees) → CountsAs old db key 0 → AreLacking db made.blocks.items old → GainsRows db made old new → PutsUnits packed_blocks db key changes old new

-- ---- rows that are held

-- these rows are held behind those before
pub record AreBehind (before made after : NewRows) : Type 0 where
  pub blocks : after.blocks.items ≡ before.blocks.items ++ made.blocks.items
  pub counts : after.counts.items ≡ before.counts.items ++ made.counts.items

-- The key is changed at once, or its rows are held behind the others and no table is changed.
abbrev pub TurnsKey : ℤ → Key → List RecordChange → (old new : Trees) → (before after : NewRows) → Type 0
TurnsKey db key [] old new before after = (new ≡ old) × (after ≡ before)
TurnsKey db key (change ∷ changes) old new before after =
    (PutsUnits packed_blocks db key (change ∷ changes) old new × (after ≡ before))
    ⊎ ((made : NewRows) × BeginsKey key (change ∷ changes) made × CountsAs old db key 0 × AreBehind before made after × (new ≡ old))

-- Where the held rows stand beside those that the tables have, the keys are changed so. A block of theirs that has a row allows no change of
-- its key.
pub record HoldsRun (db : ℤ) (run : List KeyChanges) (old mid : Trees) (held : NewRows) : Type 0 where
  pub apart : AreApart held.blocks.items
  pub puts : (new : Trees) → GainsRows db held mid new → AreLacking db held.blocks.items mid → PutsKeys packed_blocks db run old new
  pub stands : SomeStands db held.blocks.items mid → LacksLeave packed_blocks db run old

-- ---- calls

-- on an open connection the call is one inside a transaction, which goes on; the transaction borrows the same connection, and a crash leaves what it
-- left before
pub record GoesOnOpenOf {S A E : Type 0} (store : Ghosts S) (old new : MutBor (Held S)) (result : Result A E) : Type 0 where
  pub same : new.ghost_name ≡ old.ghost_name
  pub does : IsTrue (state store old.now).is_open → Inside (state store old.now) (state store new.now) result (λ _. GoesOn)
  pub crash : Survives (state store old.now) (state store new.now) (λ _. ⊥)

-- the values are those of so many rows as one statement puts, a row for each of the list
abbrev pub AreValuesOf : {X : Type 0} → (X → Row) → List X → Row → Type 0
AreValuesOf row_of news values = (length news ≡ MANY) × (values ≡ joined (map row_of news))

-- The rows stand beside those that there were, and no block of theirs had one. Damaged is told only where one has.
abbrev pub PutsBlocks : ℤ → List NewBlock → State → State → Result (Unit {0}) RegFault → Type 0
PutsBlocks db blocks old new result = InStore old new (λ trees.
    Answers (IfDamaged (SomeStands db blocks trees)) (λ done. Changes blocks_tree (GainsAll (map (new_block_row db) blocks)) old new × AreLacking db blocks trees) result)

-- the same of the first of them
abbrev pub PutsFront : ℤ → List NewBlock → State → State → Result ℕ RegFault → Type 0
PutsFront db blocks old new result = InStore old new (λ trees.
    Answers (IfDamaged (SomeStands db blocks trees))
    (λ count. Changes blocks_tree (GainsAll (map (new_block_row db) (take count blocks))) old new × AreLacking db (take count blocks) trees) result)

-- the same of all rows that are held
abbrev pub PutsHeld : ℤ → NewRows → State → State → Result (Unit {0}) RegFault → Type 0
PutsHeld db held old new result = IsTrue old.is_open → AreApart held.blocks.items → InStore old new (λ trees.
    Answers (IfDamaged (SomeStands db held.blocks.items trees)) (λ done. IsStore new × GainsRows db held trees new.now.trees × AreLacking db held.blocks.items trees) result)

-- a key of a run is changed, where so many records have it
abbrev pub TurnsKnown : ℤ → Key → List RecordChange → (records : ℕ) → (old new : State) → (before after : NewRows) → Result (Unit {0}) RegFault → Type 0
TurnsKnown db key changes records old new before after result = IsTrue old.is_open → InStore old new (λ trees. CountsAs trees db key records
    → Answers (IsRefusedAs packed_blocks db key changes trees) (λ done. IsStore new × TurnsKey db key changes trees new.now.trees before after) result)

-- the same, whatever is known of it but that it may be told to be new
abbrev pub TurnsOne : ℤ → Key → List RecordChange → (is_new : Bool) → (old new : State) → (before after : NewRows) → Result (Unit {0}) RegFault → Type 0
TurnsOne db key changes is_new old new before after result = IsTrue old.is_open → InStore old new (λ trees. IsToldNew is_new db key trees
    → Answers (IsRefusedAs packed_blocks db key changes trees) (λ done. IsStore new × TurnsKey db key changes trees new.now.trees before after) result)

-- the keys of a run are changed, or their rows held
abbrev pub HoldsKeys : ℤ → List KeyChanges → (are_new : Bool) → State → State → Result NewRows RegFault → Type 0
HoldsKeys db run are_new old new result = IsTrue old.is_open → InStore old new (λ trees. AreToldNew are_new db run trees
    → Answers (IsRunRefusedAs packed_blocks db run trees) (λ held. IsStore new × HoldsRun db run trees new.now.trees held) result)
