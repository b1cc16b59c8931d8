-- What only the contracts of private functions speak of; no public clause reaches it: a run of keys in pieces, each of them the changes of a key in
-- records of one block, and what they make of the entries of a leaf.
use Rattle.std.specs.Prelude.{◌≡◌, ◌≢◌, ◌/◌, ◌^◌, ◌<◌, ◌++◌, ℕ, List, [], ◌∷◌, length, Option, Some, None}
use Rattle.std.specs.declared.cmp.Ordering.{Ordering}
use Rattle.std.specs.List.{AllByRecursion}
use Rattle.std.specs.List.Sorted.{IsStrictlySortedBy}
use Rattle.std.specs.Ordering.{nat_cmp, ordering_then}
use Rattle.sqlite_rules.specs.Lists.{Has}
use Rattle.zeb_blocks.specs.Blocks.{BlockSpells}
use Rattle.zeb_blocks.specs.declared.postings.Posting.{Posting}
use Rattle.zeb_keys.specs.Order.{key_order}
use Rattle.zeb_leaf.specs.Merging.{puts}
use Rattle.zeb_leaf.specs.Order.{IsEntry}
use Rattle.zeb_leaf.specs.declared.entries.Entry.{Entry}
use Rattle.zeb_leaf.specs.declared.merging.BlockChange.{BlockChange}
use Rattle.zeb_leaf.specs.declared.merging.NewBlock.{NewBlock}
use Rattle.zeb_register.specs.Formats.{packed_leaves}
use Rattle.zeb_register.specs.Occurring.{IsCount}
use Rattle.zeb_register.specs.PrivatePackedRows.{IsInBlock}
use Rattle.zeb_register.specs.PrivateUnits.{units_of}
use Rattle.zeb_register.specs.Readings.{HasRecordOf, SayPart}
use Rattle.zeb_register.specs.UnitChanges.{IsStorableChange, KeyUnits, NumbersRise, TurnsUnits}
use Rattle.zeb_register.specs.declared.registers.KeyChanges.{KeyChanges}
use Rattle.zeb_register.specs.declared.registers.RecordChange.{RecordChange}

-- ---- pieces of a run

-- the block of the first change
abbrev pub block_of : List RecordChange → ℕ
block_of [] = 0
block_of (change ∷ changes) = change.sysno / 256

-- the changes of a key in records of one block: there is one at least, they can be stored, and their numbers don't fall
pub record IsPiece (piece : KeyChanges) : Type 0 where
  pub some : piece.changes.now ≢ []
  pub inside : AllByRecursion (IsInBlock (block_of piece.changes.now)) piece.changes.now
  pub stored : AllByRecursion IsStorableChange piece.changes.now
  pub rising : NumbersRise piece.changes.now

-- by key, then by block
abbrev pub piece_cmp : KeyChanges → KeyChanges → Ordering
piece_cmp p q = ordering_then (key_order p.key.now q.key.now) (nat_cmp (block_of p.changes.now) (block_of q.changes.now))

pub record ArePieces (pieces : List KeyChanges) : Type 0 where
  pub each : AllByRecursion IsPiece pieces
  pub rising : IsStrictlySortedBy piece_cmp pieces

-- the changes of all of them, one behind the other
abbrev pub all_changes : List KeyChanges → List RecordChange
all_changes [] = []
all_changes (piece ∷ pieces) = piece.changes.now ++ all_changes pieces

-- they are the changes of one key, in its pieces
pub record ArePiecesOf (one : KeyChanges) (pieces : List KeyChanges) : Type 0 where
  pub key : (piece : KeyChanges) → Has pieces piece → piece.key.now ≡ one.key.now
  pub changes : all_changes pieces ≡ one.changes.now

-- they are the changes of a run, key by key
abbrev pub PartsRun : (run pieces : List KeyChanges) → Type 0
PartsRun [] pieces = pieces ≡ []
PartsRun (one ∷ run) pieces = (own : List KeyChanges) × (rest : List KeyChanges) × (pieces ≡ own ++ rest) × ArePiecesOf one own × PartsRun run rest

-- all changes of the run can be stored
abbrev pub AreStorable : List KeyChanges → Type 0
AreStorable run = AllByRecursion (λ (one : KeyChanges). AllByRecursion IsStorableChange one.changes.now) run

-- the first of them, if there is one, is of a record of another block
abbrev pub BeginsElsewhere : ℕ → List RecordChange → Type 0
BeginsElsewhere block [] = Unit {0}
BeginsElsewhere block (change ∷ changes) = ¬ IsInBlock block change

-- the changes at the front are of records of one block, there is one at least, and no others of the block stand right behind them
pub record IsFront (changes front rest : List RecordChange) : Type 0 where
  pub whole : changes ≡ front ++ rest
  pub some : front ≢ []
  pub inside : AllByRecursion (IsInBlock (block_of front)) front
  pub next : BeginsElsewhere (block_of front) rest

-- the key's changes stand in pieces behind those that there were
abbrev pub PutsPieces : KeyChanges → (old new : List KeyChanges) → Type 0
PutsPieces one old new = (own : List KeyChanges) × (new ≡ old ++ own) × ArePiecesOf one own × ArePieces own

-- ---- a piece and the entries of a leaf

-- What the block has spells these postings, and counts their records. Without postings it has nothing.
abbrev pub HasPostings : ℕ → List Posting → Option NewBlock → Type 0
HasPostings block list None = list ≡ []
HasPostings block list (Some new) = BlockSpells block list new.bytes × IsCount (HasRecordOf list) new.records × (length new.bytes < 2 ^ 64)

-- What the entries say of the block is turned as the piece says. The change of the block puts an entry that says what it is then, or none.
pub record TurnsEntries (entries : List Entry) (piece : KeyChanges) (change : BlockChange) : Type 0 where
  pub part : List Posting
  pub next : List Posting
  pub said : SayPart entries piece.key.now.term (block_of piece.changes.now) part
  pub turns : TurnsUnits packed_leaves piece.changes.now (units_of part 0) (units_of next 0)
  pub term : change.term ≡ piece.key.now.term
  pub block : change.block ≡ block_of piece.changes.now
  pub puts_next : SayPart (puts change) change.term change.block next
  pub each : AllByRecursion IsEntry (puts change)

-- the entries say nothing of the block that can be turned so
abbrev pub LacksTurn : List Entry → KeyChanges → Type 0
LacksTurn entries piece =
    (part : List Posting) → SayPart entries piece.key.now.term (block_of piece.changes.now) part
    → (are : KeyUnits) → ¬ TurnsUnits packed_leaves piece.changes.now (units_of part 0) are

-- each piece has its change
abbrev pub TurnAllEntries : List Entry → List KeyChanges → List BlockChange → Type 0
TurnAllEntries entries [] changes = changes ≡ []
TurnAllEntries entries (piece ∷ pieces) changes =
    (change : BlockChange) × (rest : List BlockChange) × (changes ≡ change ∷ rest) × TurnsEntries entries piece change × TurnAllEntries entries pieces rest

abbrev pub LackTurn : List Entry → List KeyChanges → Type 0
LackTurn entries pieces = (piece : KeyChanges) × Has pieces piece × LacksTurn entries piece
