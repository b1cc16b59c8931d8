-- What only the contracts of private functions speak of; no public clause reaches it: what pieces of one register make of the entries of a leaf.
use Rattle.std.specs.Prelude.{◌⊎◌, ℕ, List, Result}
use Rattle.sqlite.specs.Order.{Row}
use Rattle.sqlite.specs.State.{State}
use Rattle.zeb_keys.specs.declared.keys.Key.{Key}
use Rattle.zeb_leaf.specs.Merging.{AreMerged}
use Rattle.zeb_leaf.specs.declared.entries.Entry.{Entry}
use Rattle.zeb_leaf.specs.declared.merging.BlockChange.{BlockChange}
use Rattle.zeb_leaf_rows.specs.LeafRows.{IsLeafIn}
use Rattle.zeb_leaves.specs.PrivatePieces.{LackTurn, TurnAllEntries}
use Rattle.zeb_leaves.specs.PrivatePutPieces.{ArePiecesIn}
use Rattle.zeb_leaves.specs.PrivateSpans.{ShowsNone}
use Rattle.zeb_leaves.specs.PrivateTermReads.{End, ShowsOwn}
use Rattle.zeb_leaves.specs.PrivateTurning.{CoversFirst, GoesFurther, PutsFront}
use Rattle.zeb_register.specs.declared.faults.RegFault.{RegFault}
use Rattle.zeb_register.specs.declared.registers.KeyChanges.{KeyChanges}
use Rattle.zeb_register.specs.declared.registers.RegisterOf.{RegisterOf}

-- the pieces are of one register
abbrev pub AreOfOne : List KeyChanges → Type 0
AreOfOne pieces = (key : Key) × ArePiecesIn key (λ term block. Unit {0}) pieces

-- the entries become these: each piece makes a change of its block, and the changes are merged with them
pub record TurnsInto (entries : List Entry) (pieces : List KeyChanges) (news : List Entry) : Type 0 where
  pub changes : List BlockChange
  pub turned : TurnAllEntries entries pieces changes
  pub merged : AreMerged changes entries news

-- those that the leaf shows, from its own key up to the end, become these
abbrev pub TurnsLeaf : List ℕ → ℕ → End → Row → List KeyChanges → List Entry → Type 0
TurnsLeaf term block end leaf pieces news = (own : List Entry) × ShowsOwn term block end leaf own × TurnsInto own pieces news

-- the leaf shows none, or a piece lacks a turn by them
abbrev pub LeafLacksTurn : List ℕ → ℕ → End → Row → List KeyChanges → Type 0
LeafLacksTurn term block end leaf pieces = ShowsNone leaf ⊎ ((own : List Entry) × ShowsOwn term block end leaf own × LackTurn own pieces)

-- a call goes further, and puts pieces at the front where the leaf covers the first of them
abbrev pub CoversFront : RegisterOf → Row → List KeyChanges → (old new : State) → Result ℕ RegFault → Type 0
CoversFront at leaf pieces old new result =
    GoesFurther pieces old new result (λ trees. CoversFirst (IsLeafIn trees at) leaf pieces → PutsFront at.db.0 pieces trees new result)
