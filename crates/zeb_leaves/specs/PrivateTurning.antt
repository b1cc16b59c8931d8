-- What only the contracts of private functions speak of; no public clause reaches it: the pieces of a run at the front, put into one leaf.
use Rattle.std.specs.Prelude.{◌≡◌, ◌≢◌, ◌≤◌, ℕ, ℤ, List, [], ◌∷◌, Some, None, Result, IfOk, OnOk, length, take, IsUtf8}
use Rattle.std.specs.List.{AllByRecursion}
use Rattle.std.specs.declared.cmp.Ordering.TheVariants.{Less}
use Rattle.sqlite.specs.Order.{Row}
use Rattle.sqlite.specs.State.{State}
use Rattle.sqlite.specs.Tree.{Trees}
use Rattle.zeb_leaf.specs.Spans.{key_cmp}
use Rattle.zeb_leaf_rows.specs.LeafRows.{IsLeafIn}
use Rattle.zeb_leaves.specs.PrivatePieces.{ArePieces, block_of}
use Rattle.zeb_leaves.specs.PrivatePutPieces.{EndsLeaf}
use Rattle.zeb_leaves.specs.PrivateTermReads.{End}
use Rattle.zeb_register.specs.Answers.{Answers, IfDamaged}
use Rattle.zeb_register.specs.Clauses.{InStore}
use Rattle.zeb_register.specs.Covering.{Covers, leaf_key}
use Rattle.zeb_register.specs.Formats.{packed_leaves}
use Rattle.zeb_register.specs.RunChanges.{LacksLeave, PutsKeys}
use Rattle.zeb_register.specs.Store.{IsStore}
use Rattle.zeb_register.specs.Tallies.{Rises, WorksOnLeaves}
use Rattle.zeb_register.specs.declared.faults.RegFault.{RegFault}
use Rattle.zeb_register.specs.declared.registers.KeyChanges.{KeyChanges}
use Rattle.zeb_register.specs.declared.registers.RegisterOf.{RegisterOf}
use Rattle.zeb_register.specs.declared.registers.Work.{Work}

-- the piece is of the register
abbrev pub IsOfRegister : RegisterOf → KeyChanges → Type 0
IsOfRegister at piece = (piece.key.now.index ≡ at.index) × (piece.key.now.register ≡ at.register)

-- and its term is text
abbrev pub IsTextOf : RegisterOf → KeyChanges → Type 0
IsTextOf at piece = IsOfRegister at piece × IsUtf8 piece.key.now.term

-- its block is below the end, where there is one
abbrev pub IsBelow : End → KeyChanges → Type 0
IsBelow None piece = Unit {0}
IsBelow (Some end) piece = key_cmp piece.key.now.term (block_of piece.changes.now) end.0 end.1 ≡ Less

-- there is a piece, they are pieces of a run, and the first is of the register, with a term that is text
pub record BeginInRegister (at : RegisterOf) (pieces : List KeyChanges) : Type 0 where
  pub some : pieces ≢ []
  pub are : ArePieces pieces
  pub first : AllByRecursion (IsTextOf at) (take 1 pieces)

-- the leaf covers the block of the first of them
abbrev pub CoversFirst : (Row → Type 0) → Row → List KeyChanges → Type 0
CoversFirst Leaves leaf [] = Unit {0}
CoversFirst Leaves leaf (piece ∷ pieces) = Covers Leaves (leaf_key piece.key.now.term (block_of piece.changes.now)) leaf

-- so many pieces at the front are put; or one of all lacks leave
abbrev pub PutsFront : ℤ → List KeyChanges → (old : Trees) → (new : State) → Result ℕ RegFault → Type 0
PutsFront db pieces old new = Answers (IfDamaged (LacksLeave packed_leaves db pieces old))
    (λ count. IsStore new × PutsKeys packed_leaves db (take count pieces) old new.now.trees)

-- An accepted call goes further by one piece at least, and by no more than there are. Inside a transaction on a store this is said of its tables.
pub record GoesFurther (pieces : List KeyChanges) (old new : State) (result : Result ℕ RegFault) (Said : Trees → Type 0) : Type 0 where
  pub further : IfOk result (λ count. (1 ≤ count) × (count ≤ length pieces))
  pub puts : InStore old new Said

-- such a call puts pieces at the front
abbrev pub TurnsFront : ℤ → List KeyChanges → (old new : State) → Result ℕ RegFault → Type 0
TurnsFront db pieces old new result = GoesFurther pieces old new result (λ trees. PutsFront db pieces trees new result)

-- the same where the register has no leaf
abbrev pub BeginsFront : RegisterOf → List KeyChanges → (old new : State) → Result ℕ RegFault → Type 0
BeginsFront at pieces old new result = GoesFurther pieces old new result (λ trees. ((leaf : Row) → ¬ IsLeafIn trees at leaf) → PutsFront at.db.0 pieces trees new result)

-- the same where the leaf covers the first of them, and what it covers ends there
abbrev pub ReplacesFront : RegisterOf → Row → End → List KeyChanges → (old new : State) → Result ℕ RegFault → Type 0
ReplacesFront at leaf end pieces old new result = GoesFurther pieces old new result (λ trees.
    EndsLeaf (IsLeafIn trees at) leaf end → CoversFirst (IsLeafIn trees at) leaf pieces → PutsFront at.db.0 pieces trees new result)

-- ---- what is counted

-- so many leaves are counted as read, and so many as written, and nothing else
pub record CountsLeaves (read written : ℕ) (was is : Work) : Type 0 where
  pub reads_terms : is.dict_read ≡ was.dict_read
  pub writes_terms : is.dict_written ≡ was.dict_written
  pub reads_leaves : Rises read was.block_read is.block_read
  pub writes_leaves : Rises written was.block_written is.block_written

-- accepted inside a transaction on a store, a call counts what so many changes do
abbrev pub CountsChanges : {A : Type 0} → ℕ → (old new : State) → Result A RegFault → Work → Work → Type 0
CountsChanges changes old new result was is = InStore old new (λ trees. OnOk result (WorksOnLeaves changes trees new.now.trees was is))

-- such a call puts the pieces of one leaf, and counts just so many leaves as read
abbrev pub CountsTurn : {A : Type 0} → ℕ → (old new : State) → Result A RegFault → Work → Work → Type 0
CountsTurn read old new result was is =
    InStore old new (λ trees. OnOk result (Rises read was.block_read is.block_read × WorksOnLeaves 1 trees new.now.trees was is))
