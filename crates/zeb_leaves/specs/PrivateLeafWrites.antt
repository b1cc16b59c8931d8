-- What only the contracts of private functions speak of; no public clause reaches it: leaves that are written.
use Rattle.std.specs.Prelude.{◌≡◌, ◌≢◌, ◌⊎◌, ◌↔◌, ◌≤◌, ◌+◌, ◌++◌, ◌∷◌, ℕ, ℤ, pos, Bool, true, false, List, [], Option, Some, None, Result, IfOk, OnOk, length}
use Rattle.sqlite.specs.declared.types.Value.TheVariants.{Blob, Int, Text}
use Rattle.sqlite.specs.Order.{Row, column}
use Rattle.sqlite.specs.State.{State}
use Rattle.sqlite.specs.Tree.{Trees}
use Rattle.sqlite_rules.specs.Lists.{Has}
use Rattle.zeb_keys.specs.Registers.{register_code}
use Rattle.zeb_leaf.specs.Leaves.{IsLeaf}
use Rattle.zeb_leaf.specs.declared.entries.Entry.{Entry}
use Rattle.zeb_leaf.specs.declared.entries.TheConstants.{FULL_BYTES}
use Rattle.zeb_leaf.specs.declared.parting.NewLeaf.{NewLeaf}
use Rattle.zeb_register.specs.Covering.{leaf_key}
use Rattle.zeb_leaves.specs.LeafChanges.{ArePartedFrom}
use Rattle.zeb_leaves.specs.PrivateSpans.{ShowsKey}
use Rattle.zeb_leaves.specs.PrivateTermReads.{End}
use Rattle.zeb_register.specs.Clauses.{InStore}
use Rattle.zeb_register.specs.PrivateKeyColumns.{IsNumberedRow, register_columns}
use Rattle.zeb_register.specs.Sql.{HasRow}
use Rattle.zeb_register.specs.Tallies.{HasMoreLeaves}
use Rattle.zeb_register.specs.UnitChanges.{IsTold}
use Rattle.zeb_register.specs.declared.registers.RegisterOf.{RegisterOf}

-- the row of a leaf, with its register, its own key and its bytes
abbrev pub leaf_columns : RegisterOf → List ℕ → ℤ → List ℕ → Row
leaf_columns at term number bytes = register_columns at ++ (Text term ∷ Int number ∷ Blob bytes ∷ [])

-- a row of this register with this key
abbrev pub IsLeafWith : RegisterOf → List ℕ → ℤ → Row → Type 0
IsLeafWith at = IsNumberedRow at.db.0 (pos at.index) (pos (register_code at.register))

abbrev pub new_row : RegisterOf → NewLeaf → Row
new_row at leaf = leaf_columns at leaf.term (pos leaf.block) leaf.bytes

-- the row is that of one of the leaves
abbrev pub IsNewRow : RegisterOf → List NewLeaf → Row → Type 0
IsNewRow at leaves row = (leaf : NewLeaf) × Has leaves leaf × (row ≡ new_row at leaf)

-- the table has the rows of the leaves beside those that it had
abbrev pub GainsLeaves : RegisterOf → List NewLeaf → ℕ → Trees → Trees → Type 0
GainsLeaves at leaves tree old new = (row : Row) → HasRow new tree row ↔ (HasRow old tree row ⊎ IsNewRow at leaves row)

-- the table has the leaf with this key and these bytes in the place of that with the key, and the others beside
abbrev pub PutsLeaves : RegisterOf → List ℕ → ℤ → List ℕ → List NewLeaf → ℕ → Trees → Trees → Type 0
PutsLeaves at term number bytes leaves tree old new =
    (row : Row) → HasRow new tree row
    ↔ ((HasRow old tree row × ¬ IsLeafWith at term number row) ⊎ ((row ≡ leaf_columns at term number bytes) ⊎ IsNewRow at leaves row))

-- where it is told rightly whether there is a leaf with the key, the leaves are put
abbrev pub IfToldPuts : Bool → RegisterOf → List ℕ → ℤ → List ℕ → List NewLeaf → ℕ → Trees → Trees → Type 0
IfToldPuts is_there at term number bytes leaves tree old new =
    IsTold is_there (IsLeafWith at term number) tree old → PutsLeaves at term number bytes leaves tree old new

-- a row of the register that shows one of these leaves behind its register
abbrev pub IsRowOfOne : RegisterOf → List Row → Row → Type 0
IsRowOfOne at leaves row = (leaf : Row) × Has leaves leaf × (row ≡ register_columns at ++ leaf)

-- the leaf has some entry, and several in at most FULL_BYTES bytes
pub record IsFilled (leaf : Row) : Type 0 where
  pub own : List Entry
  pub bytes : List ℕ
  pub is : column leaf 2 ≡ Blob bytes
  pub spelled : IsLeaf bytes own
  pub small : 2 ≤ length own → length bytes ≤ FULL_BYTES

-- of leaves that have entries together, each has some
abbrev pub AreFilled : List Row → List Entry → Type 0
AreFilled leaves entries = entries ≢ [] → (leaf : Row) → Has leaves leaf → IsFilled leaf

-- the table has, in the place of the leaf with this key, leaves that have the entries from the key on, none of them empty where there are some
abbrev pub PutsEntries : RegisterOf → List ℕ → ℕ → List Entry → ℕ → Trees → Trees → Type 0
PutsEntries at term block entries tree old new =
    (first : Row) × (more : List Row) × ArePartedFrom (leaf_key term block) first more entries
    × ((row : Row) → HasRow new tree row ↔ ((HasRow old tree row × ¬ IsLeafWith at term (pos block) row) ⊎ IsRowOfOne at (first ∷ more) row))
    × AreFilled (first ∷ more) entries

abbrev pub IfToldPutsEntries : Bool → RegisterOf → List ℕ → ℕ → List Entry → ℕ → Trees → Trees → Type 0
IfToldPutsEntries is_there at term block entries tree old new =
    IsTold is_there (IsLeafWith at term (pos block)) tree old → PutsEntries at term block entries tree old new

-- ---- how many leaves come

-- accepted inside a transaction on a store, a call makes so many leaves more
abbrev pub MakesLeaves : {A E : Type 0} → ℕ → (old new : State) → Result A E → Type 0
MakesLeaves more old new result = InStore old new (λ trees. OnOk result (HasMoreLeaves more trees new.now.trees))

-- how many leaves come where one is put: none where it is told to be there
abbrev pub coming : Bool → ℕ
coming true = 0
coming false = 1

-- so many leaves are written: one that is put, and others that come behind it
abbrev pub WritesLeaves : Bool → (written : ℕ) → (old new : Trees) → Type 0
WritesLeaves is_there written old new = (behind : ℕ) × (written ≡ 1 + behind) × HasMoreLeaves (coming is_there + behind) old new

-- a call tells how many leaves it wrote
abbrev pub TellsWritten : {E : Type 0} → Bool → (old new : State) → Result ℕ E → Type 0
TellsWritten is_there old new result = InStore old new (λ trees. IfOk result (λ written. WritesLeaves is_there written trees new.now.trees))

-- ---- the keys that a leaf covers, from its own key up to the leaf behind it

-- the end is the own key of the leaf, and there is none without one
abbrev pub IsEndAt : Option Row → End → Type 0
IsEndAt None None = Unit {0}
IsEndAt (Some leaf) (Some end) = ShowsKey leaf end.0 end.1
IsEndAt _ _ = ⊥

-- the leaf shows no key
abbrev pub HidesEnd : Option Row → Type 0
HidesEnd None = ⊥
HidesEnd (Some leaf) = (term : List ℕ) (block : ℕ) → ¬ ShowsKey leaf term block
