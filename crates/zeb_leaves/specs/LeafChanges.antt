-- A leaf of a register whose place others take: what they have are its entries after a change. This layout is the project's own.
use Rattle.std.specs.Prelude.{◌≡◌, ◌≢◌, ◌⊎◌, ◌↔◌, ◌≤◌, ◌++◌, ◌∷◌, ℕ, ℤ, List, [], length}
use Rattle.std.specs.List.Sorted.{IsStrictlySortedBy}
use Rattle.sqlite.specs.Order.{Row}
use Rattle.sqlite.specs.declared.types.Value.TheVariants.{Blob}
use Rattle.sqlite.specs.Tree.{Trees}
use Rattle.sqlite_rules.specs.Lists.{Has}
use Rattle.zeb_keys.specs.declared.keys.Key.{Key}
use Rattle.zeb_leaf.specs.Leaves.{leaf_bytes}
use Rattle.zeb_leaf.specs.Order.{entry_cmp}
use Rattle.zeb_leaf.specs.declared.entries.Entry.{Entry}
use Rattle.zeb_leaf.specs.declared.entries.TheConstants.{LEAF_BYTES}
use Rattle.zeb_register.specs.Covering.{Covers, ShowsEntries, leaf_key, own_key}
use Rattle.zeb_register.specs.LeafUnits.{IsLeafOf}

-- the row shows a term, a block and bytes
abbrev pub IsLeafRow : Row → Type 0
IsLeafRow leaf = (term : List ℕ) × (block : ℕ) × (bytes : List ℕ) × (leaf ≡ leaf_key term block ++ Blob bytes ∷ [])

-- each leaf shows a key and bytes, and no two have one key, as in every store
pub record AreDistinct (Leaves : Row → Type 0) : Type 0 where
  pub shaped : (leaf : Row) → Leaves leaf → IsLeafRow leaf
  pub one : (x y : Row) → Leaves x → Leaves y → own_key x ≡ own_key y → x ≡ y

-- the leaf with this key has these entries: several take at most LEAF_BYTES bytes
pub record IsPart (key leaf : Row) (own : List Entry) : Type 0 where
  pub own_is : own_key leaf ≡ key
  pub shown : ShowsEntries leaf own
  pub small : 2 ≤ length own → length (leaf_bytes own) ≤ LEAF_BYTES

-- The leaves have the entries, one behind the other. The first has the key as its own, each other the key of its first entry.
abbrev pub ArePartedFrom : (key leaf : Row) → List Row → List Entry → Type 0
ArePartedFrom key leaf [] entries = IsPart key leaf entries
ArePartedFrom key leaf (next ∷ leaves) entries =
    (own : List Entry) × (e : Entry) × (rest : List Entry) × (entries ≡ own ++ e ∷ rest)
    × IsPart key leaf own × ArePartedFrom (leaf_key e.term e.block) next leaves (e ∷ rest)

-- The leaves are the old ones, but that others have the place of one. They have these entries, each of which the one covered.
pub record ReplacesLeaf (Old New : Row → Type 0) (was : Row) (entries : List Entry) : Type 0 where
  pub is : Old was
  pub rising : IsStrictlySortedBy entry_cmp entries
  pub within : (e : Entry) → Has entries e → Covers Old (leaf_key e.term e.block) was
  pub first : Row
  pub more : List Row
  pub parts : ArePartedFrom (own_key was) first more entries
  pub rows : (leaf : Row) → New leaf ↔ ((Old leaf × (own_key leaf ≢ own_key was)) ⊎ Has (first ∷ more) leaf)

-- These are the leaves of a register that had none: from the least key on, they have these entries.
pub record BeginsLeaves (New : Row → Type 0) (entries : List Entry) : Type 0 where
  pub rising : IsStrictlySortedBy entry_cmp entries
  pub first : Row
  pub more : List Row
  pub parts : ArePartedFrom (leaf_key [] 0) first more entries
  pub rows : (leaf : Row) → New leaf ↔ Has (first ∷ more) leaf

-- the leaf of the key's register is replaced so, in tables that keep one row for each key
pub record ReplacesLeafOf (old new : Trees) (db : ℤ) (key : Key) (was : Row) (entries : List Entry) : Type 0 where
  pub replaces : ReplacesLeaf (IsLeafOf old db key) (IsLeafOf new db key) was entries
  pub before : AreDistinct (IsLeafOf old db key)
  pub after : AreDistinct (IsLeafOf new db key)

-- the key's register gets leaves so
pub record BeginsLeavesOf (new : Trees) (db : ℤ) (key : Key) (entries : List Entry) : Type 0 where
  pub begins : BeginsLeaves (IsLeafOf new db key) entries
  pub after : AreDistinct (IsLeafOf new db key)
