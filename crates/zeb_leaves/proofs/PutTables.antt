-- What proofs call a leaf into which pieces are put, and the tables in which they are put.
use Rattle.zeb_leaves.proofs.Cited.{Row, column, Int, Has, ◌≡◌, ◌⊎◌, ◌↔◌, ◌++◌, ℕ, ℤ, pos, List, Trees, Key, Entry, AreDistinct, Covers, ShowsEntries, leaf_key, IsLeafOf, register_front, HasRow, KeepsLists, blocks_tree, dict_tree, postings_tree}

-- the leaf shows entries, and these are those of them that it covers
pub record OwnsEntries (Leaves : Row → Type 0) (leaf : Row) (own : List Entry) : Type 0 where
  pub shown : List Entry
  pub shows : ShowsEntries leaf shown
  pub each : (e : Entry) → Has own e ↔ (Has shown e × Covers Leaves (leaf_key e.term e.block) leaf)

-- the leaf covers the block of the term
abbrev pub IsCovered : Trees → ℤ → Key → Row → List ℕ → ℕ → Type 0
IsCovered trees db key leaf term block = Covers (IsLeafOf trees db key) (leaf_key term block) leaf

-- ---- tables in which the leaves of one register are changed

-- each leaf of any register shows a key and bytes, and no two of one register have one key, as in every store
abbrev pub AreAllDistinct : Trees → Type 0
AreAllDistinct trees = (db : ℤ) (key : Key) → AreDistinct (IsLeafOf trees db key)

-- the row is a leaf of the key's register
abbrev pub IsLeafBeneath : ℤ → Key → Row → Type 0
IsLeafBeneath db key row = (leaf : Row) × (block : ℕ) × (row ≡ register_front db key.index key.register ++ leaf) × (column leaf 1 ≡ Int (pos block))

-- each row that is no leaf of the key's register is as it was
pub record KeepsBesideLeaves (db : ℤ) (key : Key) (old new : Trees) : Type 0 where
  pub stays : (row : Row) → ¬ IsLeafBeneath db key row → HasRow old blocks_tree row → HasRow new blocks_tree row
  pub comes : (row : Row) → HasRow new blocks_tree row → HasRow old blocks_tree row ⊎ IsLeafBeneath db key row
  pub postings : new postings_tree ≡ old postings_tree
  pub dict : new dict_tree ≡ old dict_tree
  pub lists : KeepsLists old new
  pub before : AreAllDistinct old
  pub after : AreAllDistinct new
