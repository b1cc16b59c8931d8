-- Version 3, the layout with leaves: which tables hold a content. A content has several images, by where its leaves are parted.
use Rattle.std.specs.Prelude.{◌≡◌, ◌≤◌, ℕ, ℤ, List, [], length}
use Rattle.sqlite.specs.Order.{Row}
use Rattle.sqlite.specs.Tree.{Trees}
use Rattle.sqlite_rules.specs.Lists.{Has}
use Rattle.zeb_keys.specs.declared.keys.Key.{Key}
use Rattle.zeb_leaf.specs.Leaves.{leaf_bytes}
use Rattle.zeb_leaf.specs.declared.entries.Entry.{Entry}
use Rattle.zeb_leaf.specs.declared.entries.TheConstants.{LEAF_BYTES}
use Rattle.zeb_register.specs.Covering.{Covers, ShowsEntries, leaf_key}
use Rattle.zeb_register.specs.LeafUnits.{IsLeafOf, LeavesReadBlock}
use Rattle.zeb_register.specs.Content.{Content, HasRisingLists}
use Rattle.zeb_register.specs.PackedBlocks.{block_row, part_in}
use Rattle.zeb_register.specs.Sql.{HasRow}
use Rattle.zeb_register.specs.Store.{blocks_tree, dict_tree, postings_tree}

-- The leaf covers each of its entries, so none stands beside what is read. It may have none: a change that empties a leaf leaves it there,
-- since the leaf before it would have its keys then, whatever it is. Several take at most LEAF_BYTES bytes.
pub record IsLeafAlone (Leaves : Row → Type 0) (leaf : Row) : Type 0 where
  pub entries : List Entry
  pub shown : ShowsEntries leaf entries
  pub within : (e : Entry) → Has entries e → Covers Leaves (leaf_key e.term e.block) leaf
  pub small : 2 ≤ length entries → length (leaf_bytes entries) ≤ LEAF_BYTES

-- each leaf of the key's register is such a one
abbrev pub AreAloneIn : Trees → ℤ → Key → Type 0
AreAloneIn trees db key = (leaf : Row) → IsLeafOf trees db key leaf → IsLeafAlone (IsLeafOf trees db key) leaf

-- the row has the columns of a leaf of some register
abbrev pub IsAnyLeaf : Row → Type 0
IsAnyLeaf row = (db : ℤ) × (key : Key) × (block : ℕ) × (bytes : List ℕ) × (row ≡ block_row db key block bytes)

-- Each row of `blocks` is such a leaf of a register, and `postings` and `dict` have none.
pub record AreLeavesAlone (trees : Trees) : Type 0 where
  pub blocks : (row : Row) → HasRow trees blocks_tree row → IsAnyLeaf row
  pub leaves : (db : ℤ) (key : Key) → AreAloneIn trees db key
  pub alone : (trees postings_tree ≡ []) × (trees dict_tree ≡ [])

-- The tables of the registers hold the content: each block of each key reads as the key's postings there, and no row and no entry stands
-- beside. So the first leaf of a register that has one has the empty term and block 0 as its key.
pub record HoldsLeaves (trees : Trees) (content : Content) : Type 0 where
  pub rising : HasRisingLists content
  pub reads : (db : ℤ) (key : Key) (block : ℕ) → LeavesReadBlock trees db key block (part_in block (content db key))
  pub alone : AreLeavesAlone trees
