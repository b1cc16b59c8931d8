-- The formats in which tables keep the registers of a store. A store tells its format by the text that it keeps under the name
-- `version` (this project's own).
use Rattle.std.specs.Prelude.{ℕ, List, codes}
use Rattle.sqlite.specs.Tree.{Trees}
use Rattle.zeb_register.specs.Content.{Content}
use Rattle.zeb_register.specs.HeldLeaves.{HoldsLeaves}
use Rattle.zeb_register.specs.PlainRows.{HoldsRows}
use Rattle.zeb_register.specs.PackedBlocks.{HoldsBlocks}

-- the three formats in which tables keep registers
pub data Format : Type 0 where
  -- a row of `postings` for each posting
  plain_rows : Format
  -- a row of `blocks` for each block of a key's postings, and one of `dict` for each key
  packed_blocks : Format
  -- a row of `blocks` for many neighbouring keys: a leaf
  packed_leaves : Format

-- the text under the name `version`
abbrev pub version_of : Format → List ℕ
version_of plain_rows = codes "1"
version_of packed_blocks = codes "2"
version_of packed_leaves = codes "3"

-- the tables of the registers hold this content, and nothing else
abbrev pub holds_in : Format → Trees → Content → Type 0
holds_in plain_rows = HoldsRows
holds_in packed_blocks = HoldsBlocks
holds_in packed_leaves = HoldsLeaves

-- What the format says of a key stands in rows of its own. A leaf is a row of many keys, so of leaves no law speaks that is of the rows of a key.
abbrev pub KeepsRows : Format → Type 0
KeepsRows plain_rows = Unit {0}
KeepsRows packed_blocks = Unit {0}
KeepsRows packed_leaves = ⊥
