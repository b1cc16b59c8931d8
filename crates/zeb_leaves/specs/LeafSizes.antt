-- How many bytes a leaf may take: the format's number, which the manual has.
use Rattle.std.specs.Prelude.{◌≡◌, ◌≤◌, ℕ, List, length}
use Rattle.sqlite.specs.declared.types.Value.TheVariants.{Blob}
use Rattle.sqlite.specs.Order.{Row, column}
use Rattle.zeb_leaf.specs.declared.entries.Entry.{Entry}
use Rattle.zeb_register.specs.Covering.{ShowsEntries}

-- so many bytes a leaf with more than one entry takes at most
abbrev pub most_leaf_bytes : ℕ
most_leaf_bytes = 3000

-- where the leaf shows more than one entry, it has at most 3,000 bytes
abbrev pub IsSmall : Row → Type 0
IsSmall leaf = (bytes : List ℕ) (entries : List Entry) → column leaf 2 ≡ Blob bytes → ShowsEntries leaf entries → 2 ≤ length entries → length bytes ≤ most_leaf_bytes
