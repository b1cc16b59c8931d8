-- How the entries of a leaf are spelled in bytes. This coding is the project's own; its numbers are those of ULEB128.
use Rattle.std.specs.Prelude.{◌≡◌, ◌≢◌, ℕ, List, [], ◌∷◌, ◌++◌, length, drop, nat_eq}
use Rattle.std.specs.List.{AllByRecursion, common_prefix_len}
use Rattle.std.specs.List.Sorted.{IsStrictlySortedBy}
use Rattle.zeb_blocks.specs.Numbers.{uleb}
use Rattle.zeb_leaf.specs.Order.{IsEntry, entry_cmp}
use Rattle.zeb_leaf.specs.declared.entries.Entry.{Entry}

-- how many bytes two terms have in common at their front: as many as can be
abbrev pub shared_of : List ℕ → List ℕ → ℕ
shared_of before term = common_prefix_len nat_eq before term

-- bytes, behind how many they are
unfoldable pub counted : List ℕ → List ℕ
counted bytes = uleb (length bytes) ++ bytes

-- an entry behind one with this term: how much of it is shared, the rest of its own term, its block, its records and the block's bytes
unfoldable pub entry_bytes : List ℕ → Entry → List ℕ
entry_bytes before e =
    uleb (shared_of before e.term)
    ++ (counted (drop (shared_of before e.term) e.term) ++ (uleb e.block ++ (uleb e.records ++ counted e.bytes)))

-- the bytes of the entries behind a term, one behind the other
unfoldable pub entries_bytes : List ℕ → List Entry → List ℕ
entries_bytes before [] = []
entries_bytes before (e ∷ entries) = entry_bytes before e ++ entries_bytes e.term entries

-- the first entry shares nothing
abbrev pub leaf_bytes : List Entry → List ℕ
leaf_bytes entries = entries_bytes [] entries

-- the bytes are a leaf with these entries: they rise, there is one at least, and nothing stands behind the last
pub record IsLeaf (bytes : List ℕ) (entries : List Entry) : Type 0 where
  pub some : entries ≢ []
  pub rising : IsStrictlySortedBy entry_cmp entries
  pub each : AllByRecursion IsEntry entries
  pub spelled : bytes ≡ leaf_bytes entries
