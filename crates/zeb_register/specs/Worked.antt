-- Worked registers: two leaves with the terms a, b and c, of which b has a block in each, and leaves that no writer makes.
use Rattle.std.specs.Prelude.{ℕ, List, [], ◌∷◌, ◌++◌, codes}
use Rattle.sqlite.specs.declared.types.Value.TheVariants.{Blob}
use Rattle.sqlite.specs.Order.{Row}
use Rattle.zeb_leaf.specs.Leaves.{leaf_bytes}
use Rattle.zeb_leaf.specs.Worked.{entry}
use Rattle.zeb_leaf.specs.declared.entries.Entry.{Entry}
use Rattle.zeb_register.specs.Covering.{leaf_key}

-- the leaf with this key and these entries
abbrev pub leaf : List ℕ → ℕ → List Entry → Row
leaf term block entries = leaf_key term block ++ Blob (leaf_bytes entries) ∷ []

-- a in record 1, b in record 1
abbrev pub first_entries : List Entry
first_entries =
    entry (codes "a") 0 1 (1 ∷ 2 ∷ 2 ∷ []) ∷ entry (codes "b") 0 1 (1 ∷ 2 ∷ 2 ∷ []) ∷ []

-- b in record 256, c in records 1 and 255
abbrev pub second_entries : List Entry
second_entries =
    entry (codes "b") 1 1 (0 ∷ 2 ∷ 2 ∷ []) ∷ entry (codes "c") 0 2 (1 ∷ 2 ∷ 2 ∷ 0xfe ∷ 1 ∷ 1 ∷ 1 ∷ []) ∷ []

-- a first leaf of a register, in which a and b each have record 1
abbrev pub first_leaf : Row
first_leaf = leaf [] 0 first_entries

-- a second leaf of a register, with b in record 256 and c in records 1 and 255
abbrev pub second_leaf : Row
second_leaf = leaf (codes "b") 1 second_entries

-- a first leaf with an entry that the second leaf covers: c in record 1
abbrev pub stray_leaf : Row
stray_leaf = leaf [] 0 (entry (codes "a") 0 1 (1 ∷ 2 ∷ 2 ∷ []) ∷ entry (codes "c") 0 1 (1 ∷ 2 ∷ 2 ∷ []) ∷ [])

-- a second leaf whose bytes are cut
abbrev pub cut_leaf : Row
cut_leaf = leaf_key (codes "b") 1 ++ Blob (0 ∷ 1 ∷ 97 ∷ 0 ∷ 1 ∷ 3 ∷ 1 ∷ 2 ∷ []) ∷ []

-- a first leaf that says of a that two records have it, where its block has one
abbrev pub miscounted_leaf : Row
miscounted_leaf = leaf [] 0 (entry (codes "a") 0 2 (1 ∷ 2 ∷ 2 ∷ []) ∷ entry (codes "b") 0 1 (1 ∷ 2 ∷ 2 ∷ []) ∷ [])

-- a leaf whose own term is no text, without entries
abbrev pub no_text_leaf : Row
no_text_leaf = leaf_key (0x80 ∷ []) 0 ++ Blob [] ∷ []
