-- Which leaf of a register covers a key. A leaf is a row of `blocks`, shown by the columns behind its database, index and register: a term
-- and the number of a block, which are the leaf's own key, and the leaf's bytes. This layout is the project's own.
use Rattle.std.specs.Prelude.{◌≡◌, ◌≢◌, ◌⊎◌, ℕ, pos, List, [], ◌∷◌, IsUtf8}
use Rattle.std.specs.declared.cmp.Ordering.TheVariants.{Greater}
use Rattle.sqlite.specs.declared.types.Value.TheVariants.{Int, Text, Blob}
use Rattle.sqlite.specs.Order.{Row, column, row_cmp}
use Rattle.zeb_leaf.specs.Leaves.{IsLeaf}
use Rattle.zeb_leaf.specs.declared.entries.Entry.{Entry}

-- the key of a block of a term, in the order that SQL gives such rows: by the bytes of the term, then by the number
abbrev pub leaf_key : List ℕ → ℕ → Row
leaf_key term block = Text term ∷ Int (pos block) ∷ []

-- a leaf's own key
abbrev pub own_key : Row → Row
own_key leaf = column leaf 0 ∷ column leaf 1 ∷ []

-- the leaf's own key isn't above the key
abbrev pub IsUpTo : Row → Row → Type 0
IsUpTo key leaf = row_cmp (own_key leaf) key ≢ Greater

-- the term of the leaf's own key is a text, and UTF-8
pub record HasTextTerm (leaf : Row) : Type 0 where
  pub term : List ℕ
  pub is : column leaf 0 ≡ Text term
  pub text : IsUtf8 term

-- the leaf's bytes are those of the entries, or it has no bytes and there are no entries; and its own term is text
abbrev pub ShowsEntries : Row → List Entry → Type 0
ShowsEntries leaf entries =
    (bytes : List ℕ) × (column leaf 2 ≡ Blob bytes) × (IsLeaf bytes entries ⊎ ((bytes ≡ []) × (entries ≡ []))) × HasTextTerm leaf

module _ (Leaves : Row → Type 0) where
  -- the leaf covers the key: it is the greatest of those that aren't above it
  pub record Covers (key leaf : Row) : Type 0 where
    pub is : Leaves leaf
    pub up_to : IsUpTo key leaf
    pub greatest : (other : Row) → Leaves other → IsUpTo key other → IsUpTo (own_key leaf) other

  -- The leaf that covers the key has these entries; or the register has no leaf, and these are none. Two leaves with one key, which no
  -- store has, would both have to have them.
  pub record HasEntriesAt (key : Row) (entries : List Entry) : Type 0 where
    pub shown : (leaf : Row) → Covers key leaf → ShowsEntries leaf entries
    pub covered : ((leaf : Row) × Covers key leaf) ⊎ ((entries ≡ []) × ((leaf : Row) → ¬ Leaves leaf))

  -- the leaf that covers the key shows no entries, by its bytes or its own term; or the register has a leaf, and none covers the key
  abbrev pub LacksEntriesAt : Row → Type 0
  LacksEntriesAt key =
      ((leaf : Row) × Covers key leaf × ((entries : List Entry) → ¬ ShowsEntries leaf entries))
      ⊎ ((leaf : Row) × Leaves leaf × ((other : Row) → ¬ Covers key other))
