-- What only the contracts of private functions speak of; no public clause reaches it: the leaves of neighbouring terms, and the entries that
-- they have of these.
use Rattle.std.specs.Prelude.{◌≡◌, ◌⊎◌, ◌++◌, ◌∷◌, ℕ, List, []}
use Rattle.sqlite.specs.Order.{Row}
use Rattle.sqlite_rules.specs.Lists.{Has}
use Rattle.zeb_leaf.specs.Spans.{AreInSpan}
use Rattle.zeb_leaf.specs.declared.entries.Entry.{Entry}
use Rattle.zeb_leaf.specs.declared.entries.Held.{Held}
use Rattle.zeb_register.specs.Covering.{Covers, ShowsEntries, leaf_key, own_key}
use Rattle.zeb_register.specs.Between.{IsBetween}
use Rattle.zeb_register.specs.Sql.{IsListOf}

module _ (Leaves : Row → Type 0) (first last : List ℕ) where
  -- a leaf whose own key has a term between the two, and that is Low
  abbrev pub IsSpanLeaf : (Low : Row → Type 0) → Row → Type 0
  IsSpanLeaf Low leaf = Leaves leaf × (term : List ℕ) × (block : ℕ) × (own_key leaf ≡ leaf_key term block) × IsBetween first last term × Low leaf

  -- the leaf that covers block 0 of the first text, and all whose own keys have terms between the two; where the register has no leaf, none
  abbrev pub AreSpanLeaves : List Row → Type 0
  AreSpanLeaves [] = (leaf : Row) → ¬ Leaves leaf
  AreSpanLeaves (row ∷ rows) = Covers Leaves (leaf_key first 0) row × IsListOf (IsSpanLeaf (λ _. Unit {0})) rows

-- the row's own key
abbrev pub ShowsKey : Row → List ℕ → ℕ → Type 0
ShowsKey row term block = own_key row ≡ leaf_key term block

-- of the keys from the first on and below the end, this is what the row has
abbrev pub ShowsSpan : (first : List ℕ) (from : ℕ) (end : List ℕ) (below : ℕ) → Row → List Held → Type 0
ShowsSpan first from end below row held = (entries : List Entry) × ShowsEntries row entries × AreInSpan first from end below entries held

-- of the keys from the first on: up to the own key of the next row what this row has, and then what the next ones have, up to the end
abbrev pub ShowSpans : (end : List ℕ) → (first : List ℕ) → ℕ → Row → List Row → List Held → Type 0
ShowSpans end first from row [] held = ShowsSpan first from end 0 row held
ShowSpans end first from row (next ∷ rows) held =
    (term : List ℕ) × (block : ℕ) × (here : List Held) × (rest : List Held) × ShowsKey next term block
    × ShowsSpan first from term block row here × ShowSpans end term block next rows rest × (held ≡ here ++ rest)

-- of all keys from block 0 of the first text on
abbrev pub ShowAllSpans : (end first : List ℕ) → List Row → List Held → Type 0
ShowAllSpans end first [] held = held ≡ []
ShowAllSpans end first (row ∷ rows) held = ShowSpans end first 0 row rows held

-- the row shows no entries; and one of them does so, or shows no key
abbrev pub ShowsNone : Row → Type 0
ShowsNone row = (entries : List Entry) → ¬ ShowsEntries row entries

abbrev pub SomeShowsNoKey : List Row → Type 0
SomeShowsNoKey rows = (row : Row) × Has rows row × (ShowsNone row ⊎ ((term : List ℕ) (block : ℕ) → ¬ ShowsKey row term block))
