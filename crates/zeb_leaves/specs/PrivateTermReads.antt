-- What only the contracts of private functions speak of; no public clause reaches it: the leaves from a text on, the entries that they have
-- there, and how these are counted.
use Rattle.std.specs.Prelude.{◌≡◌, ◌≢◌, ◌⊎◌, ◌+◌, ◌++◌, ◌∷◌, ◌&&◌, ℕ, Bool, not, false, List, [], Option, Some, None, filter, length, IsUtf8}
use Rattle.std.specs.Ordering.{is_lt, nat_cmp}
use Rattle.std.specs.Cmp.Lexicographic.{slice_cmp}
use Rattle.sqlite.specs.declared.types.Value.TheVariants.{Text}
use Rattle.sqlite.specs.Order.{Row, column, value_cmp}
use Rattle.sqlite.specs.Tree.{Trees}
use Rattle.sqlite_rules.specs.Lists.{Has}
use Rattle.zeb_blocks.specs.declared.postings.Posting.{Posting}
use Rattle.zeb_leaf.specs.Leaves.{IsLeaf}
use Rattle.zeb_leaf.specs.Spans.{key_cmp}
use Rattle.zeb_leaf.specs.declared.entries.Entry.{Entry}
use Rattle.zeb_register.specs.Covering.{Covers, ShowsEntries, leaf_key, own_key}
use Rattle.zeb_leaf_rows.specs.LeafRows.{HasBlockFrom}
use Rattle.zeb_leaves.specs.PrivateSpans.{ShowsKey, ShowsNone}
use Rattle.zeb_register.specs.Readings.{SaysPart}
use Rattle.zeb_register.specs.PrivateKeyColumns.{register_columns}
use Rattle.zeb_register.specs.PrivateRowTerms.{term_with}
use Rattle.zeb_register.specs.Sql.{IsListOf}
use Rattle.zeb_register.specs.Store.{IsRest, blocks_tree}
use Rattle.zeb_register.specs.declared.registers.RegisterOf.{RegisterOf}
use Rattle.zeb_register.specs.declared.registers.TermCount.{TermCount}

-- ---- the leaves from a text on

-- a row of the register with a term from the text on, whose block isn't negative
abbrev pub IsRowFrom : RegisterOf → (first : List ℕ) → Trees → Row → Type 0
IsRowFrom at first trees row =
    IsRest blocks_tree (register_columns at) trees row × (is_lt (value_cmp (column row 0) (Text first)) ≡ false) × HasBlockFrom 0 row

module _ (Leaves : Row → Type 0) (first : List ℕ) where
  -- a leaf whose own key has a term from the text on
  abbrev pub IsLeafFrom : Row → Type 0
  IsLeafFrom leaf = Leaves leaf × (term : List ℕ) × (block : ℕ) × (own_key leaf ≡ leaf_key term block) × (is_lt (slice_cmp nat_cmp term first) ≡ false)

  -- the leaf that covers block 0 of the text, and all whose own keys have terms from it on; where the register has no leaf, none
  abbrev pub AreLeavesFrom : List Row → Type 0
  AreLeavesFrom [] = (leaf : Row) → ¬ Leaves leaf
  AreLeavesFrom (row ∷ rows) = Covers Leaves (leaf_key first 0) row × IsListOf IsLeafFrom rows

-- ---- the entries that they have there

-- the bytes are those of a leaf with the entries, or there are neither
abbrev pub AreEntries : List ℕ → List Entry → Type 0
AreEntries bytes entries = IsLeaf bytes entries ⊎ ((bytes ≡ []) × (entries ≡ []))

-- a key below which others are, or none
abbrev pub End : Type 0
End = Option (List ℕ × ℕ)

abbrev pub is_below : Entry → List ℕ → ℕ → Bool
is_below e term block = is_lt (key_cmp e.term e.block term block)

-- whether the entry's key isn't below the first one, and is below the end
abbrev pub is_own : (first : List ℕ) (from : ℕ) → End → Entry → Bool
is_own first from None e = not (is_below e first from)
is_own first from (Some end) e = not (is_below e first from) && is_below e end.0 end.1

-- the row's entries with such keys
abbrev pub ShowsOwn : (first : List ℕ) (from : ℕ) → End → Row → List Entry → Type 0
ShowsOwn first from end row own = (entries : List Entry) × ShowsEntries row entries × (own ≡ filter (is_own first from end) entries)

-- those of the keys from the first on: up to the own key of the next row what this row has, and then what the next ones have
abbrev pub ShowOwns : (first : List ℕ) → ℕ → Row → List Row → List Entry → Type 0
ShowOwns first from row [] own = ShowsOwn first from None row own
ShowOwns first from row (next ∷ rows) own =
    (term : List ℕ) × (block : ℕ) × (here : List Entry) × (rest : List Entry) × ShowsKey next term block
    × ShowsOwn first from (Some (term, block)) row here × ShowOwns term block next rows rest × (own ≡ here ++ rest)

-- those of all keys from block 0 of the first text on
abbrev pub ShowAllOwns : (first : List ℕ) → List Row → List Entry → Type 0
ShowAllOwns first [] own = own ≡ []
ShowAllOwns first (row ∷ rows) own = ShowOwns first 0 row rows own

module _ (Bad : Entry → Type 0) where
  -- one of the entries is bad
  abbrev pub SomeBad : List Entry → Type 0
  SomeBad own = (e : Entry) × Has own e × Bad e

  -- the row shows no entries, or a bad one with such a key
  abbrev pub HidesOwn : (first : List ℕ) (from : ℕ) → End → Row → Type 0
  HidesOwn first from end row = ShowsNone row ⊎ ((own : List Entry) × ShowsOwn first from end row own × SomeBad own)

  -- one of the rows does so, or shows no key
  abbrev pub HideOwns : (first : List ℕ) → ℕ → Row → List Row → Type 0
  HideOwns first from row [] = HidesOwn first from None row
  HideOwns first from row (next ∷ rows) =
      ((term : List ℕ) (block : ℕ) → ¬ ShowsKey next term block)
      ⊎ ((term : List ℕ) × (block : ℕ) × ShowsKey next term block × (HidesOwn first from (Some (term, block)) row ⊎ HideOwns term block next rows))

  abbrev pub HideAllOwns : (first : List ℕ) → List Row → Type 0
  HideAllOwns first [] = ⊥
  HideAllOwns first (row ∷ rows) = HideOwns first 0 row rows

-- ---- how they are counted

-- the entry's term isn't UTF-8
abbrev pub IsNoText : Entry → Type 0
IsNoText e = ¬ IsUtf8 e.term

-- it says no postings
abbrev pub SaysNone : Entry → Type 0
SaysNone e = (part : List Posting) → ¬ SaysPart e part

-- an entry of a term that has so many records, and nothing beside
abbrev pub entry_with_records : List ℕ → ℕ → Entry
entry_with_records term records = record { term = term; block = 0; records = records; bytes = [] }

-- the entry's records are counted with the last of the terms, if that is its own, or else by a term more
abbrev pub CountsIn : Entry → (old new : List TermCount) → Type 0
CountsIn e old new =
    ((front : List TermCount) × (last : TermCount) × (old ≡ front ++ last ∷ []) × (last.term ≡ e.term)
    × (new ≡ front ++ term_with last.term (last.records + e.records) ∷ []))
    ⊎ (((front : List TermCount) (last : TermCount) → old ≡ front ++ last ∷ [] → last.term ≢ e.term) × IsUtf8 e.term
    × (new ≡ old ++ term_with e.term e.records ∷ []))

-- each of the entries, one after the other
abbrev pub CountAll : List Entry → (old new : List TermCount) → Type 0
CountAll [] old new = new ≡ old
CountAll (e ∷ own) old new = (mid : List TermCount) × CountsIn e old mid × CountAll own mid new

-- they say so many postings together
abbrev pub SayMany : List Entry → ℕ → Type 0
SayMany [] many = many ≡ 0
SayMany (e ∷ own) many = (part : List Posting) × (rest : ℕ) × SaysPart e part × SayMany own rest × (many ≡ length part + rest)
