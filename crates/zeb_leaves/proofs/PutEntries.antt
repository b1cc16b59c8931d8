-- Leaves that were cut have the entries, one behind the other, from any key on that the first one is given; and none of them is empty.
use Rattle.zeb_leaves.proofs.Cited.{Row, Trees, State, Has, has_mapped, mapped_has, ◌≡◌, ◌⊎◌, ◌∙◌, ◌≤◌, ◌++◌, ◌∷◌, ℕ, pos, List, [], length, map, refl, sym, ap, subst, inl, inr, arith, AllByRecursion, Entry, IsLeaf, blocks_tree, leaf_key, Bool, IsUtf8, FULL_BYTES, NewLeaf, leaf_row, ArePartedFrom, IsPart, AreFilled, IfToldPuts, IfToldPutsEntries, IsFilled, IsNewRow, IsRowOfOne, PutsEntries, PutsLeaves, changes_so, register_columns, Changes, RegisterOf}
use Rattle.std.proofs.lemmas.List.{append-nil}
use Rattle.zeb_leaf.specs.Cuts.{AreCut, BeginsAt, IsCutOff}

-- a leaf, as its register shows it
abbrev shown_leaf : NewLeaf → Row
shown_leaf leaf = leaf_row leaf.term leaf.block leaf.bytes

-- ---- the leaves

no_part : (term : List ℕ) (block : ℕ) → IsUtf8 term → ArePartedFrom (leaf_key term block) (leaf_row term block []) [] []
no_part term block text = record { own_is = refl; shown = ([], refl, inr (refl, refl), record { term = term; is = refl; text = text }); small = λ two. absurd (omega arith) }

-- the leaf has these entries, with whatever key it is given: one that is written is smaller than a leaf may be
part : (term : List ℕ) (block : ℕ) (bytes : List ℕ) (own : List Entry) → IsUtf8 term → IsLeaf bytes own → (2 ≤ length own → length bytes ≤ FULL_BYTES) → IsPart (leaf_key term block) (leaf_row term block bytes) own
part term block bytes own text leaf small = record {
  own_is = refl;
  shown = (bytes, refl, inl leaf, record { term = term; is = refl; text = text });
  small = λ two. omega (arith, small two, ap length leaf.spelled);
}

-- a list that a leaf begins with has a first entry, and the leaf its key
begins : (leaf : NewLeaf) (own : List Entry) → BeginsAt leaf own → IsLeaf leaf.bytes own → (e : Entry) × (more : List Entry) × (own ≡ e ∷ more) × IsUtf8 e.term × (leaf_row e.term e.block leaf.bytes ≡ shown_leaf leaf)
begins leaf [] none is = absurd none
begins leaf (e ∷ more) first is = (e, more, refl, is.each.0.text, (λ i. leaf_row (sym first.0 i) (sym first.1 i) leaf.bytes))

parts : (above : ℕ) (term : List ℕ) (block : ℕ) (leaf : NewLeaf) (leaves : List NewLeaf) (entries : List Entry) → IsUtf8 term → AreCut above (leaf ∷ leaves) entries
    → ArePartedFrom (leaf_key term block) (leaf_row term block leaf.bytes) (map shown_leaf leaves) entries
parts above term block leaf [] entries text cut =
    let all : entries ≡ cut.0 = cut.2 ∙ ap (λ (l : List Entry). cut.0 ++ l) cut.4 ∙ append-nil cut.0 in
    subst (λ (l : List Entry). IsPart (leaf_key term block) (leaf_row term block leaf.bytes) l) (sym all) (part term block leaf.bytes cut.0 text cut.3.spelled cut.3.small)
parts above term block leaf (next ∷ leaves) entries text cut =
    let own = cut.0 in
    let behind = cut.4 in
    let first = begins next behind.0 behind.3.first behind.3.spelled in
    let e = first.0 in
    let rest = first.1 ++ behind.1 in
    let rest_is : cut.1 ≡ e ∷ rest = behind.2 ∙ ap (λ (l : List Entry). l ++ behind.1) first.2 in
    let more = parts above e.term e.block next leaves cut.1 first.3 behind in (
      own,
      e,
      rest,
      cut.2 ∙ ap (λ (l : List Entry). own ++ l) rest_is,
      part term block leaf.bytes own text cut.3.spelled cut.3.small,
      subst (λ (r : Row). ArePartedFrom (leaf_key e.term e.block) r (map shown_leaf leaves) (e ∷ rest)) first.4
          (subst (λ (l : List Entry). ArePartedFrom (leaf_key e.term e.block) (leaf_row e.term e.block next.bytes) (map shown_leaf leaves) l) rest_is more),
    )

-- each of them has entries, whatever key it is given
filled_leaf : (above : ℕ) (term : List ℕ) (block : ℕ) (leaf : NewLeaf) (own rest : List Entry) → IsCutOff above leaf own rest → IsFilled (leaf_row term block leaf.bytes)
filled_leaf above term block leaf own rest cut = record { own = own; bytes = leaf.bytes; is = refl; spelled = cut.spelled; small = cut.small }

behind_filled : (above : ℕ) (leaves : List NewLeaf) (entries : List Entry) → AreCut above leaves entries → (row : Row) → Has (map shown_leaf leaves) row → IsFilled row
behind_filled above [] entries cut row here = absurd here
behind_filled above (leaf ∷ leaves) entries cut row (inl same) = subst IsFilled (sym same) (filled_leaf above leaf.term leaf.block leaf cut.0 cut.1 cut.3)
behind_filled above (leaf ∷ leaves) entries cut row (inr later) = behind_filled above leaves cut.1 cut.4 row later

all_filled : (above : ℕ) (term : List ℕ) (block : ℕ) (leaf : NewLeaf) (leaves : List NewLeaf) (entries : List Entry) → AreCut above (leaf ∷ leaves) entries → AreFilled (leaf_row term block leaf.bytes ∷ map shown_leaf leaves) entries
all_filled above term block leaf leaves entries cut = λ some row here. elim here [
  | inl same ↦ subst IsFilled (sym same) (filled_leaf above term block leaf cut.0 cut.1 cut.3)
  | inr later ↦ behind_filled above leaves cut.1 cut.4 row later
]

-- ---- their rows

module _ (at : RegisterOf) (term : List ℕ) (block : ℕ) (bytes : List ℕ) (leaves : List NewLeaf) where
  abbrev first : Row
  first = leaf_row term block bytes

  abbrev behind : List Row
  behind = map shown_leaf leaves

  abbrev New : Row → Type 0
  New row = (row ≡ register_columns at ++ first) ⊎ IsNewRow at leaves row

  one_of : (row : Row) → New row → IsRowOfOne at (first ∷ behind) row
  one_of row (inl same) = (first, inl refl, same)
  one_of row (inr new) = (shown_leaf new.0, inr (mapped_has shown_leaf leaves new.0 new.1), new.2)

  of_one : (row : Row) (leaf : Row) → Has (first ∷ behind) leaf → row ≡ register_columns at ++ leaf → New row
  of_one row leaf (inl same) is = inl (is ∙ ap (λ (l : Row). register_columns at ++ l) same)
  of_one row leaf (inr here) is = let new = has_mapped shown_leaf leaves leaf here in inr (new.0, new.1, is ∙ ap (λ (l : Row). register_columns at ++ l) new.2)

  rows_put : (entries : List Entry) (tree : ℕ) (old new : Trees) → ArePartedFrom (leaf_key term block) first behind entries → AreFilled (first ∷ behind) entries → PutsLeaves at term (pos block) bytes leaves tree old new → PutsEntries at term block entries tree old new
  rows_put entries tree old new are filled puts = (
    first,
    behind,
    are,
    λ row. (
      λ h. elim ((puts row).0 h) [ inl was ↦ inl was | inr one ↦ inr (one_of row one) ],
      λ h. (puts row).1 (elim h [ inl was ↦ inl was | inr one ↦ inr (of_one row one.0 one.1 one.2) ]),
    ),
    filled,
  )

  pub all_rows : (is_there : Bool) (entries : List Entry) (a b : State) → ArePartedFrom (leaf_key term block) first behind entries → AreFilled (first ∷ behind) entries → Changes blocks_tree (IfToldPuts is_there at term (pos block) bytes leaves) a b → Changes blocks_tree (IfToldPutsEntries is_there at term block entries) a b
  all_rows is_there entries a b are filled = changes_so blocks_tree (IfToldPuts is_there at term (pos block) bytes leaves) (IfToldPutsEntries is_there at term block entries) a b
      (λ puts told. rows_put entries blocks_tree a.now.trees b.now.trees are filled (puts told))

-- where the entries make no leaf, and where they make some
pub none_put : (above : ℕ) (at : RegisterOf) (term : List ℕ) (block : ℕ) (is_there : Bool) (entries : List Entry) (a b : State) → IsUtf8 term → AreCut above [] entries → Changes blocks_tree (IfToldPuts is_there at term (pos block) [] []) a b
    → Changes blocks_tree (IfToldPutsEntries is_there at term block entries) a b
none_put above at term block is_there entries a b text none =
    all_rows at term block [] [] is_there entries a b (subst (λ (l : List Entry). ArePartedFrom (leaf_key term block) (leaf_row term block []) [] l) (sym none) (no_part term block text)) (λ some. absurd (some none))

pub some_put : (above : ℕ) (at : RegisterOf) (term : List ℕ) (block : ℕ) (leaf : NewLeaf) (leaves : List NewLeaf) (is_there : Bool) (entries : List Entry) (a b : State) → IsUtf8 term → AreCut above (leaf ∷ leaves) entries
    → Changes blocks_tree (IfToldPuts is_there at term (pos block) leaf.bytes leaves) a b → Changes blocks_tree (IfToldPutsEntries is_there at term block entries) a b
some_put above at term block leaf leaves is_there entries a b text cut = all_rows at term block leaf.bytes leaves is_there entries a b (parts above term block leaf leaves entries text cut) (all_filled above term block leaf leaves entries cut)

-- the terms of the leaves' keys are terms of entries
pub keys_are_texts : (above : ℕ) (leaves : List NewLeaf) (entries : List Entry) → AreCut above leaves entries → AllByRecursion (λ (leaf : NewLeaf). IsUtf8 leaf.term) leaves
keys_are_texts above [] entries cut = tt
keys_are_texts above (leaf ∷ leaves) entries cut = (first_is leaf cut.0 cut.3.first cut.3.spelled, keys_are_texts above leaves cut.1 cut.4)
  where
    first_is : (leaf : NewLeaf) (own : List Entry) → BeginsAt leaf own → IsLeaf leaf.bytes own → IsUtf8 leaf.term
    first_is leaf [] none is = absurd none
    first_is leaf (e ∷ own) first is = subst IsUtf8 (sym first.0) is.each.0.text

pub no_leaves : (leaves : List NewLeaf) → length leaves ≡ 0 → leaves ≡ []
no_leaves [] none = refl
no_leaves (leaf ∷ leaves) none = absurd (omega (arith, none))
