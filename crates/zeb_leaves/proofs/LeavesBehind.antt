-- Which leaf stands behind a key, by what the statements show.
use Rattle.zeb_leaves.proofs.Cited.{Row, column, row_cmp, Int, Text, ◌≡◌, ◌≢◌, ◌∙◌, ◌⊎◌, ◌<◌, ◌+◌, ◌≤◌, ◌++◌, ◌∷◌, ℕ, ℤ, Some, None, Option, pos, true, false, List, [], refl, sym, ap, inl, inr, arith, Ordering, Less, Equal, Greater, nat_cmp, nat_list_cmp_total, slice_cmp, ordering_reverse, ordering_then, nat_tests, tied_itself, value_cmp-Text, IsNextBehind, IsUpTo, HasBlockFrom, IsLeast, leaf_key, own_key, IsRest, IsStore, State, blocks_tree, Register, register_front, value_cmp, cases_Bool, cases_lt, is_lt, texts_apart, leaf_row, up_to}
use Rattle.zeb_register.proofs.KeyOrder.{greater_is, key_order}
use Rattle.zeb_leaf_rows.proofs.CoveringLeaves.{Leaves, from_is, leaf_from, leaf_shape, shape_from}
use Rattle.zeb_leaves.proofs.OwnLeaves.{lt_less}

-- ---- texts above another

pub above_from : (term t : List ℕ) → slice_cmp nat_cmp t term ≡ Greater → is_lt (slice_cmp nat_cmp t (term ++ 0 ∷ [])) ≡ false
above_from term t above = elim (cases_Bool (is_lt (slice_cmp nat_cmp t (term ++ 0 ∷ [])))) [
  | inl low ↦
      let less : slice_cmp nat_cmp term t ≡ Less = nat_list_cmp_total.antisymm term t ∙ ap ordering_reverse above in
      let e : true ≡ false = sym (ap is_lt less) ∙ (up_to term t).0 low in
      absurd (cc)
  | inr from ↦ from
]

pub from_above : (term t : List ℕ) → is_lt (slice_cmp nat_cmp t (term ++ 0 ∷ [])) ≡ false → slice_cmp nat_cmp t term ≡ Greater
from_above term t from = elim (cases_Bool (is_lt (slice_cmp nat_cmp term t))) [
  | inl low ↦ nat_list_cmp_total.antisymm t term ∙ ap ordering_reverse (lt_less (slice_cmp nat_cmp term t) low)
  | inr up ↦ let e : false ≡ true = sym from ∙ (up_to term t).1 up in absurd (cc)
]

not_over : (m n : ℕ) → m ≤ n → nat_cmp m n ≢ Greater
not_over m n low over = grind (arith, nat_tests, over)

-- what isn't up to a key is above it
pub above_is : (x y : Row) → ¬ (row_cmp x y ≢ Greater) → row_cmp x y ≡ Greater
above_is x y not = from (row_cmp x y) (λ never. not never)
  where
    from : (o : Ordering) → ¬ (o ≢ Greater) → o ≡ Greater
    from Less never = absurd (never (λ e. let f : Less ≡ Greater = e in cc))
    from Equal never = absurd (never (λ e. let f : Equal ≡ Greater = e in cc))
    from Greater never = refl

module _ (s : State) (store : IsStore s) (db : ℤ) (index : ℕ) (register : Register) (term : List ℕ) (block : ℕ) where
  abbrev Found : Row → Type 0
  Found = Leaves s store db index register

  abbrev Rest : Row → Type 0
  Rest = IsRest blocks_tree (register_front db index register) s.now.trees

  abbrev key : Row
  key = leaf_key term block

  abbrev OfTerm : Row → Type 0
  OfTerm row = Rest row × (column row 0 ≡ Text term) × (is_lt (value_cmp (column row 1) (Int (pos (block + 1)))) ≡ false)

  abbrev OfTermsAbove : Row → Type 0
  OfTermsAbove row = Rest row × (is_lt (value_cmp (column row 0) (Text (term ++ 0 ∷ []))) ≡ false) × HasBlockFrom 0 row

  ordered : (t : List ℕ) (b : ℕ) (d : List ℕ) (row : Row) → row ≡ leaf_row t b d → row_cmp (own_key row) key ≡ ordering_then (slice_cmp nat_cmp t term) (nat_cmp b block)
  ordered t b d row is = ap (λ (r : Row). row_cmp (own_key r) key) is ∙ key_order t term b block

  -- a leaf above the key is of its term, or of one above
  parted : (row : Row) → Found row → ¬ IsUpTo key row → OfTerm row ⊎ OfTermsAbove row
  parted row there behind =
      let it = leaf_shape s store db index register row there in
      at it.0 it.1 it.2 it.3 (sym (ordered it.0 it.1 it.2 row it.3) ∙ above_is (own_key row) key behind) (slice_cmp nat_cmp it.0 term) refl
    where
      at : (t : List ℕ) (b : ℕ) (d : List ℕ) → row ≡ leaf_row t b d → ordering_then (slice_cmp nat_cmp t term) (nat_cmp b block) ≡ Greater → (o : Ordering) → slice_cmp nat_cmp t term ≡ o → OfTerm row ⊎ OfTermsAbove row
      at t b d is above Less low = let e : Less ≡ Greater = sym (ap (λ o. ordering_then o (nat_cmp b block)) low) ∙ above in absurd (cc)
      at t b d is above Greater high = inr (
        there.0,
        ap (λ (r : Row). is_lt (value_cmp (column r 0) (Text (term ++ 0 ∷ [])))) is ∙ ap is_lt (value_cmp-Text t (term ++ 0 ∷ [])) ∙ above_from term t high,
        ap (λ (r : Row). is_lt (value_cmp (column r 1) (Int (pos 0)))) is ∙ from_is b 0 (omega arith),
      )
      at t b d is above Equal same =
          let over : nat_cmp b block ≡ Greater = sym (ap (λ o. ordering_then o (nat_cmp b block)) same) ∙ above in
          elim (cases_lt block b) [
            | inl high ↦ inl (
              there.0,
              ap (λ (r : Row). column r 0) is ∙ ap Text (texts_apart t term same),
              ap (λ (r : Row). is_lt (value_cmp (column r 1) (Int (pos (block + 1))))) is ∙ from_is b (block + 1) (omega (arith, high)),
            )
            | inr low ↦ absurd (not_over b block low over)
          ]

  of_term : (row : Row) → OfTerm row → (b : ℕ) × (d : List ℕ) × (row ≡ leaf_row term b d) × (block < b) × Found row
  of_term row it =
      let shape = shape_from s store db index register row (block + 1) it.0 it.2 in
      let term_is : Text shape.0 ≡ Text term = sym (ap (λ (r : Row). column r 0) shape.3) ∙ it.1 in
      let same : shape.0 ≡ term = cc in
      (shape.1, shape.2, shape.3 ∙ ap (λ t. leaf_row t shape.1 shape.2) same, omega (arith, shape.4), leaf_from s store db index register row (block + 1) it.0 it.2)

  of_terms_above : (row : Row) → OfTermsAbove row → (t : List ℕ) × (b : ℕ) × (d : List ℕ) × (row ≡ leaf_row t b d) × (slice_cmp nat_cmp t term ≡ Greater) × Found row
  of_terms_above row it =
      let shape = shape_from s store db index register row 0 it.0 it.2 in
      let from = sym (ap (λ (r : Row). is_lt (value_cmp (column r 0) (Text (term ++ 0 ∷ [])))) shape.3 ∙ ap is_lt (value_cmp-Text shape.0 (term ++ 0 ∷ []))) ∙ it.1 in
      (shape.0, shape.1, shape.2, shape.3, from_above term shape.0 from, leaf_from s store db index register row 0 it.0 it.2)

  -- those of the term and those of terms above are above the key
  term_behind : (row : Row) → OfTerm row → ¬ IsUpTo key row
  term_behind row it up = let is = of_term row it in up (ordered term is.0 is.1 row is.2 ∙ tied_over is.0 is.3)
    where
      tied_over : (b : ℕ) → block < b → ordering_then (slice_cmp nat_cmp term term) (nat_cmp b block) ≡ Greater
      tied_over b high = ap (λ o. ordering_then o (nat_cmp b block)) (tied_itself nat_list_cmp_total term) ∙ greater_is b block high

  above_behind : (row : Row) → OfTermsAbove row → ¬ IsUpTo key row
  above_behind row it up = let is = of_terms_above row it in up (ordered is.0 is.1 is.2 row is.3 ∙ ap (λ o. ordering_then o (nat_cmp is.1 block)) is.4)

  -- and those of the term are below the others
  term_below : (row other : Row) → OfTerm row → OfTermsAbove other → IsUpTo (own_key other) row
  term_below row other it higher above =
      let a = of_term row it in
      let b = of_terms_above other higher in
      let less : slice_cmp nat_cmp term b.0 ≡ Less = nat_list_cmp_total.antisymm term b.0 ∙ ap ordering_reverse b.4 in
      let keys : row_cmp (own_key row) (own_key other) ≡ ordering_then (slice_cmp nat_cmp term b.0) (nat_cmp a.0 b.1) =
      ap (λ (r : Row). row_cmp (own_key r) (own_key other)) a.2 ∙ ap (λ (r : Row). row_cmp (leaf_key term a.0) (own_key r)) b.3 ∙ key_order term b.0 a.0 b.1 in
      let e : Less ≡ Greater = sym (ap (λ o. ordering_then o (nat_cmp a.0 b.1)) less) ∙ sym keys ∙ above in
      cc

  -- ---- by the rows that are found

  pub behind_own : (row : Row) → IsLeast OfTerm (Some row) → IsNextBehind Found key (Some row)
  behind_own row it = (
    (of_term row it.0).4,
    term_behind row it.0,
    λ other there behind. elim (parted other there behind) [ inl one ↦ it.1 other one | inr two ↦ term_below row other it.0 two ],
  )

  pub behind_above : IsLeast OfTerm None → (found : Option Row) → IsLeast OfTermsAbove found → IsNextBehind Found key found
  behind_above none (Some row) it = (
    (of_terms_above row it.0).5,
    above_behind row it.0,
    λ other there behind. elim (parted other there behind) [ inl one ↦ absurd (none other one) | inr two ↦ it.1 other two ],
  )
  behind_above none None higher = λ leaf there above. elim (parted leaf there (λ up. up above)) [ inl one ↦ none leaf one | inr two ↦ higher leaf two ]
