-- Which leaf covers a key, by what the statements show.
use Rattle.zeb_leaf_rows.proofs.Cited.{Row, column, row_cmp, Int, Text, Blob, ◌≡◌, ◌≢◌, ◌∙◌, ◌⊎◌, ◌<◌, ◌+◌, ◌≤◌, ◌++◌, ◌∷◌, ℕ, ℤ, Some, None, Option, subst, pos, true, false, List, [], refl, sym, ap, inl, inr, arith, Ordering, Less, Equal, Greater, nat_cmp, slice_cmp, ordering_then, value_cmp-Int, value_cmp-Text, less_is, is_less, Covers, IsCovering, IsLeafOf, IsUncovered, IsUpTo, HasBlockFrom, IsFirst, IsGreatest, IsLastOf, ShowsFirst, ShowsGreatest, leaf_key, own_key, IsRest, IsStore, State, blocks_tree, key_in, Register, register_front, register_code, ints_order}
use Rattle.std.proofs.Common.{Bool, negsuc}
use Rattle.std.proofs.lemmas.Bool.{cases_lt}
use Rattle.std.specs.Ordering.{is_lt}
use Rattle.sqlite.specs.Order.{value_cmp}
use Rattle.zeb_keys.proofs.Rising.{texts_apart}
use Rattle.zeb_register.proofs.KeyOrder.{greater_is, key_order, up_to_block}
use Rattle.zeb_leaf_rows.proofs.LeafShapes.{leaf_row, shown_row}
use Rattle.zeb_register.proofs.RisingLists.{same_last}

-- ---- numbers and texts of rows

pub is_below : (m n : ℕ) → is_lt (value_cmp (Int (pos m)) (Int (pos n))) ≡ true → m < n
is_below m n low = from (nat_cmp m n) refl (sym (ap is_lt (value_cmp-Int (pos m) (pos n) ∙ ints_order m n)) ∙ low)
  where
    from : (o : Ordering) → nat_cmp m n ≡ o → is_lt (nat_cmp m n) ≡ true → m < n
    from Less is low = is_less m n is
    from Equal is low = let e : false ≡ true = sym (ap is_lt is) ∙ low in absurd (cc)
    from Greater is low = let e : false ≡ true = sym (ap is_lt is) ∙ low in absurd (cc)

pub below_is : (m n : ℕ) → m < n → is_lt (value_cmp (Int (pos m)) (Int (pos n))) ≡ true
below_is m n low = ap is_lt (value_cmp-Int (pos m) (pos n) ∙ ints_order m n ∙ less_is m n low)

pub is_from : (m n : ℕ) → is_lt (value_cmp (Int (pos m)) (Int (pos n))) ≡ false → n ≤ m
is_from m n from = elim (cases_lt m n) [
  | inl low ↦ let e : true ≡ false = sym (below_is m n low) ∙ from in absurd (cc)
  | inr up ↦ up
]

pub from_is : (m n : ℕ) → n ≤ m → is_lt (value_cmp (Int (pos m)) (Int (pos n))) ≡ false
from_is m n up = from (is_lt (value_cmp (Int (pos m)) (Int (pos n)))) refl
  where
    from : (b : Bool) → is_lt (value_cmp (Int (pos m)) (Int (pos n))) ≡ b → is_lt (value_cmp (Int (pos m)) (Int (pos n))) ≡ false
    from true is = absurd (let low = is_below m n is in omega arith)
    from false is = is

-- an integer that isn't below a number is one itself
pub number_from : (z : ℤ) (n : ℕ) → is_lt (value_cmp (Int z) (Int (pos n))) ≡ false → (m : ℕ) × (z ≡ pos m) × (n ≤ m)
number_from (pos m) n from = (m, refl, is_from m n from)
number_from (negsuc m) n from = let e : true ≡ false = sym (ap is_lt (value_cmp-Int (negsuc m) (pos n))) ∙ from in absurd (cc)

pub text_below : (s t : List ℕ) → is_lt (value_cmp (Text s) (Text t)) ≡ true → slice_cmp nat_cmp s t ≡ Less
text_below s t low = from (slice_cmp nat_cmp s t) refl (sym (ap is_lt (value_cmp-Text s t)) ∙ low)
  where
    from : (o : Ordering) → slice_cmp nat_cmp s t ≡ o → is_lt (slice_cmp nat_cmp s t) ≡ true → slice_cmp nat_cmp s t ≡ Less
    from Less is low = is
    from Equal is low = let e : false ≡ true = sym (ap is_lt is) ∙ low in absurd (cc)
    from Greater is low = let e : false ≡ true = sym (ap is_lt is) ∙ low in absurd (cc)

module _ (s : State) (store : IsStore s) (db : ℤ) (index : ℕ) (register : Register) where
  abbrev pub Leaves : Row → Type 0
  Leaves = IsLeafOf s.now.trees db (key_in index register [])

  abbrev pub Rest : Row → Type 0
  Rest = IsRest blocks_tree (register_front db index register) s.now.trees

  abbrev pub Shape : Row → Type 0
  Shape row = (t : List ℕ) × (b : ℕ) × (d : List ℕ) × (row ≡ leaf_row t b d)

  -- a row of the register from a block on
  pub shape_from : (row : Row) (n : ℕ) → Rest row → HasBlockFrom n row → (t : List ℕ) × (b : ℕ) × (d : List ℕ) × (row ≡ leaf_row t b d) × (n ≤ b)
  shape_from row n there from =
      let it = shown_row s store db (pos index) (pos (register_code register)) row there in
      let number = number_from it.1 n (sym (ap (λ (r : Row). is_lt (value_cmp (column r 1) (Int (pos n)))) it.3) ∙ from) in
      (it.0, number.0, it.2, it.3 ∙ ap (λ z. Text it.0 ∷ Int z ∷ Blob it.2 ∷ []) number.1, number.2)

  pub leaf_from : (row : Row) (n : ℕ) → Rest row → HasBlockFrom n row → Leaves row
  leaf_from row n there from = let it = shape_from row n there from in (there, it.1, ap (λ (r : Row). column r 1) it.3)

  pub from_leaf : (row : Row) (n : ℕ) → (there : Leaves row) → n ≤ there.1 → HasBlockFrom n row
  from_leaf row n there up = ap (λ v. is_lt (value_cmp v (Int (pos n)))) there.2 ∙ from_is there.1 n up

  pub leaf_shape : (row : Row) → Leaves row → Shape row
  leaf_shape row there = let it = shape_from row 0 there.0 (from_leaf row 0 there (omega arith)) in (it.0, it.1, it.2, it.3)

  module _ (term : List ℕ) (block : ℕ) where
    abbrev pub key : Row
    key = leaf_key term block

    abbrev pub OfTerm : Row → Type 0
    OfTerm row = Rest row × (column row 0 ≡ Text term) × HasBlockFrom 0 row × (is_lt (value_cmp (column row 1) (Int (pos (block + 1)))) ≡ true)

    abbrev pub OfTermsBelow : Row → Type 0
    OfTermsBelow row = Rest row × (is_lt (value_cmp (column row 0) (Text term)) ≡ true) × HasBlockFrom 0 row

    -- how the own key of a leaf lies to the key
    pub ordered : (row : Row) (it : Shape row) → row_cmp (own_key row) key ≡ ordering_then (slice_cmp nat_cmp it.0 term) (nat_cmp it.1 block)
    ordered row it = ap (λ (r : Row). row_cmp (own_key r) key) it.3 ∙ key_order it.0 term it.1 block

    -- a leaf up to the key is of its term, or of one below
    pub parted : (row : Row) → Leaves row → IsUpTo key row → OfTerm row ⊎ OfTermsBelow row
    parted row there up =
        let it = leaf_shape row there in
        let from = from_leaf row 0 there (omega arith) in
        let by : (o : Ordering) → slice_cmp nat_cmp it.0 term ≡ o → OfTerm row ⊎ OfTermsBelow row = λ o is. at it.0 it.1 (λ above. up (ordered row it ∙ above)) it.3 from o is in
        by (slice_cmp nat_cmp it.0 term) refl
      where
        at : (t : List ℕ) (b : ℕ) {d : List ℕ} → (ordering_then (slice_cmp nat_cmp t term) (nat_cmp b block) ≢ Greater) → row ≡ leaf_row t b d → HasBlockFrom 0 row → (o : Ordering) → slice_cmp nat_cmp t term ≡ o → OfTerm row ⊎ OfTermsBelow row
        at t b up is from Less low = inr (there.0, ap (λ (r : Row). is_lt (value_cmp (column r 0) (Text term))) is ∙ ap is_lt (value_cmp-Text t term ∙ low), from)
        at t b up is from Greater high = absurd (up (ap (λ o. ordering_then o (nat_cmp b block)) high))
        at t b up is from Equal same = elim (cases_lt block b) [
          | inl high ↦ absurd (up (ap (λ o. ordering_then o (nat_cmp b block)) same ∙ greater_is b block high))
          | inr low ↦ inl (
            there.0,
            ap (λ (r : Row). column r 0) is ∙ ap Text (texts_apart t term same),
            from,
            ap (λ (r : Row). is_lt (value_cmp (column r 1) (Int (pos (block + 1))))) is ∙ below_is b (block + 1) (omega (arith, low)),
          )
        ]

    pub of_term_up : (row : Row) → OfTerm row → Leaves row × IsUpTo key row
    of_term_up row it =
        let shape = shape_from row 0 it.0 it.2 in
        let term_is : Text shape.0 ≡ Text term = sym (ap (λ (r : Row). column r 0) shape.3) ∙ it.1 in
        let same : shape.0 ≡ term = cc in
        let low : shape.1 < block + 1 = is_below shape.1 (block + 1) (sym (ap (λ (r : Row). is_lt (value_cmp (column r 1) (Int (pos (block + 1))))) shape.3) ∙ it.3) in (
          leaf_from row 0 it.0 it.2,
          λ above. up_to_block term shape.1 block (omega (arith, low)) (sym (ap (λ (r : Row). row_cmp (own_key r) key) shape.3 ∙ ap (λ t. row_cmp (leaf_key t shape.1) key) same) ∙ above),
        )

    pub below_is_lower : (row : Row) → OfTermsBelow row → (it : Shape row) × (slice_cmp nat_cmp it.0 term ≡ Less)
    below_is_lower row it =
        let shape = shape_from row 0 it.0 it.2 in
        ((shape.0, shape.1, shape.2, shape.3), text_below shape.0 term (sym (ap (λ (r : Row). is_lt (value_cmp (column r 0) (Text term))) shape.3) ∙ it.1))

    pub below_up : (row : Row) → OfTermsBelow row → Leaves row × IsUpTo key row
    below_up row it =
        let low = below_is_lower row it in (
          leaf_from row 0 it.0 it.2,
          λ above. let e : Less ≡ Greater = sym (ap (λ o. ordering_then o (nat_cmp low.0.1 block)) low.1) ∙ sym (ordered row low.0) ∙ above in cc,
        )

    -- those of terms below are below those of the term
    pub below_of_term : (row other : Row) → OfTerm row → OfTermsBelow other → IsUpTo (own_key row) other
    below_of_term row other it lower above =
        let low = below_is_lower other lower in
        let shape = shape_from row 0 it.0 it.2 in
        let term_is : Text shape.0 ≡ Text term = sym (ap (λ (r : Row). column r 0) shape.3) ∙ it.1 in
        let same : shape.0 ≡ term = cc in
        let keys : row_cmp (own_key other) (own_key row) ≡ ordering_then (slice_cmp nat_cmp low.0.0 term) (nat_cmp low.0.1 shape.1) =
        ap (λ (r : Row). row_cmp (own_key r) (own_key row)) low.0.3 ∙ ap (λ (r : Row). row_cmp (leaf_key low.0.0 low.0.1) (own_key r)) shape.3 ∙ key_order low.0.0 shape.0 low.0.1 shape.1
        ∙ ap (λ t. ordering_then (slice_cmp nat_cmp low.0.0 t) (nat_cmp low.0.1 shape.1)) same in
        let e : Less ≡ Greater = sym (ap (λ o. ordering_then o (nat_cmp low.0.1 shape.1)) low.1) ∙ sym keys ∙ above in
        cc

    -- ---- by the rows that are found

    pub covers_own : (row : Row) → IsGreatest OfTerm (Some row) → Covers Leaves key row
    covers_own row it = record {
      is = (of_term_up row it.0).0;
      up_to = (of_term_up row it.0).1;
      greatest = λ other there up. elim (parted other there up) [ inl one ↦ it.1 other one | inr two ↦ below_of_term row other it.0 two ];
    }

    pub covers_below : IsGreatest OfTerm None → (found : Option Row) → IsGreatest OfTermsBelow found → IsCovering Leaves key found
    covers_below none (Some row) it = record {
      is = (below_up row it.0).0;
      up_to = (below_up row it.0).1;
      greatest = λ other there up. elim (parted other there up) [ inl one ↦ absurd (none other one) | inr two ↦ it.1 other two ];
    }
    covers_below none None lower = λ leaf there up. elim (parted leaf there up) [ inl one ↦ none leaf one | inr two ↦ lower leaf two ]

  -- a leaf is a row of the register whose block isn't negative
  pub some_leaf : (row : Row) → Rest row × HasBlockFrom 0 row → Leaves row
  some_leaf row it = leaf_from row 0 it.0 it.1

  pub leaf_some : (row : Row) → Leaves row → Rest row × HasBlockFrom 0 row
  leaf_some row there = (there.0, from_leaf row 0 there (omega arith))

-- ---- one row that is shown

pub never_last : (row : Row) → IsLastOf [] (Some row) → ⊥
never_last row is = from is.0 is.1
  where
    from : (front : List Row) → [] ≡ front ++ row ∷ [] → ⊥
    from [] e = cc
    from (x ∷ front) e = cc

pub shown_first : (Before : Row → Row → Type 0) (P : Row → Type 0) (rows : List Row) (found : Option Row) → IsLastOf rows found → ShowsFirst Before P rows → IsFirst Before P found
shown_first Before P [] None is none = none
shown_first Before P (r ∷ rows) None is it = absurd (let e : r ∷ rows ≡ [] = is in cc)
shown_first Before P [] (Some row) is none = absurd (never_last row is)
shown_first Before P (r ∷ rows) (Some row) is it =
    let same : r ≡ row = same_last [] is.0 r row (sym (ap (λ l. r ∷ l) it.0) ∙ is.1) in
    (subst P same it.1, subst (λ (x : Row). (other : Row) → P other → Before x other) same it.2)

pub shown_greatest : (P : Row → Type 0) (rows : List Row) (found : Option Row) → IsLastOf rows found → ShowsGreatest P rows → IsGreatest P found
shown_greatest = shown_first (λ row other. IsUpTo (own_key row) other)

pub uncovered : (Leaves : Row → Type 0) (key : Row) → ((leaf : Row) → Leaves leaf → ¬ IsUpTo key leaf) → (leaf : Row) → Leaves leaf → IsUncovered Leaves key
uncovered Leaves sought none leaf there = (leaf, there, λ other covers. none other covers.is covers.up_to)
