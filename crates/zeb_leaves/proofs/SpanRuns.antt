-- The leaves that cover the blocks of neighbouring terms, one behind the other.
use Rattle.zeb_leaves.proofs.Cited.{Row, row_cmp, row_cmp_total, Has, all_has, Int, Text, Blob, ◌≡◌, ◌≢◌, ◌⊎◌, ◌∙◌, ◌++◌, ◌∷◌, ℕ, pos, false, true, List, [], refl, sym, ap, subst, inl, inr, arith, Ordering, Less, Equal, Greater, nat_cmp, nat_list_cmp_total, slice_cmp, ordering_then, ordering_reverse, tied_itself, less_is, never_itself, Covers, IsUpTo, leaf_key, own_key, value_cmp, zero, suc, is_lt, leaf_row, IsSpanLeaf, up_to, IsListOf}
use Rattle.std.specs.List.Sorted.{IsStrictlySortedBy}
use Rattle.zeb_register.proofs.KeyOrder.{greater_is, key_order}
use Rattle.zeb_leaves.proofs.OneCover.{same_key, up_to_then}

-- ---- the order of rows

pub flipped : (x y : Row) → row_cmp x y ≡ Greater → row_cmp y x ≡ Less
flipped x y above = row_cmp_total.antisymm y x ∙ ap ordering_reverse above

pub flipped_back : (x y : Row) → row_cmp x y ≡ Less → row_cmp y x ≡ Greater
flipped_back x y less = row_cmp_total.antisymm y x ∙ ap ordering_reverse less

-- what isn't below a key has it up to itself
pub not_less_up : (x y : Row) → row_cmp x y ≢ Less → row_cmp y x ≢ Greater
not_less_up x y from above = from (flipped y x above)

pub up_not_less : (x y : Row) → row_cmp y x ≢ Greater → row_cmp x y ≢ Less
up_not_less x y up less = up (flipped_back x y less)

pub up_less : (x y z : Row) → row_cmp x y ≢ Greater → row_cmp y z ≡ Less → row_cmp x z ≡ Less
up_less x y z up less = from (row_cmp x y) refl
  where
    from : (o : Ordering) → row_cmp x y ≡ o → row_cmp x z ≡ Less
    from Less is = row_cmp_total.trans x y z is less
    from Equal is = row_cmp_total.congr x y z is ∙ less
    from Greater is = absurd (up is)

pub less_up : (x y z : Row) → row_cmp x y ≡ Less → row_cmp y z ≢ Greater → row_cmp x z ≡ Less
less_up x y z less up = from (row_cmp y z) refl
  where
    from : (o : Ordering) → row_cmp y z ≡ o → row_cmp x z ≡ Less
    from Less is = row_cmp_total.trans x y z less is
    from Equal is = flipped z x (sym (row_cmp_total.congr y z x is) ∙ flipped_back x y less)
    from Greater is = absurd (up is)

pub up_itself : (x : Row) → row_cmp x x ≢ Greater
up_itself x above = let e : Equal ≡ Greater = sym (tied_itself row_cmp_total x) ∙ above in cc

-- a key is below another, or that is up to it
pub below_or : (x y : Row) → (row_cmp x y ≡ Less) ⊎ (row_cmp y x ≢ Greater)
below_or x y = from (row_cmp x y) refl
  where
    from : (o : Ordering) → row_cmp x y ≡ o → (row_cmp x y ≡ Less) ⊎ (row_cmp y x ≢ Greater)
    from Less is = inl is
    from Equal is = inr (not_less_up x y (λ less. let e : Equal ≡ Less = sym is ∙ less in cc))
    from Greater is = inr (not_less_up x y (λ less. let e : Greater ≡ Less = sym is ∙ less in cc))

front_up : (o p q : Ordering) → ordering_then o (ordering_then p q) ≡ Less → ordering_then o (ordering_then p Equal) ≢ Greater
front_up Less p q less above = let e : Less ≡ Greater = above in cc
front_up Greater p q less above = let e : Greater ≡ Less = less in cc
front_up Equal Less q less above = let e : Less ≡ Greater = above in cc
front_up Equal Equal q less above = let e : Equal ≡ Greater = above in cc
front_up Equal Greater q less above = let e : Greater ≡ Less = less in cc

-- the own keys of rising rows don't fall
pub rows_up : (t s : List ℕ) (b c : ℕ) (d e : List ℕ) → row_cmp (leaf_row t b d) (leaf_row s c e) ≡ Less → row_cmp (leaf_key t b) (leaf_key s c) ≢ Greater
rows_up t s b c d e less = front_up (value_cmp (Text t) (Text s)) (value_cmp (Int (pos b)) (Int (pos c))) (ordering_then (value_cmp (Blob d) (Blob e)) Equal) less

-- ---- keys and their terms

-- a key from the first block of a text on has no term below the text
pub term_from : (first s : List ℕ) (c : ℕ) → row_cmp (leaf_key first 0) (leaf_key s c) ≢ Greater → is_lt (slice_cmp nat_cmp s first) ≡ false
term_from first s c up = from (slice_cmp nat_cmp s first) refl
  where
    from : (o : Ordering) → slice_cmp nat_cmp s first ≡ o → is_lt (slice_cmp nat_cmp s first) ≡ false
    from Less is =
        let back : slice_cmp nat_cmp first s ≡ Greater = nat_list_cmp_total.antisymm first s ∙ ap ordering_reverse is in
        absurd (up (key_order first s 0 c ∙ ap (λ o. ordering_then o (nat_cmp 0 c)) back))
    from Equal is = ap is_lt is
    from Greater is = ap is_lt is

-- and each key of such a term stands from there on
pub from_term : (first s : List ℕ) (c : ℕ) → is_lt (slice_cmp nat_cmp s first) ≡ false → row_cmp (leaf_key first 0) (leaf_key s c) ≢ Greater
from_term first s c from above = at (slice_cmp nat_cmp s first) refl
  where
    whole : ordering_then (slice_cmp nat_cmp first s) (nat_cmp 0 c) ≡ Greater
    whole = sym (key_order first s 0 c) ∙ above

    zero_up : (n : ℕ) → nat_cmp 0 n ≢ Greater
    zero_up zero is = let e : Equal ≡ Greater = is in cc
    zero_up (suc n) is = let e : Less ≡ Greater = sym (less_is 0 (suc n) (omega arith)) ∙ is in cc

    at : (o : Ordering) → slice_cmp nat_cmp s first ≡ o → ⊥
    at Less is = let e : true ≡ false = sym (ap is_lt is) ∙ from in cc
    at Equal is =
        let back : slice_cmp nat_cmp first s ≡ Equal = nat_list_cmp_total.antisymm first s ∙ ap ordering_reverse is in
        zero_up c (sym (ap (λ o. ordering_then o (nat_cmp 0 c)) back) ∙ whole)
    at Greater is =
        let back : slice_cmp nat_cmp first s ≡ Less = nat_list_cmp_total.antisymm first s ∙ ap ordering_reverse is in
        let e : Less ≡ Greater = sym (ap (λ o. ordering_then o (nat_cmp 0 c)) back) ∙ whole in cc

-- the term of a key that is up to another is up to the other's term
pub term_up : (s u : List ℕ) (c n : ℕ) → row_cmp (leaf_key s c) (leaf_key u n) ≢ Greater → slice_cmp nat_cmp s u ≢ Greater
term_up s u c n up above = up (key_order s u c n ∙ ap (λ o. ordering_then o (nat_cmp c n)) above)

-- a text that is up to one that isn't above the last isn't above it either
pub last_up : (last s u : List ℕ) → slice_cmp nat_cmp s u ≢ Greater → is_lt (slice_cmp nat_cmp last u) ≡ false → is_lt (slice_cmp nat_cmp last s) ≡ false
last_up last s u up below = from (slice_cmp nat_cmp last s) refl
  where
    beyond : slice_cmp nat_cmp last s ≡ Less → (o : Ordering) → slice_cmp nat_cmp s u ≡ o → slice_cmp nat_cmp last u ≡ Less
    beyond less Less is = nat_list_cmp_total.trans last s u less is
    beyond less Equal is =
        let back : slice_cmp nat_cmp s last ≡ Greater = nat_list_cmp_total.antisymm s last ∙ ap ordering_reverse less in
        nat_list_cmp_total.antisymm last u ∙ ap ordering_reverse (sym (nat_list_cmp_total.congr s u last is) ∙ back)
    beyond less Greater is = absurd (up is)

    from : (o : Ordering) → slice_cmp nat_cmp last s ≡ o → is_lt (slice_cmp nat_cmp last s) ≡ false
    from Less is = let e : true ≡ false = sym (ap is_lt (beyond is (slice_cmp nat_cmp s u) refl)) ∙ below in absurd (cc)
    from Equal is = ap is_lt is
    from Greater is = ap is_lt is

-- a key is below the least text above the last just where its term isn't above the last
pub below_end : (last u : List ℕ) (n : ℕ) → is_lt (slice_cmp nat_cmp last u) ≡ false → ordering_then (slice_cmp nat_cmp u (last ++ 0 ∷ [])) (nat_cmp n 0) ≡ Less
below_end last u n below = from (slice_cmp nat_cmp u (last ++ 0 ∷ [])) refl ((up_to last u).1 below)
  where
    from : (o : Ordering) → slice_cmp nat_cmp u (last ++ 0 ∷ []) ≡ o → is_lt (slice_cmp nat_cmp u (last ++ 0 ∷ [])) ≡ true → ordering_then (slice_cmp nat_cmp u (last ++ 0 ∷ [])) (nat_cmp n 0) ≡ Less
    from Less is low = ap (λ o. ordering_then o (nat_cmp n 0)) is
    from Equal is low = let e : false ≡ true = sym (ap is_lt is) ∙ low in absurd (cc)
    from Greater is low = let e : false ≡ true = sym (ap is_lt is) ∙ low in absurd (cc)

pub end_above : (last u : List ℕ) (n : ℕ) → ordering_then (slice_cmp nat_cmp u (last ++ 0 ∷ [])) (nat_cmp n 0) ≡ Less → is_lt (slice_cmp nat_cmp last u) ≡ false
end_above last u n less = from (slice_cmp nat_cmp u (last ++ 0 ∷ [])) refl
  where
    none_below : (m : ℕ) → nat_cmp m 0 ≢ Less
    none_below zero is = let e : Equal ≡ Less = is in cc
    none_below (suc m) is = let e : Greater ≡ Less = sym (greater_is (suc m) 0 (omega arith)) ∙ is in cc

    from : (o : Ordering) → slice_cmp nat_cmp u (last ++ 0 ∷ []) ≡ o → is_lt (slice_cmp nat_cmp last u) ≡ false
    from Less is = (up_to last u).0 (ap is_lt is)
    from Equal is = absurd (none_below n (sym (ap (λ o. ordering_then o (nat_cmp n 0)) is) ∙ less))
    from Greater is = absurd (let e : Greater ≡ Less = sym (ap (λ o. ordering_then o (nat_cmp n 0)) is) ∙ less in cc)

-- ---- leaves

module _ (Leaves : Row → Type 0) where
  -- a leaf covers each key from one that it covers on, where no leaf stands between
  pub covers_key : (leaf from key : Row) → Covers Leaves from leaf → row_cmp from key ≢ Greater → ((other : Row) → Leaves other → row_cmp from (own_key other) ≡ Less → IsUpTo key other → ⊥) → Covers Leaves key leaf
  covers_key leaf from key covers up none = record {
    is = covers.is;
    up_to = up_to_then (own_key leaf) from key covers.up_to up;
    greatest = λ other there other_up. covers.greatest other there (λ above. none other there (flipped (own_key other) from above) other_up);
  }

  module _ (shaped : (leaf : Row) → Leaves leaf → (t : List ℕ) × (b : ℕ) × (d : List ℕ) × (leaf ≡ leaf_row t b d)) (one : (x y : Row) → Leaves x → Leaves y → own_key x ≡ own_key y → x ≡ y) (first last : List ℕ) where
    module _ (Low : Row → Type 0) (next : Row) (rows : List Row) (listed : IsListOf (IsSpanLeaf Leaves first last Low) (next ∷ rows)) where
      pub first_is : IsSpanLeaf Leaves first last Low next
      first_is = (listed.each next).0 (inl refl)

      -- it is the least of them
      pub first_least : (other : Row) → IsSpanLeaf Leaves first last Low other → row_cmp (own_key next) (own_key other) ≢ Greater
      unfolding IsStrictlySortedBy
      first_least other is = elim ((listed.each other).1 is) [
        | inl same ↦ subst (λ (r : Row). row_cmp (own_key next) (own_key r) ≢ Greater) (sym same) (up_itself (own_key next))
        | inr later ↦
            let less = all_has (λ r. row_cmp next r ≡ Less) rows other listed.rising.0 later in
            let a = shaped next first_is.0 in
            let b = shaped other is.0 in
            let rows_less = sym (ap (λ r. row_cmp r other) a.3 ∙ ap (row_cmp (leaf_row a.0 a.1 a.2)) b.3) ∙ less in
            λ above. rows_up a.0 b.0 a.1 b.1 a.2 b.2 rows_less (sym (ap (λ r. row_cmp (own_key r) (own_key other)) a.3 ∙ ap (λ r. row_cmp (leaf_key a.0 a.1) (own_key r)) b.3) ∙ above)
      ]

      -- those behind it have greater keys
      behind_by : (row : Row) → Has rows row → IsSpanLeaf Leaves first last Low row → (o : Ordering) → row_cmp (own_key next) (own_key row) ≡ o → row_cmp (own_key next) (own_key row) ≡ Less
      unfolding IsStrictlySortedBy
      behind_by row here is Less it = it
      behind_by row here is Greater it = absurd (first_least row is it)
      behind_by row here is Equal it =
          let a = shaped next first_is.0 in
          let b = shaped row is.0 in
          let tied : row_cmp (leaf_key a.0 a.1) (leaf_key b.0 b.1) ≡ Equal = sym (ap (λ r. row_cmp (own_key r) (own_key row)) a.3 ∙ ap (λ r. row_cmp (leaf_key a.0 a.1) (own_key r)) b.3) ∙ it in
          let keys = same_key a.0 b.0 a.1 b.1 (λ above. let e : Equal ≡ Greater = sym tied ∙ above in cc) (λ above. let e : Equal ≡ Greater = sym (row_cmp_total.antisymm (leaf_key b.0 b.1) (leaf_key a.0 a.1) ∙ ap ordering_reverse tied) ∙ above in cc) in
          let same : next ≡ row = one next row first_is.0 is.0 (ap own_key a.3 ∙ keys ∙ sym (ap own_key b.3)) in
          absurd (never_itself row_cmp_total next (subst (λ (r : Row). row_cmp next r ≡ Less) (sym same) (all_has (λ r. row_cmp next r ≡ Less) rows row listed.rising.0 here)))

      behind_first : (row : Row) → Has rows row → row_cmp (own_key next) (own_key row) ≡ Less
      behind_first row here = behind_by row here ((listed.each row).0 (inr here)) (row_cmp (own_key next) (own_key row)) refl

      pub behind_listed : ((row : Row) → row_cmp (own_key next) (own_key row) ≡ Less → Low row) → IsListOf (IsSpanLeaf Leaves first last (λ row. row_cmp (own_key next) (own_key row) ≡ Less)) rows
      unfolding IsStrictlySortedBy
      behind_listed low = record {
        each = λ row. (
          λ here. let is = (listed.each row).0 (inr here) in (is.0, is.1, is.2, is.3, is.4, behind_first row here),
          λ is. elim ((listed.each row).1 (is.0, is.1, is.2, is.3, is.4, low row is.5)) [
            | inl same ↦ absurd (never_itself row_cmp_total (own_key next) (subst (λ (r : Row). row_cmp (own_key next) (own_key r) ≡ Less) same is.5))
            | inr later ↦ later
          ],
        );
        rising = listed.rising.1;
      }
