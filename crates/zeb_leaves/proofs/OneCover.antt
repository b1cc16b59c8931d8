-- The order of keys, and the one leaf that covers a key.
use Rattle.zeb_leaves.proofs.Cited.{Row, row_cmp, row_cmp_total, ◌≡◌, ◌≢◌, ◌∙◌, ℕ, List, refl, sym, ap, subst, inl, Ordering, Less, Equal, Greater, nat_cmp, slice_cmp, ordering_then, ordering_reverse, tied_itself, numbers_apart, Entry, Covers, HasEntriesAt, IsUpTo, ShowsEntries, leaf_key, own_key, texts_apart, leaf_row}
use Rattle.zeb_register.proofs.KeyOrder.{key_order}

-- ---- the order of keys

-- what is up to a key is up to each that it is up to
pub up_to_then : (x y z : Row) → row_cmp x y ≢ Greater → row_cmp y z ≢ Greater → row_cmp x z ≢ Greater
up_to_then x y z low up above = from (row_cmp x y) refl (row_cmp y z) refl
  where
    from : (o : Ordering) → row_cmp x y ≡ o → (p : Ordering) → row_cmp y z ≡ p → ⊥
    from Greater is p then' = low is
    from Equal is p then' = up (sym (row_cmp_total.congr x y z is) ∙ above)
    from Less is Greater then' = up then'
    from Less is Less then' = let e : Less ≡ Greater = sym (row_cmp_total.trans x y z is then') ∙ above in cc
    from Less is Equal then' =
        let back : row_cmp y x ≡ Less = row_cmp_total.congr y z x then' ∙ row_cmp_total.antisymm z x ∙ ap ordering_reverse above in
        let e : Less ≡ Greater = sym is ∙ row_cmp_total.antisymm x y ∙ ap ordering_reverse back in
        cc

-- two keys that are up to each other are one
same_pair : (o p : Ordering) → ordering_then o p ≢ Greater → ordering_reverse (ordering_then o p) ≢ Greater → (o ≡ Equal) × (p ≡ Equal)
same_pair Less p low up = absurd (up refl)
same_pair Greater p low up = absurd (low refl)
same_pair Equal Less low up = absurd (up refl)
same_pair Equal Greater low up = absurd (low refl)
same_pair Equal Equal low up = (refl, refl)

pub same_key : (s t : List ℕ) (b c : ℕ) → row_cmp (leaf_key s b) (leaf_key t c) ≢ Greater → row_cmp (leaf_key t c) (leaf_key s b) ≢ Greater → leaf_key s b ≡ leaf_key t c
same_key s t b c low up =
    let order = key_order s t b c in
    let both = same_pair (slice_cmp nat_cmp s t) (nat_cmp b c) (λ above. low (order ∙ above)) (λ above. up (row_cmp_total.antisymm (leaf_key t c) (leaf_key s b) ∙ ap ordering_reverse order ∙ above)) in
    ap (λ u. leaf_key u b) (texts_apart s t both.0) ∙ ap (leaf_key t) (numbers_apart b c both.1)

module _ (Leaves : Row → Type 0) (shaped : (leaf : Row) → Leaves leaf → (t : List ℕ) × (b : ℕ) × (d : List ℕ) × (leaf ≡ leaf_row t b d)) (one : (x y : Row) → Leaves x → Leaves y → own_key x ≡ own_key y → x ≡ y) where
  -- a leaf's own key
  own_is : (leaf : Row) (there : Leaves leaf) → own_key leaf ≡ leaf_key (shaped leaf there).0 (shaped leaf there).1
  own_is leaf there = ap own_key (shaped leaf there).3

  -- one leaf covers a key
  pub one_cover : (key x y : Row) → Covers Leaves key x → Covers Leaves key y → x ≡ y
  one_cover key x y left right =
      let a = shaped x left.is in
      let b = shaped y right.is in
      let keys = same_key a.0 b.0 a.1 b.1
      (λ above. right.greatest x left.is left.up_to (ap (λ (k : Row). row_cmp k (own_key y)) (own_is x left.is) ∙ ap (row_cmp (leaf_key a.0 a.1)) (own_is y right.is) ∙ above))
      (λ above. left.greatest y right.is right.up_to (ap (λ (k : Row). row_cmp k (own_key x)) (own_is y right.is) ∙ ap (row_cmp (leaf_key b.0 b.1)) (own_is x left.is) ∙ above)) in
      one x y left.is right.is (own_is x left.is ∙ keys ∙ sym (own_is y right.is))

  -- and so the key has the entries that it shows
  pub entries_at : (key leaf : Row) (entries : List Entry) → Covers Leaves key leaf → ShowsEntries leaf entries → HasEntriesAt Leaves key entries
  entries_at key leaf entries covers shows = record {
    shown = λ other also. subst (λ (r : Row). ShowsEntries r entries) (one_cover key leaf other covers also) shows;
    covered = inl (leaf, covers);
  }

  -- a leaf covers its own key
  pub covers_itself : (leaf : Row) → Leaves leaf → (term : List ℕ) (block : ℕ) → own_key leaf ≡ leaf_key term block → Covers Leaves (leaf_key term block) leaf
  covers_itself leaf there term block own = record {
    is = there;
    up_to = λ above. let e : Equal ≡ Greater = sym (tied_itself row_cmp_total (leaf_key term block)) ∙ sym (ap (λ (k : Row). row_cmp k (leaf_key term block)) own) ∙ above in cc;
    greatest = λ other also up. subst (λ (k : Row). IsUpTo k other) (sym own) up;
  }
