-- The leaf that covers a key, and the one behind it, each by the one leaf that stands next to the key's term.
use Rattle.zeb_leaves.proofs.Cited.{Row, column, row_cmp, row_cmp_total, Text, ◌≡◌, ◌≢◌, ◌∙◌, ◌++◌, ◌∷◌, ℕ, ℤ, Some, None, Option, true, false, List, [], refl, sym, ap, arith, Ordering, Less, Equal, Greater, nat_cmp, nat_list_cmp_total, slice_cmp, ordering_reverse, ordering_then, value_cmp-Text, IsCovering, IsGreatest, IsLeast, IsNextBehind, IsUpTo, HasBlockFrom, leaf_key, own_key, IsRest, IsStore, State, blocks_tree, Register, register_front, value_cmp, is_lt, key_cmp, ShowsKey, up_to}
use Rattle.zeb_register.proofs.KeyOrder.{key_order}
use Rattle.zeb_leaf_rows.proofs.CoveringLeaves.{Leaves, from_leaf, leaf_from, leaf_shape}
use Rattle.zeb_leaves.proofs.LeavesBehind.{above_is}
use Rattle.zeb_leaves.proofs.OwnLeaves.{lt_less}

-- ---- a key beside the own key that a leaf shows

module _ (term : List ℕ) (block : ℕ) (leaf : Row) (t : List ℕ) (b : ℕ) (shows : ShowsKey leaf t b) where
  pub shown_up : is_lt (key_cmp term block t b) ≡ false → IsUpTo (leaf_key term block) leaf
  shown_up up above =
      let back : row_cmp (leaf_key t b) (leaf_key term block) ≡ Greater = ap (λ (k : Row). row_cmp k (leaf_key term block)) (sym shows) ∙ above in
      let less : key_cmp term block t b ≡ Less = sym (key_order term t block b) ∙ row_cmp_total.antisymm (leaf_key term block) (leaf_key t b) ∙ ap ordering_reverse back in
      let e : true ≡ false = sym (ap is_lt less) ∙ up in
      cc

  pub shown_above : is_lt (key_cmp term block t b) ≡ true → ¬ IsUpTo (leaf_key term block) leaf
  shown_above low up =
      up (ap (λ (k : Row). row_cmp k (leaf_key term block)) shows ∙ row_cmp_total.antisymm (leaf_key t b) (leaf_key term block) ∙ ap ordering_reverse (key_order term t block b ∙ lt_less (key_cmp term block t b) low))

module _ (s : State) (store : IsStore s) (db : ℤ) (index : ℕ) (register : Register) (term : List ℕ) (block : ℕ) where
  abbrev Found : Row → Type 0
  Found = Leaves s store db index register

  abbrev Rest : Row → Type 0
  Rest = IsRest blocks_tree (register_front db index register) s.now.trees

  abbrev key : Row
  key = leaf_key term block

  abbrev UpToTerm : Row → Type 0
  UpToTerm row = Rest row × (is_lt (value_cmp (column row 0) (Text (term ++ 0 ∷ []))) ≡ true) × HasBlockFrom 0 row

  abbrev FromTerm : Row → Type 0
  FromTerm row = Rest row × (is_lt (value_cmp (column row 0) (Text term)) ≡ false) × HasBlockFrom 0 row

  -- the term of a leaf, and how its own key lies to the key
  lies : (row : Row) → Found row → (t : List ℕ) × (b : ℕ) × (column row 0 ≡ Text t) × (row_cmp (own_key row) key ≡ ordering_then (slice_cmp nat_cmp t term) (nat_cmp b block))
  lies row there =
      let it = leaf_shape s store db index register row there in
      (it.0, it.1, ap (λ (r : Row). column r 0) it.3, ap (λ (r : Row). row_cmp (own_key r) key) it.3 ∙ key_order it.0 term it.1 block)

  from_zero : (row : Row) → Found row → HasBlockFrom 0 row
  from_zero row there = from_leaf s store db index register row 0 there (omega arith)

  -- ---- a leaf up to the key has a term up to the key's

  texts_up : (t : List ℕ) (b : ℕ) (o : Ordering) → slice_cmp nat_cmp t term ≡ o → ordering_then o (nat_cmp b block) ≢ Greater → is_lt (slice_cmp nat_cmp term t) ≡ false
  texts_up t b Less is up = ap is_lt (nat_list_cmp_total.antisymm term t ∙ ap ordering_reverse is)
  texts_up t b Equal is up = ap is_lt (nat_list_cmp_total.antisymm term t ∙ ap ordering_reverse is)
  texts_up t b Greater is up = absurd (up refl)

  up_is : (row : Row) → Found row → IsUpTo key row → UpToTerm row
  up_is row there up =
      let it = lies row there in
      let low = texts_up it.0 it.1 (slice_cmp nat_cmp it.0 term) refl (λ above. up (it.3 ∙ above)) in
      (there.0, ap (λ v. is_lt (value_cmp v (Text (term ++ 0 ∷ [])))) it.2 ∙ ap is_lt (value_cmp-Text it.0 (term ++ 0 ∷ [])) ∙ (up_to term it.0).1 low, from_zero row there)

  pub covers_up_to : (found : Option Row) → IsGreatest UpToTerm found → ((leaf : Row) → found ≡ Some leaf → IsUpTo key leaf) → IsCovering Found key found
  covers_up_to (Some row) it up = record {
    is = leaf_from s store db index register row 0 it.0.0 it.0.2;
    up_to = up row refl;
    greatest = λ other there below. it.1 other (up_is other there below);
  }
  covers_up_to None none up = λ leaf there below. none leaf (up_is leaf there below)

  -- ---- a leaf above the key has a term from the key's on

  texts_from : (t : List ℕ) (b : ℕ) (o : Ordering) → slice_cmp nat_cmp t term ≡ o → ordering_then o (nat_cmp b block) ≡ Greater → is_lt (slice_cmp nat_cmp t term) ≡ false
  texts_from t b Less is above = let e : Less ≡ Greater = above in absurd (cc)
  texts_from t b Equal is above = ap is_lt is
  texts_from t b Greater is above = ap is_lt is

  behind_is : (row : Row) → Found row → ¬ IsUpTo key row → FromTerm row
  behind_is row there behind =
      let it = lies row there in
      let high = texts_from it.0 it.1 (slice_cmp nat_cmp it.0 term) refl (sym it.3 ∙ above_is (own_key row) key behind) in
      (there.0, ap (λ v. is_lt (value_cmp v (Text term))) it.2 ∙ ap is_lt (value_cmp-Text it.0 term) ∙ high, from_zero row there)

  pub behind_from : (found : Option Row) → IsLeast FromTerm found → ((leaf : Row) → found ≡ Some leaf → ¬ IsUpTo key leaf) → IsNextBehind Found key found
  behind_from (Some row) it above = (leaf_from s store db index register row 0 it.0.0 it.0.2, above row refl, λ other there behind. it.1 other (behind_is other there behind))
  behind_from None none above = λ leaf there behind. none leaf (behind_is leaf there (λ up. up behind))
