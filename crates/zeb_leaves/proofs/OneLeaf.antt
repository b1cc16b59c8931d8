-- The leaves of a register in a store: each has a key of its own.
use Rattle.zeb_leaves.proofs.Cited.{Row, column, Int, Text, ◌≡◌, ◌∙◌, ◌++◌, ◌∷◌, ℕ, ℤ, pos, List, [], drop, refl, sym, ap, subst, inl, State, Register, IsRest, IsStore, blocks_tree, leaf_key, own_key, register_front, leaf_row, blocks, blocks_keys, blocks_static}
use Rattle.zeb_leaf_rows.proofs.CoveringLeaves.{Leaves, leaf_shape}
use Rattle.zeb_register.proofs.SharedKeys.{single}

module _ (s : State) (store : IsStore s) (db : ℤ) (index : ℕ) (register : Register) where
  abbrev Rest : Row → Type 0
  Rest = IsRest blocks_tree (register_front db index register) s.now.trees

  -- two leaves with one key are one
  same_row : (t : List ℕ) (b : ℕ) (d e : List ℕ) → Rest (leaf_row t b d) → Rest (leaf_row t b e) → leaf_row t b d ≡ leaf_row t b e
  same_row t b d e here there =
      let front = register_front db index register in
      let same = single 4 blocks blocks_static ((1 ∷ 2 ∷ 3 ∷ 4 ∷ 5 ∷ []) ∷ []) blocks_keys s store here.0 there.0 (front ++ leaf_row t b d) (front ++ leaf_row t b e) here.1 there.1
      (inl (refl, (refl, (refl, (refl, (refl, tt)))))) (inl (refl, (refl, (refl, (refl, (refl, tt)))))) in
      ap (drop 4) same

  pub one_leaf : (x y : Row) → Leaves s store db index register x → Leaves s store db index register y → own_key x ≡ own_key y → x ≡ y
  one_leaf x y left right own =
      let a = leaf_shape s store db index register x left in
      let b = leaf_shape s store db index register y right in
      let keys : leaf_key a.0 a.1 ≡ leaf_key b.0 b.1 = sym (ap own_key a.3) ∙ own ∙ ap own_key b.3 in
      let t : Text a.0 ≡ Text b.0 = ap (λ (k : Row). column k 0) keys in
      let n : Int (pos a.1) ≡ Int (pos b.1) = ap (λ (k : Row). column k 1) keys in
      let text : b.0 ≡ a.0 = cc in
      let number : b.1 ≡ a.1 = cc in
      let y_is : y ≡ leaf_row a.0 a.1 b.2 = b.3 ∙ ap (λ u. leaf_row u b.1 b.2) text ∙ ap (λ k. leaf_row a.0 k b.2) number in
      a.3 ∙ same_row a.0 a.1 a.2 b.2 (subst Rest a.3 left.0) (subst Rest y_is right.0) ∙ sym y_is
