-- The registers of tables that hold a content: the first leaf of each that has one has the least key.
use Rattle.zeb_register.proofs.Cited.{Row, column, row_cmp, Trees, ◌≡◌, ◌≢◌, ◌∙◌, ◌++◌, ◌∷◌, ℕ, zero, suc, ℤ, List, [], refl, ap, inl, inr, arith, Greater, nat_cmp, slice_cmp, ordering_then, Key, Content, register_front, leaf_key, own_key, HoldsLeaves, IsLeafOf, key_in}
use Rattle.zeb_register.proofs.KeyOrder.{greater_is, key_order}

-- no key is below the least one
least_key : (term : List ℕ) (block : ℕ) → ordering_then (slice_cmp nat_cmp term []) (nat_cmp block 0) ≢ Greater → leaf_key term block ≡ leaf_key [] 0
least_key [] zero up = refl
least_key [] (suc block) up = absurd (up (greater_is (suc block) 0 (omega arith)))
least_key (x ∷ term) block up = absurd (up refl)

module _ (trees : Trees) (content : Content) (holds : HoldsLeaves trees content) (db : ℤ) (key : Key) where
  abbrev Leaves : Row → Type 0
  Leaves = IsLeafOf trees db key

  -- a leaf's own key is that of a block of a term
  own_is : (leaf : Row) → Leaves leaf → (term : List ℕ) × (block : ℕ) × (own_key leaf ≡ leaf_key term block)
  own_is leaf there =
      let it = holds.alone.blocks (register_front db key.index key.register ++ leaf) there.0 in
      (it.1.term, it.2, ap (λ (r : Row). column r 3 ∷ column r 4 ∷ []) it.4)

  pub first_is_least : (leaf : Row) → Leaves leaf → (first : Row) × Leaves first × (own_key first ≡ leaf_key [] 0)
  first_is_least leaf there = elim (holds.reads db (key_in key.index key.register []) 0).1.covered [
    | inl it ↦
        let own = own_is it.0 it.1.is in
        (it.0, it.1.is, own.2 ∙ least_key own.0 own.1 (λ above. it.1.up_to (ap (λ k. row_cmp k (leaf_key [] 0)) own.2 ∙ key_order own.0 [] own.1 0 ∙ above)))
    | inr none ↦ absurd (none.1 leaf there)
  ]
