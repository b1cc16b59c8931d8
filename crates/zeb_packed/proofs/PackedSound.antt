-- Of a key and a block there is one row, as of a key.
use Rattle.zeb_packed.proofs.Cited.{◌≡◌, ℕ, ℤ, [], ◌∷◌, ◌++◌, drop, refl, ap, inl, Row, State, Key, key_row, IsRest, IsStore, blocks_tree, dict_tree, blocks, blocks_keys, blocks_static, dict, dict_keys, dict_static, single}
use Rattle.zeb_packed.proofs.PackedReads.{block_front}

-- ---- the rows of a key

module _ (s : State) (store : IsStore s) (db : ℤ) (key : Key) where
  pub one_block : (block : ℕ) (row other : Row) → IsRest blocks_tree (block_front db key block) s.now.trees row → IsRest blocks_tree (block_front db key block) s.now.trees other → row ≡ other
  one_block block row other here there =
      let front = block_front db key block in
      let same = single 4 blocks blocks_static ((1 ∷ 2 ∷ 3 ∷ 4 ∷ 5 ∷ []) ∷ []) blocks_keys s store here.0 there.0 (front ++ row) (front ++ other) here.1 there.1
      (inl (refl, (refl, (refl, (refl, (refl, tt)))))) (inl (refl, (refl, (refl, (refl, (refl, tt)))))) in
      ap (drop 6) same

  pub one_dict : (row other : Row) → IsRest dict_tree (key_row db key) s.now.trees row → IsRest dict_tree (key_row db key) s.now.trees other → row ≡ other
  one_dict row other here there =
      let front = key_row db key in
      let same = single 5 dict dict_static ((1 ∷ 2 ∷ 3 ∷ 4 ∷ []) ∷ []) dict_keys s store here.0 there.0 (front ++ row) (front ++ other) here.1 there.1
      (inl (refl, (refl, (refl, (refl, tt))))) (inl (refl, (refl, (refl, (refl, tt))))) in
      ap (drop 5) same
