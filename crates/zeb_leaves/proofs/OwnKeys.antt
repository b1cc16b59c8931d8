-- No two rows of `blocks` have one key.
use Rattle.zeb_leaves.proofs.Cited.{Row, State, column, Int, Blob, ◌≡◌, ◌∷◌, ℕ, ℤ, List, [], refl, ap, inl, IsRest, IsStore, blocks_tree, Key, rest_shown, blocks, blocks_keys, blocks_static}
use Rattle.zeb_register.proofs.SharedKeys.{single}

-- no two of the rows, each shown behind its database, have one key
abbrev pub HaveOwnKeys : (Row → Type 0) → Type 0
HaveOwnKeys Rests = (key : Key) (block : ℕ) (one other : List ℕ) → Rests (rest_shown key block one) → Rests (rest_shown key block other) → one ≡ other

pub own_keys : (s : State) → IsStore s → (id : ℤ) → HaveOwnKeys (IsRest blocks_tree (Int id ∷ []) s.now.trees)
own_keys s store id key block x y here there =
    let same = single 4 blocks blocks_static ((1 ∷ 2 ∷ 3 ∷ 4 ∷ 5 ∷ []) ∷ []) blocks_keys s store here.0 there.0 (Int id ∷ rest_shown key block x) (Int id ∷ rest_shown key block y) here.1 there.1
    (inl (refl, (refl, (refl, (refl, (refl, tt)))))) (inl (refl, (refl, (refl, (refl, (refl, tt)))))) in
    let bytes : Blob x ≡ Blob y = ap (λ (r : Row). column r 6) same in
    let e : x ≡ y = cc in e
