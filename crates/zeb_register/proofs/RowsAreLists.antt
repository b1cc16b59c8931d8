-- In a table no two rows share a key: so what its rows say is a list.
use Rattle.zeb_register.proofs.Cited.{Row, column, State, Int, Text, Blob, tied_same, value_cmp_total, ◌≡◌, ℕ, ℤ, List, [], ◌∷◌, refl, ap, inl, inr, tied_itself, HasRow, IsStore, meta_tree, entry, HasDatabase, HasRecord, store_schema, meta_table}
use Rattle.zeb_register.proofs.SharedKeys.{single}
use Rattle.zeb_register.proofs.Writes.{keyed_there}
use Rattle.zeb_register.proofs.TextStatements.{meta_static, meta_keys}
use Rattle.zeb_register.proofs.DatabaseStatements.{databases, databases_static}
use Rattle.zeb_register.proofs.RecordStatements.{records, records_static, records_keys}

module _ (s : State) (store : IsStore s) where
  pub one_text : (name one two : List ℕ) → HasRow s.now.trees meta_tree (entry name one) → HasRow s.now.trees meta_tree (entry name two) → one ≡ two
  one_text name one two here there =
      let same = single 0 meta_table meta_static ((1 ∷ []) ∷ []) meta_keys s store here.0 there.0 (entry name one) (entry name two) here.1 there.1 (inl (refl, tt)) (inl (refl, tt)) in
      let value : Text one ≡ Text two = ap (λ (r : Row). column r 2) same in cc

  pub one_last : (id : ℤ) (n m : List ℕ) (l k : ℤ) → HasDatabase s.now.trees id n l → HasDatabase s.now.trees id m k → (n ≡ m) × (l ≡ k)
  one_last id n m l k here there =
      let same = tied_same (s.now.trees 2) _ _ (keyed_there store_schema 1 databases databases_static s store).0 here there (tied_itself value_cmp_total (Int id)) in
      let name : Text n ≡ Text m = ap (λ (r : Row). column r 2) same in
      let last : Int l ≡ Int k = ap (λ (r : Row). column r 3) same in (cc, cc)

  pub one_number : (db sysno : ℤ) (i j a b : List ℕ) → HasRecord s.now.trees db sysno i a → HasRecord s.now.trees db sysno j b → (i ≡ j) × (a ≡ b)
  one_number db sysno i j a b here there =
      let same = single 2 records records_static ((1 ∷ 2 ∷ []) ∷ (1 ∷ 3 ∷ []) ∷ []) records_keys s store here.0 there.0 _ _ here.1 there.1 (inl (refl, (refl, tt))) (inl (refl, (refl, tt))) in
      let ident : Text i ≡ Text j = ap (λ (r : Row). column r 3) same in
      let bytes : Blob a ≡ Blob b = ap (λ (r : Row). column r 4) same in (cc, cc)

  pub one_ident : (db n m : ℤ) (ident a b : List ℕ) → HasRecord s.now.trees db n ident a → HasRecord s.now.trees db m ident b → (n ≡ m) × (a ≡ b)
  one_ident db n m ident a b here there =
      let same = single 2 records records_static ((1 ∷ 2 ∷ []) ∷ (1 ∷ 3 ∷ []) ∷ []) records_keys s store here.0 there.0 _ _ here.1 there.1 (inr (inl (refl, (refl, tt)))) (inr (inl (refl, (refl, tt)))) in
      let number : Int n ≡ Int m = ap (λ (r : Row). column r 2) same in
      let bytes : Blob a ≡ Blob b = ap (λ (r : Row). column r 4) same in (cc, cc)
