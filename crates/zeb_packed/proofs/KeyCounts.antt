-- How many records have a key, as its row of `dict` says.
use Rattle.zeb_packed.proofs.Cited.{◌≡◌, ◌∙◌, ◌≤◌, ◌==◌, ◌^◌, ℕ, zero, suc, ℤ, pos, not, true, List, ◌∷◌, ◌++◌, None, slice_get, refl, sym, ap, subst, inl, inr, arith, eqb_tells, Int, Row, column, State, Trees, Has, Key, IsRecordNumber, key_row, IsDictIn, IsListOf, IsRest, IsStore, dict_tree, none_is, key_begins, Known, IsTold, IsClearFrom, CountsAs}
use Rattle.zeb_packed.proofs.PackedSound.{one_dict}

abbrev Shows : Row → Known → Type 0
Shows row known = (column row 0 ≡ Int (pos known.records)) × (1 ≤ known.records) × (known.records ≤ 999999999) × (2 ^ 56 ≤ known.clear_from)

pub known_clear : (row : Row) (known : Known) → Shows row known → (known.records ≤ 999999999) × IsClearFrom known
known_clear row known shows = (shows.2, record { none = λ none. absurd (omega (arith, none, shows.1)); some = λ some. shows.3 })

module _ (s : State) (store : IsStore s) (db : ℤ) (key : Key) (row : Row) (there : IsRest dict_tree (key_row db key) s.now.trees row) where
  -- the row that was read is the only one
  pub shown_counts : (known : Known) → Shows row known → CountsAs s.now.trees db key known.records
  shown_counts known shows = record {
    said = λ other here. (shows.1, shows.2, ap (λ (r : Row). column r 0) (one_dict s store db key other row here there) ∙ shows.0);
    there = λ some. (row, there);
  }

  pub none_shown : ¬ IsRecordNumber (column row 0) → (records : ℕ) → ¬ CountsAs s.now.trees db key records
  none_shown bad records counts = let said = counts.said row there in bad (records, said.2, said.0, said.1)

pub none_counts : (trees : Trees) (db : ℤ) (key : Key) (rows : List Row) → IsListOf (IsRest dict_tree (key_row db key) trees) rows → slice_get rows 0 ≡ None → CountsAs trees db key 0
none_counts trees db key rows listed none = record {
  said = λ row there. absurd (none_is (IsRest dict_tree (key_row db key) trees) rows row listed none there);
  there = λ some. absurd (omega (arith, some));
}

-- a count tells whether the key has a row
pub count_told : (trees : Trees) (db : ℤ) (key : Key) (records : ℕ) → CountsAs trees db key records → IsTold (not (records == 0)) (IsDictIn db key) dict_tree trees
count_told trees db key zero counts = λ row there in_it.
    let it = key_begins db key row in_it.0 in_it.1 in_it.2 in_it.3 in
    let said = counts.said it.0 (subst (λ (r : Row). (id : ℤ) × Has (trees dict_tree) (Int id ∷ r)) it.1 there) in
    omega (arith, said.0)
count_told trees db key (suc records) counts = elim (eqb_tells (suc records) 0) [
  | inl none ↦ absurd (omega (arith, none.1))
  | inr some ↦
      let row = counts.there (omega arith) in
      let there : IsTold true (IsDictIn db key) dict_tree trees = (key_row db key ++ row.0, row.1, (refl, refl, refl, refl)) in
      subst (λ b. IsTold (not b) (IsDictIn db key) dict_tree trees) (sym some.0) there
]
