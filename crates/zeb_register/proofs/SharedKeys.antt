-- In a table two rows that share a key are one.
use Rattle.zeb_register.proofs.Cited.{IsDatabase, Row, value_cmp, State, rowid, is_int, Int, has_got, tied_same, Has, value_cmp_total, ◌≡◌, ◌∙◌, ℕ, ℤ, List, ◌∷◌, true, Ordering, Less, Equal, Greater, refl, ap, subst, ordering_reverse, Table, IsStore, store_schema}
use Rattle.zeb_register.proofs.ValueKinds.{IsPlainTable, HasKeys, SharesKey}
use Rattle.zeb_register.proofs.RowLemmas.{shares_alone}
use Rattle.zeb_register.proofs.Writes.{keyed_there, codes_there}

module _ (at : ℕ) (table : Table) (static : IsPlainTable store_schema at table) (keys : List (List ℕ)) (has : HasKeys store_schema table keys) (s : State) (store : IsStore s) where
  pub single : (i j : ℤ) (a b : Row) → Has (s.now.trees table.tree) (Int i ∷ a) → Has (s.now.trees table.tree) (Int j ∷ b) → SharesKey keys (Int i ∷ a) (Int j ∷ b) → SharesKey keys (Int j ∷ b) (Int i ∷ a) → ◌≡◌ {A = Row} (Int i ∷ a) (Int j ∷ b)
  single i j a b here there left right = from (value_cmp (Int i) (Int j)) refl
    where
      alone : (r t : Row) → Has (s.now.trees table.tree) r → Has (s.now.trees table.tree) t → is_int (rowid r) ≡ true → is_int (rowid t) ≡ true → SharesKey keys r t → value_cmp (rowid r) (rowid t) ≡ Less → ⊥
      alone r t r_there t_there r_int t_int same lower =
          let sound = subst (λ c. IsDatabase (record { schema = c; trees = s.now.trees })) store.is store.sound in
          shares_alone store_schema s.now.trees table keys sound (has_got store_schema.tables at table static.there) has r t r_there t_there r_int t_int (codes_there store_schema at table static s r store r_there)
          (codes_there store_schema at table static s t store t_there) same lower

      from : (o : Ordering) → value_cmp (Int i) (Int j) ≡ o → ◌≡◌ {A = Row} (Int i ∷ a) (Int j ∷ b)
      from Less is = absurd (alone (Int i ∷ a) (Int j ∷ b) here there refl refl left is)
      from Greater is = absurd (alone (Int j ∷ b) (Int i ∷ a) there here refl refl right (value_cmp_total.antisymm (Int j) (Int i) ∙ ap ordering_reverse is))
      from Equal is = tied_same (s.now.trees table.tree) _ _ (keyed_there store_schema at table static s store).0 here there is
