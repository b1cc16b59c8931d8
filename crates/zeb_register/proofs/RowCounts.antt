-- How many rows a table has once one more comes, and once some are made anew.
use Rattle.zeb_register.proofs.Cited.{Row, value_cmp, value_cmp-Int, value_cmp_total, next_is_free, Chosen, some_from, is_eq, tied_itself, true, Equal, Schema, State, Term, col, eval_all, Int, rowid, next_rowid, ids_of, int_is, has_mapped, mapped_has, Has, ◌≡◌, ◌∙◌, ◌+◌, ℕ, ℤ, List, [], ◌∷◌, length, length-map, refl, sym, ap, ap₂, subst, inl, inr, arith, Less, all_from, all_has, cases_Bool, both_ways, int_cmp, int_cmp_total, Table, IsKeyed, HasLayout, ChangesOneTable}
use Rattle.std.specs.List.Sorted.{IsStrictlySortedBy}
use Rattle.sqlite.specs.Edit.{id_in}
use Rattle.zeb_register.proofs.ContentChanges.{integers_apart}
use Rattle.zeb_register.proofs.RisingLists.{no_longer, one_has, one_longer, one_rises, same_list, with_one}
use Rattle.zeb_register.proofs.StatementForms.{Condition, passes}
use Rattle.zeb_register.proofs.ValueKinds.{IsPlainTable, are_fit}
use Rattle.zeb_register.proofs.Writes.{GainsRow, RemakesRows, keyed_there, meets_there}

abbrev id_of : Row → ℤ
id_of r = id_in (rowid r)

ids_rise : (rows : List Row) → IsKeyed rows → IsStrictlySortedBy int_cmp (ids_of rows)
unfolding IsStrictlySortedBy
ids_rise [] keyed = tt
ids_rise (r ∷ rows) keyed = (
  all_from (λ n. int_cmp (id_of r) n ≡ Less) (ids_of rows) (λ n h.
      let s = has_mapped id_of rows n h in
      let less = all_has _ rows s.0 keyed.0.0 s.1 in
      let ints = ap₂ (λ v w. value_cmp v w) (int_is (rowid r) keyed.1.0) (int_is (rowid s.0) (all_has _ rows s.0 keyed.1.1 s.1)) in
      ap (int_cmp (id_of r)) s.2 ∙ sym (value_cmp-Int (id_of r) (id_of s.0)) ∙ sym ints ∙ less),
  ids_rise rows (keyed.0.1, keyed.1.1),
)

-- two tables in which each row has the rowid of one of the other have as many
as_many : (xs ys : List Row) → IsKeyed xs → IsKeyed ys → ((r : Row) → Has xs r → (s : Row) × Has ys s × (rowid r ≡ rowid s)) → ((s : Row) → Has ys s → (r : Row) × Has xs r × (rowid s ≡ rowid r)) → length ys ≡ length xs
as_many xs ys up down there back =
    let one = no_longer int_cmp_total (ids_of ys) (ids_of xs) (ids_rise ys down) (ids_rise xs up) (among xs ys there) in
    let two = no_longer int_cmp_total (ids_of xs) (ids_of ys) (ids_rise xs up) (ids_rise ys down) (among ys xs back) in
    omega (arith, one, two, length-map xs id_of, length-map ys id_of)
  where
    among : (rows others : List Row) → ((r : Row) → Has rows r → (s : Row) × Has others s × (rowid r ≡ rowid s)) → (n : ℤ) → Has (ids_of rows) n → Has (ids_of others) n
    among rows others each n h =
        let r = has_mapped id_of rows n h in
        let s = each r.0 r.1 in
        subst (λ m. Has (ids_of others) m) (sym (r.2 ∙ ap id_in s.2)) (mapped_has id_of others s.0 s.1)

module _ (schema : Schema) (at : ℕ) (table : Table) (static : IsPlainTable schema at table) (old new : State) (layout : HasLayout schema old) where
  abbrev were : List Row
  were = old.now.trees table.tree

  abbrev are : List Row
  are = new.now.trees table.tree

  -- a table that gains a row has one more
  pub gained_longer : (columns : Row) → ChangesOneTable schema table.tree (GainsRow columns) old new → length are ≡ length were + 1
  gained_longer columns done =
      let id = next_rowid were in
      let row = Int id ∷ columns in
      let before = ids_rise were (keyed_there schema at table static old layout) in
      let after = ids_rise are (keyed_there schema at table static new done.layout) in
      let free : ¬ Has (ids_of were) id = λ h.
      let r = has_mapped id_of were id h in
      let keyed = keyed_there schema at table static old layout in
      let tied : value_cmp (rowid r.0) (Int id) ≡ Equal = ap₂ (λ v n. value_cmp v (Int n)) (int_is (rowid r.0) (all_has _ were r.0 keyed.1 r.1)) r.2 ∙ tied_itself value_cmp_total (Int (id_of r.0)) in
      both_ways _ (next_is_free Chosen were columns keyed.0 keyed.1) (some_from (λ x. is_eq (value_cmp (rowid x) (Int id))) were r.0 r.1 (ap is_eq tied)) in
      let same : ids_of are ≡ with_one int_cmp_total integers_apart id (ids_of were) = same_list int_cmp_total (ids_of are) (with_one int_cmp_total integers_apart id (ids_of were)) after (one_rises int_cmp_total integers_apart id (ids_of were) before)
      (λ n h.
      let r = has_mapped id_of are n h in
      (one_has int_cmp_total integers_apart id (ids_of were) n).1 (elim ((done.rows r.0).0 r.1) [
        | inl was ↦ inl (subst (λ m. Has (ids_of were) m) (sym r.2) (mapped_has id_of were r.0 was))
        | inr is ↦ inr (r.2 ∙ ap id_of is)
      ]))
      (λ n h. elim ((one_has int_cmp_total integers_apart id (ids_of were) n).0 h) [
        | inl was ↦ let r = has_mapped id_of were n was in subst (λ m. Has (ids_of are) m) (sym r.2) (mapped_has id_of are r.0 ((done.rows r.0).1 (inl r.1)))
        | inr is ↦ subst (λ m. Has (ids_of are) m) (sym is) (mapped_has id_of are row ((done.rows row).1 (inr refl)))
      ]) in
      omega (arith, ap length same, one_longer int_cmp_total integers_apart id (ids_of were) free, length-map were id_of, length-map are id_of)

  -- rows that are made anew with their rowids are as many as they were
  pub remade_as_many : (params : Row) (wheres : List Condition) (set : List Term) → are_fit table params wheres ≡ true → ChangesOneTable schema table.tree (RemakesRows wheres (col 1 0 ∷ set) params) old new → length are ≡ length were
  remade_as_many params wheres set fit done =
      let met = meets_there schema at table static old params wheres layout fit in
      as_many were are (keyed_there schema at table static old layout) (keyed_there schema at table static new done.layout)
      (λ r h. elim (cases_Bool (passes wheres params r)) [
        | inl passed ↦ let s = eval_all (col 1 0 ∷ set) (params ∷ r ∷ []) in (s, (done.rows s).1 (inr (r, h, (met r h).0 passed, refl)), refl)
        | inr failed ↦ (r, (done.rows r).1 (inl (h, λ m. both_ways _ failed ((met r h).1 m))), refl)
      ])
      (λ s h. elim ((done.rows s).0 h) [ inl kept ↦ (s, kept.0, refl) | inr made ↦ (made.0, made.1, ap rowid made.3) ])
