-- What a step of a statement makes of a table's rows.
use Rattle.zeb_register.proofs.Cited.{Edit, Applies, without_all, put_all, left_by, have_rowids, Row, value_cmp, Schema, Trees, rowid, has_rowid, put_row, without_rowid, is_int, all_has, has_filtered, has_kept, tied_same, has_mapped, mapped_has, int_is, put_all_has, put_all_keeps, put_all_adds, ids_of, Has, Keys, IsShaped-filter, IsShaped-put_row, value_cmp_total, ◌≡◌, ◌≢◌, ◌⊎◌, ◌↔◌, inl, inr, ℕ, ℤ, Bool, true, false, not, List, [], ◌∷◌, refl, sym, ap, subst, ◌∙◌, Ordering, Less, Equal, Greater, is_eq, cases_Bool, cases_eq, and_parts, not-true, both_ways, tied_itself, AllByRecursion, Table, IsKeyed}
use Rattle.sqlite.specs.Edit.{id_in}
use Rattle.sqlite_trees.specs.declared.store.Shape.TheVariants as shape

-- ---- the rows that are left

abbrev pub Lacks : List ℤ → Row → Type 0
Lacks ids r = (id : ℤ) → Has ids id → has_rowid id r ≡ false

pub left_has : (ids : List ℤ) (rows : List Row) (r : Row) → Has (without_all rows ids) r ↔ (Has rows r × Lacks ids r)
left_has [] rows r = (λ h. (h, λ id none. absurd none), λ h. h.0)
left_has (id ∷ ids) rows r =
    let later = left_has ids (without_rowid id rows) r in (
      λ h.
          let kept = later.0 h in
          let here = has_filtered (λ x. not (has_rowid id x)) rows r kept.0 in
          (here.0, λ k there. elim there [ inl same ↦ rw same (not-true _ here.1) | inr more ↦ kept.1 k more ]),
      λ h. later.1 (has_kept (λ x. not (has_rowid id x)) rows r h.0 (rw (h.1 id (inl refl))), λ k there. h.1 k (inr there)),
    )

keyed_left : (ids : List ℤ) (rows : List Row) → IsKeyed rows → IsKeyed (without_all rows ids)
keyed_left [] rows h = h
keyed_left (id ∷ ids) rows h = keyed_left ids (without_rowid id rows) (IsShaped-filter shape.Table (λ x. not (has_rowid id x)) rows h)

keyed_put : (news rows : List Row) → have_rowids news ≡ true → IsKeyed rows → IsKeyed (put_all rows news)
keyed_put [] rows ints h = h
keyed_put (n ∷ news) rows ints h = let parts = and_parts _ _ ints in keyed_put news (put_row n rows) parts.1 (IsShaped-put_row n rows parts.0 h)

-- a row of the table was left or is new
module _ (schema : Schema) (keys : Keys) (db next : Trees) (edit : Edit) (applies : Applies schema keys db edit next) where
  pub edited_has : (r : Row) → Has (next edit.table.tree) r ↔ ((Has (db edit.table.tree) r × Lacks edit.gone r) ⊎ Has edit.news r)
  edited_has r =
      let left = left_has edit.gone (db edit.table.tree) r in (
        λ h. elim (put_all_has edit.news (left_by db edit) r (subst (λ l. Has l r) applies.rows h)) [ inl new ↦ inr new | inr old ↦ inl (left.0 old) ],
        λ h. subst (λ l. Has l r) (sym applies.rows) (elim h [
          | inl old ↦ put_all_keeps edit.news (left_by db edit) r applies.fresh (left.1 old)
          | inr new ↦ put_all_adds edit.news (left_by db edit) r applies.fresh new
        ]),
      )

  pub edited_keyed : IsKeyed (db edit.table.tree) → IsKeyed (next edit.table.tree)
  edited_keyed h = subst IsKeyed (sym applies.rows) (keyed_put edit.news (left_by db edit) applies.keyed (keyed_left edit.gone (db edit.table.tree) h))

-- each table is in order where the one that was written is
pub keyed_after : (tables : List Table) (db next : Trees) (tree : ℕ) → AllByRecursion (λ t. IsKeyed (db t.tree)) tables → AllByRecursion (λ t. t.tree ≢ tree → next t.tree ≡ db t.tree) tables
    → IsKeyed (next tree) → AllByRecursion (λ t. IsKeyed (next t.tree)) tables
keyed_after [] db next tree keyed others here = tt
keyed_after (t ∷ tables) db next tree keyed others here = (
  elim (cases_eq t.tree tree) [ inl same ↦ subst (λ n. IsKeyed (next n)) (sym same) here | inr other ↦ subst IsKeyed (sym (others.0 other)) keyed.0 ],
  keyed_after tables db next tree keyed.1 others.1 here,
)

-- ---- rowids

equal_is : (o : Ordering) → is_eq o ≡ true → o ≡ Equal
equal_is Less h = absurd cc
equal_is Equal h = refl
equal_is Greater h = absurd cc

pub own_rowid : (r : Row) → is_int (rowid r) ≡ true → has_rowid (id_in (rowid r)) r ≡ true
own_rowid r keyed = ap (λ v. is_eq (value_cmp (rowid r) v)) (sym (int_is (rowid r) keyed)) ∙ ap is_eq (tied_itself value_cmp_total (rowid r))

-- two rows of a table with one rowid are one
pub same_row : (rows : List Row) (a b : Row) → IsKeyed rows → Has rows a → Has rows b → has_rowid (id_in (rowid a)) b ≡ true → a ≡ b
same_row rows a b keyed here there tie =
    let is = int_is (rowid a) (all_has _ rows a keyed.1 here) in
    sym (tied_same rows b a keyed.0 there here (subst (λ v. value_cmp (rowid b) v ≡ Equal) (sym is) (equal_is _ tie)))

-- the rows that were picked are those whose rowids are gone
pub picked : (rows : List Row) (picks : List Row) (p : Row → Bool) → IsKeyed rows → ((x : Row) → Has picks x → (r : Row) × Has rows r × (p r ≡ true) × (rowid x ≡ rowid r))
    → ((r : Row) → Has rows r → p r ≡ true → (x : Row) × Has picks x × (rowid x ≡ rowid r)) → (r : Row) → Has rows r → Lacks (ids_of picks) r ↔ (p r ≡ false)
picked rows picks p keyed sound complete r here = (
  λ lacks. elim (cases_Bool (p r)) [
    | inl is ↦ absurd (
        let x = complete r here is in
        let gone : has_rowid (id_in (rowid x.0)) r ≡ false = lacks (id_in (rowid x.0)) (mapped_has (λ y. id_in (rowid y)) picks x.0 x.1) in
        both_ways _ (rw x.2 at gone) (own_rowid r (all_has _ rows r keyed.1 here)))
    | inr is_not ↦ is_not
  ],
  λ fails id there.
      let x = has_mapped (λ y. id_in (rowid y)) picks id there in
      let was = sound x.0 x.1 in
      let same : id ≡ id_in (rowid was.0) = x.2 ∙ ap id_in was.3 in
      elim (cases_Bool (has_rowid id r)) [
        | inl tie ↦ absurd (let e = same_row rows was.0 r keyed was.1 here (rw same at tie) in both_ways _ fails (rw e at was.2))
        | inr other ↦ other
      ],
)
