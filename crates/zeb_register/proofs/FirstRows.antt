-- SELECT .. ORDER BY .. LIMIT 1: no row where none passes, else one that no other comes before.
use Rattle.zeb_register.proofs.Cited.{Row, Output, output_cmp, Term, eval_all, contains_had, Has, output_cmp_total, ◌≡◌, ◌⊎◌, List, [], ◌∷◌, map, take, Ordering, true, false, inl, inr, refl, sym, ap, subst, ◌∙◌, arith, sorted_far, ranks_by, is_lt, IsSorted}
use Rattle.sqlite_value.specs.declared.keys.Key.{Key}
use Rattle.zeb_register.proofs.StatementForms.{Condition, passes, reading_by, shown_of, one_row, IsReading}
use Rattle.zeb_register.proofs.Scans.{origin, in_order}

module _ (db : List Row) (wheres : List Condition) (project : List Term) (keys : List (Term × Key)) (params : Row) (rows : List Row) (h : IsReading db wheres project keys one_row params rows) where
  abbrev cmp : Output → Output → Ordering
  cmp = output_cmp (reading_by 0 wheres project keys one_row)

  abbrev of_row : Row → Output
  of_row = shown_of project keys params

  -- the row is shown alone, and no row that passes comes before it
  abbrev pub IsFirst : Row → Type 0
  IsFirst r =
      Has db r × (passes wheres params r ≡ true) × (rows ≡ eval_all project (params ∷ r ∷ []) ∷ [])
      × ((s : Row) → Has db s → passes wheres params s ≡ true → is_lt (cmp (of_row s) (of_row r)) ≡ false)

  first_of : (os : List Output) → h.ordered ≡ os → ((rows ≡ []) × ((r : Row) → Has db r → passes wheres params r ≡ true → ⊥)) ⊎ ((r : Row) × IsFirst r)
  first_of [] is = inl (
    h.shown ∙ ap (λ os. take 1 (map (λ (o : Output). o.1) os)) is,
    λ r here passed. subst (λ os. Has os (of_row r)) is (in_order db wheres project keys one_row params rows h r here passed),
  )
  first_of (o ∷ os) is =
      let r = origin db wheres project keys one_row params rows h o (subst (λ l. Has l o) (sym is) (inl refl)) in
      inr (
        r.0,
        (
          r.1,
          r.2,
          h.shown ∙ ap (λ os. take 1 (map (λ (o : Output). o.1) os)) is ∙ ap (λ (k : Output). k.1 ∷ []) r.3,
          λ s there passed.
              let at = contains_had (o ∷ os) (of_row s) (subst (λ l. Has l (of_row s)) is (in_order db wheres project keys one_row params rows h s there passed)) in
              let total = output_cmp_total (reading_by 0 wheres project keys one_row) in
              let far = sorted_far (λ a b. is_lt (cmp a b)) (ranks_by total (λ z. z)) (o ∷ os) (subst (IsSorted cmp) is h.sorted) 0 at.0 (of_row s) (omega arith) (omega (arith, at.1)) in
              subst (λ k. is_lt (cmp (of_row s) k) ≡ false) r.3 (subst (λ k. is_lt (cmp k o) ≡ false) (at.2) far),
        ),
      )

  pub first_shown : ((rows ≡ []) × ((r : Row) → Has db r → passes wheres params r ≡ true → ⊥)) ⊎ ((r : Row) × IsFirst r)
  first_shown = first_of h.ordered refl
