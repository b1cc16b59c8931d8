-- What rows have of the keys from a text on, row by row.
use Rattle.zeb_leaves.proofs.Cited.{Row, ◌≡◌, ◌⊎◌, ◌∙◌, ◌+◌, ◌<◌, ◌++◌, ◌∷◌, ℕ, List, Some, drop, length, refl, sym, ap, subst, inl, inr, Entry, get_or, drop_more, ShowsKey, HideOwns, HidesOwn, ShowOwns, ShowsOwn}

module _ (first : List ℕ) (from i : ℕ) (row next : Row) (rows : List Row) (within : i < length rows) (is : next ≡ get_or rows i next) where
  here : drop i rows ≡ next ∷ drop (i + 1) rows
  here = drop_more rows i next within ∙ ap (λ r. r ∷ drop (i + 1) rows) (sym is)

  -- what a row has up to the own key of the next one, and what stands in the rows from there on
  pub own_step : (term : List ℕ) (block : ℕ) (among rest : List Entry) → ShowsKey next term block → ShowsOwn first from (Some (term, block)) row among
      → ShowOwns term block next (drop (i + 1) rows) rest → ShowOwns first from row (drop i rows) (among ++ rest)
  own_step term block among rest key shows more =
      subst (λ (l : List Row). ShowOwns first from row l (among ++ rest)) (sym here) (term, block, among, rest, key, shows, more, refl)

  module _ (Bad : Entry → Type 0) where
    pub hidden_step : (term : List ℕ) (block : ℕ) → ShowsKey next term block → HidesOwn Bad first from (Some (term, block)) row ⊎ HideOwns Bad term block next (drop (i + 1) rows) → HideOwns Bad first from row (drop i rows)
    hidden_step term block key bad = subst (HideOwns Bad first from row) (sym here) (inr (term, block, key, bad))

    pub keyless_step : ((term : List ℕ) (block : ℕ) → ¬ ShowsKey next term block) → HideOwns Bad first from row (drop i rows)
    keyless_step none = subst (HideOwns Bad first from row) (sym here) (inl none)
