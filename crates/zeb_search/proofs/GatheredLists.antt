-- Lists that gather what each element of another list gives.
use Rattle.zeb_search.proofs.Cited.{◌↔◌, List, [], ◌∷◌, ◌++◌, refl, subst, inl, inr, append-nil, Has, has_left, has_right, has_either}

module _ {X Y : Type 0} (R : X → Y → Type 0) where
  -- just what the elements give
  abbrev pub Gathers : List X → List Y → Type 0
  Gathers xs ys = (y : Y) → Has ys y ↔ ((x : X) × Has xs x × R x y)

  pub gathers_none : Gathers [] []
  gathers_none y = (λ h. absurd h, λ h. absurd h.1)

  -- one element more, with what it gives
  pub gathers_more : (xs : List X) (ys : List Y) (x : X) (zs : List Y) → Gathers xs ys → ((y : Y) → Has zs y ↔ R x y) → Gathers (xs ++ x ∷ []) (ys ++ zs)
  gathers_more xs ys x zs so_far gives y = (
    λ there. elim (has_either ys zs y there) [
      | inl before ↦ let from = (so_far y).0 before in (from.0, has_left xs (x ∷ []) from.0 from.1, from.2)
      | inr new ↦ (x, has_right xs (x ∷ []) x (inl refl), (gives y).0 new)
    ],
    λ from. elim (has_either xs (x ∷ []) from.0 from.1) [
      | inl before ↦ has_left ys zs y ((so_far y).1 (from.0, before, from.2))
      | inr last ↦ elim last [
        | inl same ↦ has_right ys zs y ((gives y).1 (subst (λ z. R z y) same from.2))
        | inr none ↦ absurd none
      ]
    ],
  )

  -- an element that gives nothing
  pub gathers_past : (xs : List X) (ys : List Y) (x : X) → Gathers xs ys → ((y : Y) → ¬ R x y) → Gathers (xs ++ x ∷ []) ys
  gathers_past xs ys x so_far none = subst (Gathers (xs ++ x ∷ [])) (append-nil ys) (gathers_more xs ys x [] so_far (λ y. (λ h. absurd h, λ r. absurd (none y r))))
