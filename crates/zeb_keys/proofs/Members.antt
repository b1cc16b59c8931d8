-- Membership in a list by its first element.
use Rattle.std.proofs.Common.{◌≡◌, ℕ, ◌<◌, List, [], ◌∷◌, ◌⊎◌, inl, inr, ⊎_elim, get_or, refl, subst, arith}
use Rattle.std.specs.List.{Contains}
use Rattle.std.proofs.lemmas.List.Elements.{Contains-append_right, Contains-append_cases}

module _ {X : Type 0} where
  pub no_member : (x : X) → Contains [] x → ⊥
  no_member x h = omega (arith, h.1)

  pub first_member : (x : X) (xs : List X) → Contains (x ∷ xs) x
  first_member x xs = (0, omega arith, refl)

  pub later_member : (x : X) (xs : List X) (y : X) → Contains xs y → Contains (x ∷ xs) y
  later_member x xs y h = Contains-append_right (x ∷ []) xs y h

  pub only_member : (x y : X) → Contains (x ∷ []) y → x ≡ y
  only_member x y h = only_at x y h.0 h.1 h.2
    where
      only_at : (x y : X) (k : ℕ) → k < 1 → get_or (x ∷ []) k y ≡ y → x ≡ y
      only_at x y k inside e = let first : k ≡ 0 = omega arith in subst (λ n. get_or (x ∷ []) n y ≡ y) first e

  pub member_cases : (x : X) (xs : List X) (y : X) → Contains (x ∷ xs) y → (x ≡ y) ⊎ Contains xs y
  member_cases x xs y h = ⊎_elim (λ one. inl (only_member x y one)) (λ rest. inr rest) (Contains-append_cases (x ∷ []) xs y h)
