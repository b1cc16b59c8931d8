-- Membership in a list that is made of others: by a function, or of pieces joined end to end.
use Rattle.zeb_extract.proofs.Cited.{◌≡◌, List, [], ◌∷◌, ⊎_elim, map, sym, subst, Contains, flat_map, Contains-append_left, Contains-append_right, Contains-append_cases, no_member, first_member, later_member, member_cases}

module _ {X A : Type 0} (f : X → A) where
  pub Contains-map : (xs : List X) (x : X) → Contains xs x → Contains (map f xs) (f x)
  Contains-map [] x h = absurd (no_member x h)
  Contains-map (y ∷ ys) x h =
      ⊎_elim
      (λ e. subst (λ z. Contains (f y ∷ map f ys) (f z)) e (first_member (f y) (map f ys)))
      (λ rest. later_member (f y) (map f ys) (f x) (Contains-map ys x rest))
      (member_cases y ys x h)

  pub from_map : (xs : List X) (a : A) → Contains (map f xs) a → (x : X) × Contains xs x × (f x ≡ a)
  from_map [] a h = absurd (no_member a h)
  from_map (y ∷ ys) a h =
      ⊎_elim
      (λ e. (y, first_member y ys, e))
      (λ rest. let found = from_map ys a rest in (found.0, later_member y ys found.0 found.1, found.2))
      (member_cases (f y) (map f ys) a h)

module _ {X A : Type 0} (f : X → List A) where
  pub Contains-flat_map : (xs : List X) (x : X) (a : A) → Contains xs x → Contains (f x) a → Contains (flat_map f xs) a
  Contains-flat_map [] x a h in_piece = absurd (no_member x h)
  Contains-flat_map (y ∷ ys) x a h in_piece =
      ⊎_elim
      (λ e. Contains-append_left (f y) (flat_map f ys) a (subst (λ z. Contains (f z) a) (sym e) in_piece))
      (λ rest. Contains-append_right (f y) (flat_map f ys) a (Contains-flat_map ys x a rest in_piece))
      (member_cases y ys x h)

  pub from_flat_map : (xs : List X) (a : A) → Contains (flat_map f xs) a → (x : X) × Contains xs x × Contains (f x) a
  from_flat_map [] a h = absurd (no_member a h)
  from_flat_map (y ∷ ys) a h =
      ⊎_elim
      (λ here. (y, first_member y ys, here))
      (λ rest. let found = from_flat_map ys a rest in (found.0, later_member y ys found.0 found.1, found.2))
      (Contains-append_cases (f y) (flat_map f ys) a h)
