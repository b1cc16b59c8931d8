-- Lists by their elements.
use Rattle.zeb_leaf.proofs.Cited.{◌≡◌, List, [], ◌∷◌, ◌++◌, inl, inr, refl, arith, AllByRecursion, Less, All-contains, All-from_recursion, Contains-append_left, Contains-append_right, Contains-push_cases, Contains, Ordering}
use Rattle.std.specs.List.Sorted.{IsStrictlySortedBy}

pub none_in : {X : Type 0} (x : X) → Contains [] x → ⊥
none_in x has = omega (arith, has.1)

pub first_in : {X : Type 0} (x : X) (xs : List X) → Contains (x ∷ xs) x
first_in x xs = (0, omega arith, refl)

pub behind_in : {X : Type 0} (y : X) (xs : List X) (x : X) → Contains xs x → Contains (y ∷ xs) x
behind_in y xs x has = Contains-append_right (y ∷ []) xs x has

-- of one element
pub only_in : {X : Type 0} (y x : X) → Contains (y ∷ []) x → y ≡ x
only_in y x has = elim (Contains-push_cases [] y x has) [
  | inl none ↦ absurd (none_in x none)
  | inr same ↦ same
]

pub all_of : {X : Type 0} (P : X → Type 0) (xs : List X) (x : X) → AllByRecursion P xs → Contains xs x → P x
all_of P xs x each has = All-contains P xs x (All-from_recursion P xs each) has

pub all_by : {X : Type 0} (P : X → Type 0) (xs : List X) → ((x : X) → Contains xs x → P x) → AllByRecursion P xs
all_by P [] each = tt
all_by P (x ∷ xs) each = (each x (first_in x xs), all_by P xs (λ y has. each y (behind_in x xs y has)))

module _ {X : Type 0} (R : X → X → Ordering) where
  pub sorted_joined : (xs ys : List X) → IsStrictlySortedBy R xs → IsStrictlySortedBy R ys → ((x y : X) → Contains xs x → Contains ys y → R x y ≡ Less) → IsStrictlySortedBy R (xs ++ ys)
  unfolding IsStrictlySortedBy
  sorted_joined [] ys up more below = more
  sorted_joined (x ∷ xs) ys up more below = (
    joined (R x) xs ys up.0 (all_by (λ y. R x y ≡ Less) ys (λ y has. below x y (first_in x xs) has)),
    sorted_joined xs ys up.1 more (λ z y has. below z y (behind_in x xs z has)),
  )
    where
      joined : (rank : X → Ordering) (xs ys : List X) → AllByRecursion (λ y. rank y ≡ Less) xs → AllByRecursion (λ y. rank y ≡ Less) ys → AllByRecursion (λ y. rank y ≡ Less) (xs ++ ys)
      joined rank [] ys each more = more
      joined rank (x ∷ xs) ys each more = (each.0, joined rank xs ys each.1 more)

  pub sorted_front : (xs ys : List X) → IsStrictlySortedBy R (xs ++ ys) → IsStrictlySortedBy R xs
  unfolding IsStrictlySortedBy
  sorted_front [] ys up = tt
  sorted_front (x ∷ xs) ys up = (all_by (λ y. R x y ≡ Less) xs (λ y has. all_of (λ z. R x z ≡ Less) (xs ++ ys) y up.0 (Contains-append_left xs ys y has)), sorted_front xs ys up.1)

  pub sorted_rest : (xs ys : List X) → IsStrictlySortedBy R (xs ++ ys) → IsStrictlySortedBy R ys
  unfolding IsStrictlySortedBy
  sorted_rest [] ys up = up
  sorted_rest (x ∷ xs) ys up = sorted_rest xs ys up.1

  -- the first is below each that follows
  pub first_below : (x : X) (xs : List X) (y : X) → IsStrictlySortedBy R (x ∷ xs) → Contains xs y → R x y ≡ Less
  unfolding IsStrictlySortedBy
  first_below x xs y up has = all_of (λ z. R x z ≡ Less) xs y up.0 has

pub all_back : {X : Type 0} (P : X → Type 0) (xs ys : List X) → AllByRecursion P (xs ++ ys) → AllByRecursion P ys
all_back P [] ys each = each
all_back P (x ∷ xs) ys each = all_back P xs ys each.1
