-- Lists that differ in the order of values with different numbers alone, and what holds of the one and so of the other.
use Rattle.zeb_change.proofs.Cited.{◌≡◌, ◌≢◌, ◌∙◌, ℕ, Bool, true, false, List, [], ◌∷◌, ◌++◌, filter, is_lt, refl, sym, ap, subst, arith, inl, inr, cond-true, cond-false, cases_Bool, nat_tests, filter-append, AllByRecursion, IsStableByKey, ties}
use Rattle.std.proofs.Common.{nat_cmp}

ties_at : (m n : ℕ) → (ties (λ x y. is_lt (nat_cmp x y)) m n ≡ true → m ≡ n) × (m ≡ n → ties (λ x y. is_lt (nat_cmp x y)) m n ≡ true)
ties_at m n = (λ h. grind (arith, nat_tests), λ h. grind (arith, nat_tests))

module _ {X : Type 0} (number : X → ℕ) where
  abbrev has_number_of : X → X → Bool
  has_number_of = ties (λ x y. is_lt (nat_cmp (number x) (number y)))

  itself : (x : X) → has_number_of x x ≡ true
  itself x = (ties_at (number x) (number x)).1 refl

  -- none has the number of x
  abbrev pub AreApart : X → List X → Type 0
  AreApart x = AllByRecursion (λ y. number x ≢ number y)

  with_first : (p : X → Bool) (y : X) (ys : List X) → p y ≡ true → filter p (y ∷ ys) ≡ y ∷ filter p ys
  with_first p y ys h = cond-true _ _ _ h

  without_first : (p : X → Bool) (y : X) (ys : List X) → p y ≡ false → filter p (y ∷ ys) ≡ filter p ys
  without_first p y ys h = cond-false _ _ _ h

  -- x is the first of the list that has its number
  record IsFoundIn (x : X) (ys : List X) : Type 0 where
    pub front : List X
    pub back : List X
    pub is : ys ≡ front ++ x ∷ back
    pub apart : AreApart x front

  found : (x : X) (ys zs : List X) → filter (has_number_of x) ys ≡ x ∷ zs → IsFoundIn x ys
  found x [] zs h = absurd (cc)
  found x (y ∷ ys) zs h = elim (cases_Bool (has_number_of x y)) [
    | inl here ↦
        let heads : y ∷ filter (has_number_of x) ys ≡ x ∷ zs = sym (with_first (has_number_of x) y ys here) ∙ h in
        let same : y ≡ x = cc in
        record { front = []; back = ys; is = ap (λ (z : X). z ∷ ys) same; apart = tt }
    | inr other ↦
        let later = found x ys zs (sym (without_first (has_number_of x) y ys other) ∙ h) in
        let differs : number x ≢ number y = λ same. let is = (ties_at (number x) (number y)).1 same in absurd (cc) in
        record { front = y ∷ later.front; back = later.back; is = ap (λ (l : List X). y ∷ l) later.is; apart = (differs, later.apart) }
  ]

  none_kept : (x z : X) (front : List X) → AreApart x front → has_number_of z x ≡ true → filter (has_number_of z) front ≡ []
  none_kept x z [] apart at = refl
  none_kept x z (y ∷ front) apart at = elim (cases_Bool (has_number_of z y)) [
    | inl here ↦ absurd (apart.0 (sym ((ties_at (number z) (number x)).0 at) ∙ (ties_at (number z) (number y)).0 here))
    | inr other ↦ without_first (has_number_of z) y front other ∙ none_kept x z front apart.1 at
  ]

  -- x is taken out of both
  taken_out : (x : X) (xs front back : List X) → AreApart x front → IsStableByKey number nat_cmp (x ∷ xs) (front ++ x ∷ back) → IsStableByKey number nat_cmp xs (front ++ back)
  taken_out x xs front back apart stable z =
      let p = has_number_of z in
      let all : filter p front ++ filter p (x ∷ back) ≡ filter p (x ∷ xs) = sym (filter-append p front (x ∷ back)) ∙ stable z in
      elim (cases_Bool (p x)) [
        | inl here ↦
            let none = none_kept x z front apart here in
            let heads : x ∷ filter p back ≡ x ∷ filter p xs =
            sym (with_first p x back here) ∙ ap (λ (l : List X). l ++ filter p (x ∷ back)) (sym none) ∙ all ∙ with_first p x xs here in
            let tails : filter p back ≡ filter p xs = cc in
            filter-append p front back ∙ ap (λ (l : List X). l ++ filter p back) none ∙ tails
        | inr other ↦
            filter-append p front back ∙ ap (λ (l : List X). filter p front ++ l) (sym (without_first p x back other)) ∙ all ∙ without_first p x xs other
      ]

  -- a list and the same one in another order: what holds where both are empty, and still holds where a value is put before the one, and into
  -- the other behind values of other numbers
  module _ (P : List X → List X → Type 0) (none : P [] [])
      (more : (x : X) (xs front back : List X) → AreApart x front → P xs (front ++ back) → P (x ∷ xs) (front ++ x ∷ back)) where
    pub of_reordered : (xs ys : List X) → IsStableByKey number nat_cmp xs ys → P xs ys
    of_reordered [] [] stable = none
    of_reordered [] (y ∷ ys) stable =
        let clash : y ∷ filter (has_number_of y) ys ≡ [] = sym (with_first (has_number_of y) y ys (itself y)) ∙ stable y in absurd (cc)
    of_reordered (x ∷ xs) ys stable =
        let at = found x ys (filter (has_number_of x) xs) (stable x ∙ with_first (has_number_of x) x xs (itself x)) in
        let split : IsStableByKey number nat_cmp (x ∷ xs) (at.front ++ x ∷ at.back) = subst (IsStableByKey number nat_cmp (x ∷ xs)) at.is stable in
        subst (P (x ∷ xs)) (sym at.is) (more x xs at.front at.back at.apart (of_reordered xs (at.front ++ at.back) (taken_out x xs at.front at.back at.apart split)))

  put_among : (P : X → Type 0) (x : X) (front back : List X) → P x → AllByRecursion P (front ++ back) → AllByRecursion P (front ++ x ∷ back)
  put_among P x [] back is all = (is, all)
  put_among P x (y ∷ front) back is all = (all.0, put_among P x front back is all.1)

  pub all_of : (P : X → Type 0) (xs ys : List X) → IsStableByKey number nat_cmp xs ys → AllByRecursion P xs → AllByRecursion P ys
  all_of P = of_reordered (λ xs ys. AllByRecursion P xs → AllByRecursion P ys) (λ all. all)
      (λ x xs front back apart same all. put_among P x front back all.0 (same all.1))
