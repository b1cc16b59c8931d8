-- What holds or not, over lists; and for each list a rising one with the same members.
use Rattle.zeb_laws.proofs.Cited.{◌≡◌, ◌↔◌, ◌⊎◌, ◌∙◌, ◌<◌, ◌≤◌, ℕ, zero, suc, Bool, true, false, List, [], ◌∷◌, map, refl, sym, subst, inl, inr, Ordering, Less, Equal, arith, IsTotalOrder, nat_cmp_total, nat_list_cmp_total, Has, all_from, all_has, has_mapped, numbers_apart, texts_apart, all_rise, all_there, told_by, with_all}
use Rattle.std.specs.List.Sorted.{IsStrictlySortedBy}

-- ---- what holds or not

abbrev pub Decided : Type 0 → Type 0
Decided P = P ⊎ (¬ P)

pub decided_as : (P Q : Type 0) → P ↔ Q → Decided P → Decided Q
decided_as P Q same (inl p) = inl (same.0 p)
decided_as P Q same (inr none) = inr (λ q. none (same.1 q))

pub both_decided : (P Q : Type 0) → Decided P → Decided Q → Decided (P × Q)
both_decided P Q (inl p) (inl q) = inl (p, q)
both_decided P Q (inl p) (inr none) = inr (λ h. none h.1)
both_decided P Q (inr none) other = inr (λ h. none h.0)

pub either_decided : (P Q : Type 0) → Decided P → Decided Q → Decided (P ⊎ Q)
either_decided P Q (inl p) other = inl (inl p)
either_decided P Q (inr none) (inl q) = inl (inr q)
either_decided P Q (inr none) (inr neither) = inr (λ h. elim h [ inl p ↦ none p | inr q ↦ neither q ])

pub denied_decided : (P : Type 0) → Decided P → Decided (¬ P)
denied_decided P (inl p) = inr (λ none. none p)
denied_decided P (inr none) = inl none

pub where_decided : (P Q : Type 0) → Decided P → Decided Q → Decided (P → Q)
where_decided P Q (inl p) (inl q) = inl (λ _. q)
where_decided P Q (inl p) (inr none) = inr (λ h. none (h p))
where_decided P Q (inr none) other = inl (λ p. absurd (none p))

pub test_decided : (b : Bool) → Decided (b ≡ true)
test_decided true = inl refl
test_decided false = inr (λ h. cc)

pub less_decided : (r : Ordering) → Decided (r ≡ Less)
less_decided Less = inl refl
less_decided _ = inr (λ h. cc)

pub number_decided : (m n : ℕ) → Decided (m ≡ n)
number_decided = told_by nat_cmp_total numbers_apart

pub text_decided : (s t : List ℕ) → Decided (s ≡ t)
text_decided = told_by nat_list_cmp_total texts_apart

pub below_decided : (m n : ℕ) → Decided (m < n)
below_decided m zero = inr (λ h. omega (arith, h))
below_decided m (suc n) = elim (below_decided m n) [
  | inl below ↦ inl (omega (arith, below))
  | inr not_below ↦ elim (number_decided m n) [ inl same ↦ inl (omega (arith, same)) | inr other ↦ inr (λ h. grind (arith, h, not_below, other)) ]
]

pub upto_decided : (m n : ℕ) → Decided (m ≤ n)
upto_decided m n = decided_as (m < suc n) (m ≤ n) (λ h. omega (arith, h), λ h. omega (arith, h)) (below_decided m (suc n))

-- some number below a limit
pub some_below : (P : ℕ → Type 0) → ((n : ℕ) → Decided (P n)) → (limit : ℕ) → Decided ((n : ℕ) × (n < limit) × P n)
some_below P each zero = inr (λ h. omega (arith, h.1))
some_below P each (suc limit) = elim (each limit) [
  | inl here ↦ inl (limit, omega arith, here)
  | inr none ↦ elim (some_below P each limit) [
    | inl below ↦ inl (below.0, omega (arith, below.1), below.2)
    | inr neither ↦ inr (λ h. elim (number_decided h.0 limit) [
      | inl same ↦ none (subst P same h.2)
      | inr other ↦ neither (h.0, grind (arith, h.1, other), h.2)
    ])
  ]
]

module _ {X : Type 0} (P : X → Type 0) (each : (x : X) → Decided (P x)) where
  pub some_decided : (xs : List X) → Decided ((x : X) × Has xs x × P x)
  some_decided [] = inr (λ h. absurd h.1)
  some_decided (x ∷ xs) = elim (each x) [
    | inl here ↦ inl (x, inl refl, here)
    | inr none ↦ elim (some_decided xs) [
      | inl later ↦ inl (later.0, inr later.1, later.2)
      | inr neither ↦ inr (λ h. elim h.1 [ inl same ↦ none (subst P same h.2) | inr later ↦ neither (h.0, later, h.2) ])
    ]
  ]

  pub each_decided : (xs : List X) → Decided ((x : X) → Has xs x → P x)
  each_decided [] = inl (λ x h. absurd h)
  each_decided (x ∷ xs) = elim (each x) [
    | inr none ↦ inr (λ h. none (h x (inl refl)))
    | inl here ↦ elim (each_decided xs) [
      | inl later ↦ inl (λ y h. elim h [ inl same ↦ subst P (sym same) here | inr there ↦ later y there ])
      | inr some ↦ inr (λ h. some (λ y there. h y (inr there)))
    ]
  ]

  -- those of a list that are P
  with_decided : (x : X) → Decided (P x) → List X → List X
  with_decided x (inl here) more = x ∷ more
  with_decided x (inr none) more = more

  pub those : List X → List X
  those [] = []
  those (x ∷ xs) = with_decided x (each x) (those xs)

  first_of_those : (x : X) (said : Decided (P x)) (xs more : List X) → ((z : X) → Has more z ↔ (Has xs z × P z)) → (z : X) → Has (with_decided x said more) z ↔ (Has (x ∷ xs) z × P z)
  unfolding with_decided
  first_of_those x (inl here) xs more rest z = (
    λ h. elim h [ inl same ↦ (inl same, subst P (sym same) here) | inr later ↦ let there = (rest z).0 later in (inr there.0, there.1) ],
    λ h. elim h.0 [ inl same ↦ inl same | inr later ↦ inr ((rest z).1 (later, h.1)) ],
  )
  first_of_those x (inr none) xs more rest z = (
    λ h. let there = (rest z).0 h in (inr there.0, there.1),
    λ h. elim h.0 [ inl same ↦ absurd (none (subst P same h.1)) | inr later ↦ (rest z).1 (later, h.1) ],
  )

  pub those_are : (xs : List X) (z : X) → Has (those xs) z ↔ (Has xs z × P z)
  unfolding those
  those_are [] z = (λ h. absurd h, λ h. absurd h.0)
  those_are (x ∷ xs) z = first_of_those x (each x) xs (those xs) (λ y. those_are xs y) z

-- ---- rising lists

module _ {K : Type 0} {R : K → K → Ordering} (o : IsTotalOrder R) (apart : (x y : K) → R x y ≡ Equal → x ≡ y) where
  nothing_rises : IsStrictlySortedBy R []
  unfolding IsStrictlySortedBy
  nothing_rises = tt

  -- the members of a list, each once, in order
  pub rising_of : List K → List K
  rising_of xs = with_all o apart xs []

  pub rising_rises : (xs : List K) → IsStrictlySortedBy R (rising_of xs)
  unfolding rising_of
  rising_rises xs = all_rise o apart xs [] nothing_rises

  pub rising_has : (xs : List K) (x : K) → Has (rising_of xs) x ↔ Has xs x
  unfolding rising_of
  rising_has xs x = (
    λ h. elim ((all_there o apart xs [] x).0 h) [ inl none ↦ absurd none | inr there ↦ there ],
    λ h. (all_there o apart xs [] x).1 (inr h),
  )

-- a list of values made of those of a rising list
pub mapped_rises : {X Y : Type 0} (R : X → X → Ordering) (S : Y → Y → Ordering) (f : X → Y) → ((a b : X) → S (f a) (f b) ≡ R a b)
    → (xs : List X) → IsStrictlySortedBy R xs → IsStrictlySortedBy S (map f xs)
unfolding IsStrictlySortedBy
mapped_rises R S f same [] up = tt
mapped_rises R S f same (x ∷ xs) up = (
  all_from (λ y. S (f x) y ≡ Less) (map f xs) (λ y h. let from = has_mapped f xs y h in
      subst (λ z. S (f x) z ≡ Less) (sym from.2) (same x from.0 ∙ all_has (λ z. R x z ≡ Less) xs from.0 up.0 from.1)),
  mapped_rises R S f same xs up.1,
)
