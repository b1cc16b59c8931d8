-- Two terms, by all that they share at their front and by what each has behind it.
use Rattle.zeb_leaf.proofs.Cited.{◌≡◌, ℕ, suc, ◌<◌, ◌≤◌, ◌⊎◌, List, [], ◌∷◌, ◌++◌, length, take, drop, refl, sym, ◌∙◌, ap, inl, inr, arith, common_steps, Less, Equal, cases_eq, eq-eqb, ne_eqb, slice_cmp, nat_cmp, ordering_then, shared_of, Rises}

-- a term and a block are above a place
abbrev pub Above : List ℕ → ℕ → List ℕ → ℕ → Type 0
Above before least term block = (slice_cmp nat_cmp before term ≡ Less) ⊎ ((before ≡ term) × (least ≤ block))

pub cmp_itself : (n : ℕ) → nat_cmp n n ≡ Equal
cmp_itself n = grind (arith, common_steps)

pub shared-same : (x : ℕ) (xs ys : List ℕ) → shared_of (x ∷ xs) (x ∷ ys) ≡ suc (shared_of xs ys)
shared-same x xs ys = rw (eq-eqb x x refl) (omega arith)

pub shared-other : (x y : ℕ) (xs ys : List ℕ) → ¬ (x ≡ y) → shared_of (x ∷ xs) (y ∷ ys) ≡ 0
shared-other x y xs ys other = rw (ne_eqb x y other) refl

pub shared_none : (xs : List ℕ) → shared_of xs [] ≡ 0
shared_none [] = refl
shared_none (x ∷ xs) = refl

-- what is shared is the same in both
pub take_shared : (xs ys : List ℕ) → take (shared_of xs ys) xs ≡ take (shared_of xs ys) ys
take_shared [] ys = grind (arith, common_steps)
take_shared (x ∷ xs) [] = grind (arith, common_steps)
take_shared (x ∷ xs) (y ∷ ys) = elim (cases_eq x y) [
  | inl same ↦ rw (← same, shared-same x xs ys) (ap (λ (zs : List ℕ). x ∷ zs) (take_shared xs ys))
  | inr other ↦ rw (shared-other x y xs ys other) refl
]

-- terms that share a front, and then rise or end together
pub shared_told : (front xs ys : List ℕ) (least block : ℕ) → Rises xs ys least block → shared_of (front ++ xs) (front ++ ys) ≡ length front
shared_told [] [] ys least block up = refl
shared_told [] (x ∷ xs) [] least block up = absurd up
shared_told [] (x ∷ xs) (y ∷ ys) least block up = shared-other x y xs ys (λ same. omega (arith, up, same))
shared_told (z ∷ front) xs ys least block up = shared-same z (front ++ xs) (front ++ ys) ∙ ap suc (shared_told front xs ys least block up)

pub above_told : (front xs ys : List ℕ) (least block : ℕ) → Rises xs ys least block → Above (front ++ xs) least (front ++ ys) block
above_told [] [] [] least block up = inr (refl, up)
above_told [] [] (y ∷ ys) least block up = inl refl
above_told [] (x ∷ xs) [] least block up = absurd up
above_told [] (x ∷ xs) (y ∷ ys) least block up = let e : nat_cmp x y ≡ Less = grind (arith, common_steps, up) in inl (ap (λ o. ordering_then o (slice_cmp nat_cmp xs ys)) e)
above_told (z ∷ front) xs ys least block up = elim (above_told front xs ys least block up) [
  | inl less ↦ inl (ap (λ o. ordering_then o (slice_cmp nat_cmp (front ++ xs) (front ++ ys))) (cmp_itself z) ∙ less)
  | inr level ↦ inr (ap (λ (zs : List ℕ). z ∷ zs) level.0, level.1)
]

-- behind all that they share, they rise
pub rises_behind : (xs ys : List ℕ) (least block : ℕ) → Above xs least ys block → Rises (drop (shared_of xs ys) xs) (drop (shared_of xs ys) ys) least block
rises_behind [] [] least block (inl less) = absurd (cc)
rises_behind [] [] least block (inr level) = level.1
rises_behind [] (y ∷ ys) least block above = tt
rises_behind (x ∷ xs) [] least block (inl less) = absurd (cc)
rises_behind (x ∷ xs) [] least block (inr level) = let e = level.0 in absurd (cc)
rises_behind (x ∷ xs) (y ∷ ys) least block above = elim (cases_eq x y) [
  | inl same ↦ rw (← same, shared-same x xs ys) (rises_behind xs ys least block (tails x y xs ys least block same above))
  | inr other ↦ rw (shared-other x y xs ys other) (heads x y xs ys least block other above)
]
  where
    tails : (x y : ℕ) (xs ys : List ℕ) (least block : ℕ) → x ≡ y → Above (x ∷ xs) least (y ∷ ys) block → Above xs least ys block
    tails x y xs ys least block same (inl less) = inl (ap (λ o. ordering_then o (slice_cmp nat_cmp xs ys)) (sym (ap (nat_cmp x) (sym same) ∙ cmp_itself x)) ∙ less)
    tails x y xs ys least block same (inr level) = let e = level.0 in inr ((cc), level.1)

    heads : (x y : ℕ) (xs ys : List ℕ) (least block : ℕ) → ¬ (x ≡ y) → Above (x ∷ xs) least (y ∷ ys) block → x < y
    heads x y xs ys least block other (inl less) = grind (arith, common_steps, less, other)
    heads x y xs ys least block other (inr level) = let e = level.0 in let f : x ≡ y = cc in absurd (other f)
