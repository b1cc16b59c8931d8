-- Two lists, item by item: what is read of one beside what is said of the other.
use Rattle.zeb_register.proofs.Cited.{has_either, Has, ◌≡◌, ◌∙◌, ◌+◌, ◌<◌, ◌≤◌, ◌⊎◌, ℕ, zero, suc, List, [], ◌∷◌, ◌++◌, map, take, length, get_or, slice_get, Some, inl, inr, refl, sym, ap, ap₂, subst, arith, eqb_tells, take_more, map-append}

module _ {A B C : Type 0} (f : A → C) (g : B → C) where
  pub alike_more : (xs : List A) (ys : List B) (i : ℕ) (x : A) (y : B) → x ≡ get_or xs i x → y ≡ get_or ys i y → i < length xs → i < length ys → map f (take i xs) ≡ map g (take i ys) → f x ≡ g y
      → map f (take (i + 1) xs) ≡ map g (take (i + 1) ys)
  alike_more xs ys i x y here there left right before same =
      ap (map f) (take_more xs i x left) ∙ map-append f (take i xs) (get_or xs i x ∷ []) ∙ ap₂ (λ a b. a ++ b ∷ []) before (ap f (sym here) ∙ same ∙ ap g there)
      ∙ sym (ap (map g) (take_more ys i y right) ∙ map-append g (take i ys) (get_or ys i y ∷ []))

  alike_got : (xs : List A) (ys : List B) (i : ℕ) (x : A) (y : B) → i < length xs → i < length ys → map f xs ≡ map g ys → f (get_or xs i x) ≡ g (get_or ys i y)
  alike_got [] ys i x y left right same = absurd (omega arith)
  alike_got (a ∷ xs) [] i x y left right same = absurd (omega arith)
  alike_got (a ∷ xs) (b ∷ ys) zero x y left right same = let e : f a ≡ g b = cc in e
  alike_got (a ∷ xs) (b ∷ ys) (suc i) x y left right same = alike_got xs ys i x y (omega arith) (omega arith) (let e : map f xs ≡ map g ys = cc in e)

  pub alike_at : (xs : List A) (ys : List B) (i : ℕ) (x : A) (y : B) → x ≡ get_or xs i x → y ≡ get_or ys i y → i < length xs → i < length ys → map f xs ≡ map g ys → f x ≡ g y
  alike_at xs ys i x y here there left right same = ap f here ∙ alike_got xs ys i x y left right same ∙ ap g (sym there)

pub take_all : {X : Type 0} (n : ℕ) (xs : List X) → length xs ≤ n → take n xs ≡ xs
take_all zero [] few = refl
take_all zero (x ∷ xs) few = absurd (omega arith)
take_all (suc n) [] few = refl
take_all (suc n) (x ∷ xs) few = ap (λ l. x ∷ l) (take_all n xs (omega arith))

module _ {X : Type 0} (P : X → Type 0) where
  -- what is so of the items up to one, and of it
  pub each_more : (xs : List X) (i : ℕ) (x : X) → x ≡ get_or xs i x → i < length xs → ((y : X) → Has (take i xs) y → P y) → P x → (y : X) → Has (take (i + 1) xs) y → P y
  each_more xs i x is within before this y here =
      elim (has_either (take i xs) (x ∷ []) y (subst (λ l. Has l y) (take_more xs i x within ∙ ap (λ z. take i xs ++ z ∷ []) (sym is)) here)) [
        | inl there ↦ before y there
        | inr last ↦ elim last [ inl same ↦ subst P (sym same) this | inr none ↦ absurd none ]
      ]

  pub each_whole : (xs : List X) (n : ℕ) → length xs ≤ n → ((y : X) → Has (take n xs) y → P y) → (y : X) → Has xs y → P y
  each_whole xs n few each y here = each y (subst (λ l. Has l y) (sym (take_all n xs few)) here)

-- what stands at a place of a list
pub got_same : {X : Type 0} (xs : List X) (i : ℕ) (x y : X) → slice_get xs i ≡ Some x → y ≡ get_or xs i y → x ≡ y
got_same [] i x y at is = absurd (cc)
got_same (z ∷ xs) zero x y at is = let e : z ≡ x = cc in sym e ∙ sym is
got_same (z ∷ xs) (suc i) x y at is = got_same xs i x y at is

pub got_is : {X : Type 0} (xs : List X) (i : ℕ) (x : X) → x ≡ get_or xs i x → i < length xs → slice_get xs i ≡ Some x
got_is [] i x is within = absurd (omega arith)
got_is (z ∷ xs) zero x is within = ap Some (sym is)
got_is (z ∷ xs) (suc i) x is within = got_is xs i x is (omega arith)

pub at_or_below : (k i : ℕ) → k < i + 1 → (k < i) ⊎ (k ≡ i)
at_or_below k i below = elim (eqb_tells k i) [ inl yes' ↦ inr yes'.1 | inr no' ↦ inl (omega (arith, no'.1)) ]

pub got_in : {X : Type 0} (xs : List X) (i : ℕ) (x : X) → slice_get xs i ≡ Some x → i < length xs
got_in [] i x at = absurd (cc)
got_in (z ∷ xs) zero x at = omega arith
got_in (z ∷ xs) (suc i) x at = let e = got_in xs i x at in omega arith

pub got_had : {X : Type 0} (xs : List X) (x : X) → Has xs x → (i : ℕ) × (slice_get xs i ≡ Some x)
got_had [] x here = absurd here
got_had (z ∷ xs) x (inl same) = (0, ap Some (sym same))
got_had (z ∷ xs) x (inr later) = let it = got_had xs x later in (suc it.0, it.1)

-- two lists that are alike have items that are alike at each place
pub got_alike : {A B C : Type 0} (f : A → C) (g : B → C) (xs : List A) (ys : List B) → map f xs ≡ map g ys → (i : ℕ) (y : B) → slice_get ys i ≡ Some y → (x : A) × (slice_get xs i ≡ Some x) × (f x ≡ g y)
got_alike f g [] [] same i y at = absurd (cc)
got_alike f g [] (b ∷ ys) same i y at = absurd (cc)
got_alike f g (a ∷ xs) [] same i y at = absurd (cc)
got_alike f g (a ∷ xs) (b ∷ ys) same zero y at = let e : b ≡ y = cc in (a, refl, (let h : f a ≡ g b = cc in h) ∙ ap g e)
got_alike f g (a ∷ xs) (b ∷ ys) same (suc i) y at = got_alike f g xs ys (let e : map f xs ≡ map g ys = cc in e) i y at
