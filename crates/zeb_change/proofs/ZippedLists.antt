-- Lists whose values go together place by place.
use Rattle.zeb_change.proofs.Cited.{◌≡◌, ◌++◌, List, [], ◌∷◌, refl, sym, ap₂, subst, inl, inr, map, AllZip, Has}

module _ {A B : Type 0} (R : A → B → Type 0) where
  pub zip_more : (xs : List A) (ys : List B) (x : A) (y : B) → AllZip R xs ys → R x y → AllZip R (xs ++ x ∷ []) (ys ++ y ∷ [])
  zip_more [] [] x y all one = (one, tt)
  zip_more [] (b ∷ ys) x y all one = absurd all
  zip_more (a ∷ xs) [] x y all one = absurd all
  zip_more (a ∷ xs) (b ∷ ys) x y all one = (all.0, zip_more xs ys x y all.1 one)

  pub zip_both : (xs : List A) (ys : List B) (us : List A) (vs : List B) → AllZip R xs ys → AllZip R us vs → AllZip R (xs ++ us) (ys ++ vs)
  zip_both [] [] us vs one two = two
  zip_both [] (b ∷ ys) us vs one two = absurd one
  zip_both (a ∷ xs) [] us vs one two = absurd one
  zip_both (a ∷ xs) (b ∷ ys) us vs one two = (one.0, zip_both xs ys us vs one.1 two)

  pub zip_left : (xs : List A) (ys : List B) → AllZip R xs ys → (x : A) → Has xs x → (y : B) × Has ys y × R x y
  zip_left [] ys all x there = absurd there
  zip_left (a ∷ xs) [] all x there = absurd all
  zip_left (a ∷ xs) (b ∷ ys) all x (inl same) = (b, inl refl, subst (λ (z : A). R z b) (sym same) all.0)
  zip_left (a ∷ xs) (b ∷ ys) all x (inr later) = let it = zip_left xs ys all.1 x later in (it.0, inr it.1, it.2)

  pub zip_right : (xs : List A) (ys : List B) → AllZip R xs ys → (y : B) → Has ys y → (x : A) × Has xs x × R x y
  zip_right xs [] all y there = absurd there
  zip_right [] (b ∷ ys) all y there = absurd all
  zip_right (a ∷ xs) (b ∷ ys) all y (inl same) = (a, inl refl, subst (R a) (sym same) all.0)
  zip_right (a ∷ xs) (b ∷ ys) all y (inr later) = let it = zip_right xs ys all.1 y later in (it.0, inr it.1, it.2)

  -- what is told of each pair is told of the lists
  pub zip_same : {K : Type 0} (f : A → K) (g : B → K) → ((x : A) (y : B) → R x y → g y ≡ f x) → (xs : List A) (ys : List B) → AllZip R xs ys → map g ys ≡ map f xs
  zip_same f g same [] [] all = refl
  zip_same f g same [] (b ∷ ys) all = absurd all
  zip_same f g same (a ∷ xs) [] all = absurd all
  zip_same {K} f g same (a ∷ xs) (b ∷ ys) all = ap₂ (λ (k : K) (ks : List K). k ∷ ks) (same a b all.0) (zip_same f g same xs ys all.1)

pub zip_then : {A B C : Type 0} (R : A → B → Type 0) (Q : B → C → Type 0) (P : A → C → Type 0) → ((x : A) (y : B) (z : C) → R x y → Q y z → P x z)
    → (xs : List A) (ys : List B) (zs : List C) → AllZip R xs ys → AllZip Q ys zs → AllZip P xs zs
zip_then R Q P both [] [] [] one two = tt
zip_then R Q P both [] [] (c ∷ zs) one two = absurd two
zip_then R Q P both [] (b ∷ ys) zs one two = absurd one
zip_then R Q P both (a ∷ xs) [] zs one two = absurd one
zip_then R Q P both (a ∷ xs) (b ∷ ys) [] one two = absurd two
zip_then R Q P both (a ∷ xs) (b ∷ ys) (c ∷ zs) one two = (both a b c one.0 two.0, zip_then R Q P both xs ys zs one.1 two.1)
