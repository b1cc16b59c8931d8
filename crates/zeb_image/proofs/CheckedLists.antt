-- Lists beside lists: pairs at each place, and lists that rise as what is made of them.
use Rattle.zeb_image.proofs.Cited.{◌≡◌, List, [], ◌∷◌, ◌++◌, map, Ordering, Less, refl, sym, subst, inl, inr, AllZip, Has, all_has, all_from, mapped_has}
use Rattle.std.specs.List.Sorted.{IsStrictlySortedBy}

module _ {A B : Type 0} (R : A → B → Type 0) where
  pub zip_right : (xs : List A) (ys : List B) → AllZip R xs ys → (y : B) → Has ys y → (x : A) × Has xs x × R x y
  zip_right [] [] zip y there = absurd there
  zip_right [] (b ∷ ys) zip y there = absurd zip
  zip_right (a ∷ xs) [] zip y there = absurd there
  zip_right (a ∷ xs) (b ∷ ys) zip y (inl same) = (a, inl refl, subst (R a) (sym same) zip.0)
  zip_right (a ∷ xs) (b ∷ ys) zip y (inr later) = let it = zip_right xs ys zip.1 y later in (it.0, inr it.1, it.2)

  pub zip_left : (xs : List A) (ys : List B) → AllZip R xs ys → (x : A) → Has xs x → (y : B) × Has ys y × R x y
  zip_left [] [] zip x there = absurd there
  zip_left [] (b ∷ ys) zip x there = absurd zip
  zip_left (a ∷ xs) [] zip x there = absurd zip
  zip_left (a ∷ xs) (b ∷ ys) zip x (inl same) = (b, inl refl, subst (λ z. R z b) (sym same) zip.0)
  zip_left (a ∷ xs) (b ∷ ys) zip x (inr later) = let it = zip_left xs ys zip.1 x later in (it.0, inr it.1, it.2)

  pub zip_push : (xs : List A) (ys : List B) (x : A) (y : B) → AllZip R xs ys → R x y → AllZip R (xs ++ x ∷ []) (ys ++ y ∷ [])
  zip_push [] [] x y zip last = (last, tt)
  zip_push [] (b ∷ ys) x y zip last = absurd zip
  zip_push (a ∷ xs) [] x y zip last = absurd zip
  zip_push (a ∷ xs) (b ∷ ys) x y zip last = (zip.0, zip_push xs ys x y zip.1 last)

  -- they rise as the list beside them
  pub zip_rises : (S : A → A → Ordering) (T : B → B → Ordering) → ((a c : A) (b d : B) → R a b → R c d → S a c ≡ Less → T b d ≡ Less) → (xs : List A) (ys : List B) → AllZip R xs ys
      → IsStrictlySortedBy S xs → IsStrictlySortedBy T ys
  unfolding IsStrictlySortedBy
  zip_rises S T so [] [] zip up = tt
  zip_rises S T so [] (b ∷ ys) zip up = absurd zip
  zip_rises S T so (a ∷ xs) [] zip up = absurd zip
  zip_rises S T so (a ∷ xs) (b ∷ ys) zip up = (
    all_from (λ d. T b d ≡ Less) ys (λ d h. let it = zip_right xs ys zip.1 d h in so a it.0 b d zip.0 it.2 (all_has (λ c. S a c ≡ Less) xs it.0 up.0 it.1)),
    zip_rises S T so xs ys zip.1 up.1,
  )

-- what rises by what is made of it
pub rises_before : {A B : Type 0} (R : B → B → Ordering) (S : A → A → Ordering) (f : A → B) (xs : List A) → ((a b : A) → Has xs a → Has xs b → R (f a) (f b) ≡ Less → S a b ≡ Less)
    → IsStrictlySortedBy R (map f xs) → IsStrictlySortedBy S xs
unfolding IsStrictlySortedBy
rises_before R S f [] so up = tt
rises_before R S f (x ∷ xs) so up = (
  all_from (λ b. S x b ≡ Less) xs (λ b h. so x b (inl refl) (inr h) (all_has (λ r. R (f x) r ≡ Less) (map f xs) (f b) up.0 (mapped_has f xs b h))),
  rises_before R S f xs (λ a b here there. so a b (inr here) (inr there)) up.1,
)
