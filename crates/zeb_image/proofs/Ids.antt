-- Tests of the ids of databases, and lists that have nothing in them.
use Rattle.zeb_image.proofs.Cited.{◌≡◌, ◌≢◌, ◌⊎◌, ◌∙◌, ℤ, true, false, List, [], ◌∷◌, refl, sym, ap, inl, inr, Ordering, Equal, int_cmp, int_eq, is_eq, tied_itself, int_cmp_total, Contains, exact_signed, contains_had}

pub id_same : (a b : ℤ) → a ≡ b → int_eq a b ≡ true
id_same a b same = ap (λ x. is_eq (int_cmp a x)) (sym same) ∙ ap is_eq (tied_itself int_cmp_total a)

pub ids_told : (a b : ℤ) → (a ≡ b) ⊎ (a ≢ b)
ids_told a b = from (int_cmp a b) refl
  where
    from : (r : Ordering) → int_cmp a b ≡ r → (a ≡ b) ⊎ (a ≢ b)
    from Equal is = inl (exact_signed a b is)
    from r is = inr (λ same. let e : r ≡ Equal = sym is ∙ ap (int_cmp a) (sym same) ∙ tied_itself int_cmp_total a in cc)

pub id_other : (a b : ℤ) → a ≢ b → int_eq a b ≡ false
id_other a b other = from (int_cmp a b) refl
  where
    from : (r : Ordering) → int_cmp a b ≡ r → int_eq a b ≡ false
    from Equal is = absurd (other (exact_signed a b is))
    from _ is = ap is_eq is

pub none_in : {X : Type 0} (xs : List X) → ((x : X) → ¬ Contains xs x) → xs ≡ []
none_in [] none = refl
none_in (x ∷ xs) none = absurd (none x (contains_had (x ∷ xs) x (inl refl)))
