-- Lists of which the texts rise.
use Rattle.zeb_search.proofs.Cited.{◌≡◌, ◌++◌, ◌∷◌, ◌-◌, [], ℕ, suc, List, Ordering, Less, Some, length, map, slice_get, arith, sym, subst, subst₂, take, inl, inr, nat_cmp, slice_cmp, nat_list_cmp_total, map-append, get_or_from_slice_get, slice_get_within, Has, all_from, all_has, has_right, has_mapped, mapped_has, TermCount, term_cmp, before_last, front_rises, joined_rises, last_view, Precedes, Rise, TermsRise}
use Rattle.std.specs.List.Sorted.{IsStrictlySortedBy}

rises_mapped : {X K : Type 0} (f : X → K) (R : K → K → Ordering) (xs : List X) → IsStrictlySortedBy (λ x y. R (f x) (f y)) xs → IsStrictlySortedBy R (map f xs)
unfolding IsStrictlySortedBy
rises_mapped f R [] up = tt
rises_mapped f R (x ∷ xs) up = (
  all_from (λ k. R (f x) k ≡ Less) (map f xs) (λ k there.
      let from = has_mapped f xs k there in
      subst (λ j. R (f x) j ≡ Less) (sym from.2) (all_has (λ y. R (f x) (f y) ≡ Less) xs from.0 up.0 from.1)),
  rises_mapped f R xs up.1,
)

pub terms_rise : (terms : List TermCount) → IsStrictlySortedBy term_cmp terms → TermsRise terms
terms_rise terms up = rises_mapped (λ (t : TermCount). t.term) (slice_cmp nat_cmp) terms up

module _ {X : Type 0} (text : X → List ℕ) where
  pub none_rises : Rise text []
  unfolding IsStrictlySortedBy
  none_rises = tt

  pub one_rises : (x : X) → Rise text (x ∷ [])
  unfolding IsStrictlySortedBy
  one_rises x = (tt, tt)

  cut_mapped : (xs ys : List X) → Rise text (xs ++ ys) → IsStrictlySortedBy (slice_cmp nat_cmp) (map text xs ++ map text ys)
  cut_mapped xs ys up = subst (IsStrictlySortedBy (slice_cmp nat_cmp)) (map-append text xs ys) up

  pub front_rise : (xs ys : List X) → Rise text (xs ++ ys) → Rise text xs
  front_rise xs ys up = front_rises nat_list_cmp_total (map text xs) (map text ys) (cut_mapped xs ys up)

  pub back_rise : (xs ys : List X) → Rise text (xs ++ ys) → Rise text ys
  unfolding IsStrictlySortedBy
  back_rise [] ys up = up
  back_rise (x ∷ xs) ys up = back_rise xs ys up.1

  pub before_behind : (xs ys : List X) → Rise text (xs ++ ys) → (z y : X) → Has xs z → Has ys y → Precedes (text z) (text y)
  unfolding IsStrictlySortedBy
  before_behind [] ys up z y here there = absurd here
  before_behind (x ∷ xs) ys up z y (inl same) there =
      subst (λ w. Precedes (text w) (text y)) (sym same) (all_has (λ k. slice_cmp nat_cmp (text x) k ≡ Less) (map text (xs ++ ys)) (text y) up.0 (mapped_has text (xs ++ ys) y (has_right xs ys y there)))
  before_behind (x ∷ xs) ys up z y (inr later) there = before_behind xs ys up.1 z y later there

  -- one list behind the other
  pub joined_rise : (xs ys : List X) → Rise text xs → Rise text ys → ((x y : X) → Has xs x → Has ys y → Precedes (text x) (text y)) → Rise text (xs ++ ys)
  joined_rise xs ys up down lower = subst (IsStrictlySortedBy (slice_cmp nat_cmp)) (sym (map-append text xs ys)) (joined_rises nat_list_cmp_total (map text xs) (map text ys) up down (λ s t here there.
      let x = has_mapped text xs s here in
      let y = has_mapped text ys t there in
      subst₂ Precedes (sym x.2) (sym y.2) (lower x.0 y.0 x.1 y.1)))

  pub before_last_text : (xs : List X) (x : X) → Rise text (xs ++ x ∷ []) → (z : X) → Has xs z → Precedes (text z) (text x)
  before_last_text xs x up z there = before_last nat_list_cmp_total (map text xs) (text x) (cut_mapped xs (x ∷ []) up) (text z) (mapped_has text xs z there)

-- the last of a list, as `last` gets it
pub last_got : {X : Type 0} (xs : List X) (x : X) → slice_get xs (length xs - 1) ≡ Some x → xs ≡ take (length xs - 1) xs ++ x ∷ []
last_got xs x got =
    let within = slice_get_within xs (length xs - 1) x got in
    last_view (length xs - 1) xs x (let long : length xs ≡ suc (length xs - 1) = omega (arith, within) in long) (sym (get_or_from_slice_get xs (length xs - 1) x x got))
