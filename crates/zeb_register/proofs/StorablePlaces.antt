-- Places that rise, and that columns store.
use Rattle.zeb_register.proofs.Cited.{◌≡◌, ◌⊎◌, ◌+◌, ◌<◌, ℕ, suc, List, [], ◌∷◌, ◌++◌, drop, drop-cons, get_or, length, sym, ap, subst, inl, inr, Ordering, Less, nat_cmp, arith, ordering_then, Has, all_from, all_has, Place, place_cmp, AreStorablePlaces, IsStorablePlace}
use Rattle.zeb_register.proofs.ContentChanges.{place_total}
use Rattle.zeb_register.proofs.CountLemmas.{has_end, less_is}
use Rattle.zeb_register.proofs.RisingLists.{pushed_rises}
use Rattle.std.specs.List.Sorted.{IsStrictlySortedBy}

-- ---- places that rise

-- stored places, of which none is above the last that was looked at
pub record AreUpTo (places : List Place) (last : Place) : Type 0 where
  pub stored : AreStorablePlaces places
  pub upto : (p : Place) → Has places p → (p ≡ last) ⊎ (place_cmp p last ≡ Less)

pub upto_none : (last : Place) → AreUpTo [] last
unfolding IsStrictlySortedBy
upto_none last = record { stored = (tt, tt); upto = λ p here. absurd here }

pub upto_more : (places : List Place) (last p : Place) → AreUpTo places last → IsStorablePlace p → place_cmp last p ≡ Less → AreUpTo (places ++ p ∷ []) p
upto_more places last p are stored above = record {
  stored = (
    pushed_rises place_total places p are.stored.0 lower,
    all_from IsStorablePlace (places ++ p ∷ []) (λ q h. elim (has_end places p q h) [ inl there ↦ all_has IsStorablePlace places q are.stored.1 there | inr same ↦ subst IsStorablePlace (sym same) stored ]),
  );
  upto = λ q h. elim (has_end places p q h) [ inl there ↦ inr (lower q there) | inr same ↦ inl same ];
}
  where
    lower : (q : Place) → Has places q → place_cmp q p ≡ Less
    lower q h = elim (are.upto q h) [
      | inl same ↦ subst (λ (r : Place). place_cmp r p ≡ Less) (sym same) above
      | inr less ↦ place_total.trans q last p less above
    ]

pub below_first : (m n : ℕ) (x : Ordering) → m < n → ordering_then (nat_cmp m n) x ≡ Less
below_first m n x h = ap (λ o. ordering_then o x) (less_is m n h)

-- places whose numbers are 1 and more rise above 0
pub rise_from : (places : List Place) → AreStorablePlaces places → IsStrictlySortedBy place_cmp (record { seq = 0; pos = 0 } ∷ places)
unfolding IsStrictlySortedBy
rise_from places stored = (
  all_from (λ q. place_cmp (record { seq = 0; pos = 0 }) q ≡ Less) places (λ q h. below_first 0 q.seq _ (omega (arith, (all_has IsStorablePlace places q stored.1 h).seq.0))),
  stored.0,
)

-- of places that rise the first is below the second
pub rise_next : (places : List Place) (i : ℕ) (d before : Place) → i < length places → IsStrictlySortedBy place_cmp (before ∷ drop i places)
    → (place_cmp before (get_or places i d) ≡ Less) × IsStrictlySortedBy place_cmp (get_or places i d ∷ drop (i + 1) places)
unfolding IsStrictlySortedBy
rise_next places i d before below up =
    let next : suc i ≡ i + 1 = omega arith in
    let all = subst (λ l. IsStrictlySortedBy place_cmp (before ∷ l)) (drop-cons places i d below) up in
    (all.0.0, subst (λ n. IsStrictlySortedBy place_cmp (get_or places i d ∷ drop n places)) next all.1)
