-- The postings of a list behind which one of another list stands, found in one walk over both, which rise.
use Rattle.zeb_search.proofs.Cited.{◌≡◌, ◌∙◌, ◌↔◌, ◌⊎◌, ◌≤◌, ◌<◌, ℕ, zero, suc, ◌+◌, Bool, true, false, cond, length, get_or, take, List, [], ◌∷◌, ◌++◌, IsTrue, Option, Some, None, ◌-◌, Ordering, Less, refl, sym, ap, subst, inl, inr, arith, nat_cmp, ordering_then, is_less, cases_lt, get_or_default, Has, all_has, has_at, has_left, has_right, has_either, contains_had, posting_cmp, Posting, posting_total, pushed_rises, taken_below, taken_more, ArePostings, Words, HasWithin, IsBefore, IsBehind, IsUpTo, IsWithin}
use Rattle.std.specs.List.Sorted.{IsStrictlySortedBy}
use Rattle.zeb_search.proofs.Comparisons.{ranked_numbers}

-- ---- postings in order

-- what is read past the end of a list
abbrev pub origin : Posting
origin = record { sysno = 0; seq = 0; pos = 0 }

rises_at : {K : Type 0} (R : K → K → Ordering) (xs : List K) (i j : ℕ) (d e : K) → IsStrictlySortedBy R xs → i < j → j < length xs → R (get_or xs i d) (get_or xs j e) ≡ Less
unfolding IsStrictlySortedBy
rises_at R [] i j d e up before within = absurd (omega (arith, within))
rises_at R (x ∷ xs) i zero d e up before within = absurd (omega (arith, before))
rises_at R (x ∷ xs) zero (suc j) d e up before within = all_has (λ y. R x y ≡ Less) xs (get_or xs j e) up.0 (has_at xs j (get_or xs j e) (omega (arith, within)) (get_or_default xs j e _ (omega (arith, within))))
rises_at R (x ∷ xs) (suc i) (suc j) d e up before within = rises_at R xs i j d e up.1 (omega (arith, before)) (omega (arith, within))

abbrev Precedes : Posting → Posting → Type 0
Precedes p q = (p.sysno < q.sysno) ⊎ ((p.sysno ≡ q.sysno) × ((p.seq < q.seq) ⊎ ((p.seq ≡ q.seq) × (p.pos < q.pos))))

precedes : (p q : Posting) → posting_cmp p q ≡ Less → Precedes p q
precedes p q h = elim (ranked_numbers p.sysno q.sysno (ordering_then (nat_cmp p.seq q.seq) (nat_cmp p.pos q.pos)) h) [
  | inl lower ↦ inl lower
  | inr same ↦ inr (same.0, elim (ranked_numbers p.seq q.seq (nat_cmp p.pos q.pos) same.1) [ inl lower ↦ inl lower | inr alike ↦ inr (alike.0, is_less p.pos q.pos alike.1) ])
]

-- ---- what stands before a place, and what stands behind

-- what stands before the place behind one posting stands before the place behind each later one
before_later : (least : ℕ) (q p r : Posting) → IsBefore least q p → Precedes p r → IsBefore least q r
before_later least q p r before later = grind arith

-- a lower number, not below the least one
lower_within : (range : Words) (many few : ℕ) → IsWithin range many → range.least ≤ few → few ≤ many → IsWithin range few
lower_within range many few within least upto = (least, go range.greatest within.1)
  where
    go : (greatest : Option ℕ) → IsUpTo greatest many → IsUpTo greatest few
    go None h = tt
    go (Some greatest) h = omega (arith, h, upto)

-- the first that doesn't stand before stands behind where any does
first_behind : (range : Words) (first q p : Posting) → (IsBefore range.least first p → ⊥) → (first ≡ q) ⊎ Precedes first q → IsBehind range q p → IsBehind range first p
first_behind range first q p after (inl same) behind = subst (λ (r : Posting). IsBehind range r p) (sym same) behind
first_behind range first q p after (inr (inl lower)) behind = absurd (after (inl (omega (arith, lower, behind.0))))
first_behind range first q p after (inr (inr (same, inl lower))) behind = absurd (after (inr (same ∙ behind.0, inl (omega (arith, lower, behind.1)))))
first_behind range first q p after (inr (inr (same, inr (alike, lower)))) behind =
    let from : p.pos + range.least ≤ first.pos =
    elim (cases_lt first.pos (p.pos + range.least)) [ inl low ↦ absurd (after (inr (same ∙ behind.0, inr (alike ∙ behind.1, low)))) | inr high ↦ high ] in (
      same ∙ behind.0,
      alike ∙ behind.1,
      omega (arith, from),
      lower_within range (q.pos - p.pos) (first.pos - p.pos) behind.3 (omega (arith, from)) (omega (arith, from, lower)),
    )

not_both : (range : Words) (q p : Posting) → IsBefore range.least q p → IsBehind range q p → ⊥
not_both range q p (inl lower) behind = omega (arith, lower, behind.0)
not_both range q p (inr (same, inl lower)) behind = omega (arith, lower, behind.1)
not_both range q p (inr (same, inr (alike, low))) behind = omega (arith, low, behind.2, behind.3.0)

-- ---- the walk

-- The postings before a place of the list are told of, and each of the others before a place of theirs stands before what is looked for
-- next.
pub record AreFollowed (range : Words) (postings others : List Posting) (i at : ℕ) (list : List Posting) : Type 0 where
  pub are : ArePostings (λ p. Has (take i postings) p × HasWithin range others p) list
  pub passed : (k : ℕ) (d e : Posting) → k < at → i < length postings → IsBefore range.least (get_or others k d) (get_or postings i e)

-- one stands behind the posting just where the first that doesn't stand before does
module _ (range : Words) (others : List Posting) (at : ℕ) (p : Posting) (up : IsStrictlySortedBy posting_cmp others)
    (before : (k : ℕ) (d : Posting) → k < at → IsBefore range.least (get_or others k d) p) (first : (d : Posting) → at < length others → ¬ IsBefore range.least (get_or others at d) p) where
  found_behind : (d : Posting) → at < length others → IsBehind range (get_or others at d) p → HasWithin range others p
  found_behind d within behind = (get_or others at d, has_at others at (get_or others at d) within (get_or_default others at d _ within), behind)

  behind_found : HasWithin range others p → (at < length others) × ((d : Posting) → IsBehind range (get_or others at d) p)
  behind_found h =
      let q = h.0 in
      let behind : IsBehind range q p = h.2 in
      let k = contains_had others q h.1 in
      elim (cases_lt k.0 at) [
        | inl lower ↦ absurd (not_both range q p (subst (λ (r : Posting). IsBefore range.least r p) k.2 (before k.0 q lower)) behind)
        | inr upto ↦
            let within : at < length others = omega (arith, k.1, upto) in
            (within, λ d. first_behind range (get_or others at d) q p (first d within) (from k.0 k.1 upto d k.2) behind)
      ]
    where
      from : (k : ℕ) → k < length others → at ≤ k → (d : Posting) → {q : Posting} → get_or others k q ≡ q → (get_or others at d ≡ q) ⊎ Precedes (get_or others at d) q
      from k within upto d {q} is = elim (cases_lt at k) [
        | inl lower ↦ inr (subst (Precedes (get_or others at d)) is (precedes (get_or others at d) (get_or others k q) (rises_at posting_cmp others at k d q up lower within)))
        | inr same ↦ inl (ap (λ n. get_or others n d) (let e : at ≡ k = omega arith in e) ∙ get_or_default others k d q within ∙ is)
      ]

  found_is : (d : Posting) → ((at < length others) × IsBehind range (get_or others at d) p) ↔ HasWithin range others p
  found_is d = (λ h. found_behind d h.0 h.1, λ h. let found = behind_found h in (found.0, found.1 d))

module _ (range : Words) (postings others : List Posting) (i at next : ℕ) (p d : Posting) (kept : Bool) (old new : List Posting)
    (up : IsStrictlySortedBy posting_cmp postings) (down : IsStrictlySortedBy posting_cmp others) (within : i < length postings) (is : p ≡ get_or postings i p)
    (before : (k : ℕ) (d : Posting) → at ≤ k → k < next → IsBefore range.least (get_or others k d) p) (first : (d : Posting) → next < length others → ¬ IsBefore range.least (get_or others next d) p)
    (keeps : IsTrue kept ↔ ((next < length others) × IsBehind range (get_or others next d) p)) (pushed : new ≡ cond kept (old ++ p ∷ []) old) where
  all_before : AreFollowed range postings others i at old → (k : ℕ) (d : Posting) → k < next → IsBefore range.least (get_or others k d) p
  all_before followed k d lower = elim (cases_lt k at) [
    | inl passed ↦ subst (IsBefore range.least (get_or others k d)) (sym is) (followed.passed k d p passed within)
    | inr upto ↦ before k d upto lower
  ]

  kept_is : AreFollowed range postings others i at old → IsTrue kept ↔ HasWithin range others p
  kept_is followed =
      let found = found_is range others next p down (all_before followed) first d in
      (λ h. found.0 (keeps.0 h), λ h. keeps.1 (found.1 h))

  step_passed : AreFollowed range postings others i at old → (k : ℕ) (d e : Posting) → k < next → i + 1 < length postings → IsBefore range.least (get_or others k d) (get_or postings (i + 1) e)
  step_passed followed k d e lower more =
      before_later range.least (get_or others k d) p (get_or postings (i + 1) e) (all_before followed k d lower)
      (precedes p (get_or postings (i + 1) e) (subst (λ (r : Posting). posting_cmp r (get_or postings (i + 1) e) ≡ Less) (sym is) (rises_at posting_cmp postings i (i + 1) p e up (omega arith) more)))

  step_are : AreFollowed range postings others i at old → (flag : Bool) → IsTrue flag ↔ HasWithin range others p → new ≡ cond flag (old ++ p ∷ []) old
      → ArePostings (λ p. Has (take (i + 1) postings) p × HasWithin range others p) new
  step_are followed true has added = record {
    rising = rw added (pushed_rises posting_total old p followed.are.rising (λ z h. taken_below posting_total postings i p up within is z ((followed.are.each z).0 h).0));
    each = λ z. (
      λ h. elim (has_either old (p ∷ []) z (subst (λ l. Has l z) added h)) [
        | inl there ↦ let was = (followed.are.each z).0 there in ((taken_more postings i p within is z).1 (inl was.0), was.1)
        | inr last ↦ elim last [ inl same ↦ ((taken_more postings i p within is z).1 (inr same), subst (HasWithin range others) (sym same) (has.0 refl)) | inr none ↦ absurd none ]
      ],
      λ h. subst (λ l. Has l z) (sym added) (elim ((taken_more postings i p within is z).0 h.0) [
        | inl there ↦ has_left old (p ∷ []) z ((followed.are.each z).1 (there, h.1))
        | inr same ↦ has_right old (p ∷ []) z (inl same)
      ]),
    );
  }
  step_are followed false has added = record {
    rising = rw added followed.are.rising;
    each = λ z. (
      λ h. let was = (followed.are.each z).0 (subst (λ l. Has l z) added h) in ((taken_more postings i p within is z).1 (inl was.0), was.1),
      λ h. subst (λ l. Has l z) (sym added) (elim ((taken_more postings i p within is z).0 h.0) [
        | inl there ↦ (followed.are.each z).1 (there, h.1)
        | inr same ↦ absurd (let e : false ≡ true = has.1 (subst (HasWithin range others) same h.1) in cc)
      ]),
    );
  }

  pub follow_step : AreFollowed range postings others i at old → AreFollowed range postings others (i + 1) next new
  follow_step followed = record {
    are = step_are followed kept (kept_is followed) pushed;
    passed = step_passed followed;
  }

pub follow_begins : (range : Words) (postings others : List Posting) → AreFollowed range postings others 0 0 []
unfolding IsStrictlySortedBy
follow_begins range postings others = record {
  are = record { rising = tt; each = λ p. (λ h. absurd h, λ h. h.0) };
  passed = λ k d e lower. absurd (omega (arith, lower));
}
