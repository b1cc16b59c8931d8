-- Lists that rise in an order that tells values apart: each is told by its members, and for each list of members there is one.
use Rattle.zeb_register.proofs.Cited.{all_has, all_from, has_filtered, has_left, has_right, has_either, Has, ◌≡◌, ◌≢◌, ◌↔◌, ◌⊎◌, ◌∙◌, Bool, true, false, cond, ℕ, zero, suc, ◌<◌, ◌≤◌, arith, length, take, reverse, reverse-append, List, [], ◌∷◌, ◌++◌, refl, sym, ap, ap₂, subst, inl, inr, Ordering, Less, Equal, Greater, filter, tied_itself, IsTotalOrder, ordering_reverse}
use Rattle.std.specs.List.Sorted.{IsStrictlySortedBy}

-- the other way round a list has the same
pub has_reversed : {X : Type 0} (xs : List X) (z : X) → Has (reverse xs) z ↔ Has xs z
has_reversed [] z = (λ h. h, λ h. h)
has_reversed (x ∷ xs) z =
    let rest = has_reversed xs z in
    let is : reverse (x ∷ xs) ≡ reverse xs ++ x ∷ [] = reverse-append (x ∷ []) xs in (
      λ h. elim (has_either (reverse xs) (x ∷ []) z (subst (λ l. Has l z) is h)) [
        | inl there ↦ inr (rest.0 there)
        | inr first ↦ elim first [ inl same ↦ inl same | inr none ↦ absurd none ]
      ],
      λ h. subst (λ l. Has l z) (sym is) (elim h [
        | inl same ↦ has_right (reverse xs) (x ∷ []) z (inl same)
        | inr there ↦ has_left (reverse xs) (x ∷ []) z (rest.1 there)
      ]),
    )

module _ {K : Type 0} {R : K → K → Ordering} (o : IsTotalOrder R) where
  pub never_itself : (x : K) → R x x ≡ Less → ⊥
  never_itself x h = let e : Less ≡ Equal = sym h ∙ tied_itself o x in cc

  pub never_back : (x y : K) → R x y ≡ Less → R y x ≡ Less → ⊥
  never_back x y p q = let e : Less ≡ Greater = sym p ∙ o.antisymm x y ∙ ap ordering_reverse q in cc

  -- a list that rises is told by its members
  pub same_list : (xs ys : List K) → IsStrictlySortedBy R xs → IsStrictlySortedBy R ys → ((z : K) → Has xs z → Has ys z) → ((z : K) → Has ys z → Has xs z) → xs ≡ ys
  unfolding IsStrictlySortedBy
  same_list [] [] up down there back = refl
  same_list [] (y ∷ ys) up down there back = absurd (back y (inl refl))
  same_list (x ∷ xs) [] up down there back = absurd (there x (inl refl))
  same_list (x ∷ xs) (y ∷ ys) up down there back =
      let first : x ≡ y = elim (there x (inl refl)) [
        | inl same ↦ same
        | inr deep ↦ elim (back y (inl refl)) [ inl same ↦ sym same | inr other ↦ absurd (never_back x y (all_has _ xs y up.0 other) (all_has _ ys x down.0 deep)) ]
      ] in
      ap₂ (λ a as'. a ∷ as') first (same_list xs ys up.1 down.1 (λ r h. elim (there r (inr h)) [
        | inl same ↦ absurd (never_itself x (subst (λ t. R x t ≡ Less) (same ∙ sym first) (all_has _ xs r up.0 h)))
        | inr deep ↦ deep
      ]) (λ r h. elim (back r (inr h)) [
        | inl same ↦ absurd (never_itself y (subst (λ t. R y t ≡ Less) (same ∙ first) (all_has _ ys r down.0 h)))
        | inr deep ↦ deep
      ]))

  -- a list that rises is no longer than one that has all of its values
  pub no_longer : (ys xs : List K) → IsStrictlySortedBy R ys → IsStrictlySortedBy R xs → ((z : K) → Has xs z → Has ys z) → length xs ≤ length ys
  unfolding IsStrictlySortedBy
  no_longer [] [] down up there = omega arith
  no_longer [] (x ∷ xs) down up there = absurd (there x (inl refl))
  no_longer (y ∷ ys) [] down up there = omega arith
  no_longer (y ∷ ys) (x ∷ xs) down up there = elim (there x (inl refl)) [
    | inl same ↦ omega (
      arith,
      no_longer ys xs down.1 up.1 (λ z h. elim (there z (inr h)) [
        | inl is ↦ absurd (never_itself x (subst (λ w. R x w ≡ Less) (is ∙ sym same) (all_has (λ w. R x w ≡ Less) xs z up.0 h)))
        | inr deep ↦ deep
      ]),
    )
    | inr deep ↦
        let low : R y x ≡ Less = all_has (λ w. R y w ≡ Less) ys x down.0 deep in
        omega (
          arith,
          no_longer ys (x ∷ xs) down.1 up (λ z h. elim (there z h) [
            | inl is ↦ absurd (never_itself y (subst (λ w. R y w ≡ Less) is (elim h [
              | inl first ↦ subst (λ w. R y w ≡ Less) (sym first) low
              | inr later ↦ o.trans y x z low (all_has (λ w. R x w ≡ Less) xs z up.0 later)
            ])))
            | inr there ↦ there
          ]),
        )
  ]

  -- what passes a test rises still
  pub kept_rises : (p : K → Bool) (xs : List K) → IsStrictlySortedBy R xs → IsStrictlySortedBy R (filter p xs)
  unfolding IsStrictlySortedBy
  kept_rises p [] up = tt
  kept_rises p (x ∷ xs) up =
      elim (p x) as (λ b. IsStrictlySortedBy R (cond b (x ∷ filter p xs) (filter p xs))) [
        | true ↦ (all_from (λ z. R x z ≡ Less) (filter p xs) (λ z h. all_has (λ z. R x z ≡ Less) xs z up.0 (has_filtered p xs z h).0), kept_rises p xs up.1)
        | false ↦ kept_rises p xs up.1
      ]

  -- one value more at the end
  pub pushed_rises : (xs : List K) (x : K) → IsStrictlySortedBy R xs → ((z : K) → Has xs z → R z x ≡ Less) → IsStrictlySortedBy R (xs ++ x ∷ [])
  unfolding IsStrictlySortedBy
  pushed_rises [] x up lower = (tt, tt)
  pushed_rises (y ∷ xs) x up lower = (
    all_from (λ z. R y z ≡ Less) (xs ++ x ∷ []) (λ z h. elim (has_either xs (x ∷ []) z h) [
      | inl there ↦ all_has (λ z. R y z ≡ Less) xs z up.0 there
      | inr last ↦ elim last [ inl same ↦ subst (λ w. R y w ≡ Less) (sym same) (lower y (inl refl)) | inr none ↦ absurd none ]
    ]),
    pushed_rises xs x up.1 (λ z h. lower z (inr h)),
  )

  pub joined_rises : (xs ys : List K) → IsStrictlySortedBy R xs → IsStrictlySortedBy R ys → ((x y : K) → Has xs x → Has ys y → R x y ≡ Less) → IsStrictlySortedBy R (xs ++ ys)
  unfolding IsStrictlySortedBy
  joined_rises [] ys up down lower = down
  joined_rises (x ∷ xs) ys up down lower = (
    all_from (λ z. R x z ≡ Less) (xs ++ ys) (λ z h. elim (has_either xs ys z h) [
      | inl there ↦ all_has (λ z. R x z ≡ Less) xs z up.0 there
      | inr other ↦ lower x z (inl refl) other
    ]),
    joined_rises xs ys up.1 down (λ a b here there. lower a b (inr here) there),
  )

  -- the last is above what stands before it
  pub before_last : (xs : List K) (x : K) → IsStrictlySortedBy R (xs ++ x ∷ []) → (z : K) → Has xs z → R z x ≡ Less
  unfolding IsStrictlySortedBy
  before_last [] x up z h = absurd h
  before_last (y ∷ xs) x up z (inl same) = subst (λ w. R w x ≡ Less) (sym same) (all_has (λ w. R y w ≡ Less) (xs ++ x ∷ []) x up.0 (has_right xs (x ∷ []) x (inl refl)))
  before_last (y ∷ xs) x up z (inr later) = before_last xs x up.1 z later

  pub front_rises : (xs ys : List K) → IsStrictlySortedBy R (xs ++ ys) → IsStrictlySortedBy R xs
  unfolding IsStrictlySortedBy
  front_rises [] ys up = tt
  front_rises (x ∷ xs) ys up = (all_from (λ z. R x z ≡ Less) xs (λ z h. all_has (λ z. R x z ≡ Less) (xs ++ ys) z up.0 (has_left xs ys z h)), front_rises xs ys up.1)

  module _ (apart : (x y : K) → R x y ≡ Equal → x ≡ y) where
    pub told_by : (x y : K) → (x ≡ y) ⊎ (x ≢ y)
    told_by x y = from (R x y) refl
      where
        from : (r : Ordering) → R x y ≡ r → (x ≡ y) ⊎ (x ≢ y)
        from Equal is = inl (apart x y is)
        from Less is = inr (λ same. never_itself y (subst (λ z. R z y ≡ Less) same is))
        from Greater is = inr (λ same. let e : Greater ≡ Equal = sym is ∙ ap (λ z. R z y) same ∙ tied_itself o y in cc)

    -- with one value more, where it isn't there already
    step : Ordering → K → K → List K → List K → List K
    step Less x y ys more = x ∷ y ∷ ys
    step Equal x y ys more = y ∷ ys
    step Greater x y ys more = y ∷ more

    pub with_one : K → List K → List K
    with_one x [] = x ∷ []
    with_one x (y ∷ ys) = step (R x y) x y ys (with_one x ys)

    step_has : (r : Ordering) (x y : K) (ys more : List K) (z : K) → R x y ≡ r → Has more z ↔ (Has ys z ⊎ (z ≡ x)) → Has (step r x y ys more) z ↔ (Has (y ∷ ys) z ⊎ (z ≡ x))
    unfolding step
    step_has Less x y ys more z is rest = (λ h. elim h [ inl same ↦ inr same | inr there ↦ inl there ], λ h. elim h [ inl there ↦ inr there | inr same ↦ inl same ])
    step_has Equal x y ys more z is rest = (λ h. inl h, λ h. elim h [ inl there ↦ there | inr same ↦ inl (same ∙ apart x y is) ])
    step_has Greater x y ys more z is rest = (
      λ h. elim h [ inl same ↦ inl (inl same) | inr later ↦ elim (rest.0 later) [ inl there ↦ inl (inr there) | inr same ↦ inr same ] ],
      λ h. elim h [ inl before ↦ elim before [ inl same ↦ inl same | inr there ↦ inr (rest.1 (inl there)) ] | inr same ↦ inr (rest.1 (inr same)) ],
    )

    pub one_has : (x : K) (ys : List K) (z : K) → Has (with_one x ys) z ↔ (Has ys z ⊎ (z ≡ x))
    unfolding with_one
    one_has x [] z = (λ h. elim h [ inl same ↦ inr same | inr none ↦ absurd none ], λ h. elim h [ inl none ↦ absurd none | inr same ↦ inl same ])
    one_has x (y ∷ ys) z = step_has (R x y) x y ys (with_one x ys) z refl (one_has x ys z)

    step_rises : (r : Ordering) (x y : K) (ys more : List K) → R x y ≡ r → IsStrictlySortedBy R (y ∷ ys) → IsStrictlySortedBy R more → ((z : K) → Has more z → Has ys z ⊎ (z ≡ x)) → IsStrictlySortedBy R (step r x y ys more)
    unfolding step IsStrictlySortedBy
    step_rises Less x y ys more is up up_more from = ((is, all_from (λ z. R x z ≡ Less) ys (λ z h. o.trans x y z is (all_has (λ z. R y z ≡ Less) ys z up.0 h))), up)
    step_rises Equal x y ys more is up up_more from = up
    step_rises Greater x y ys more is up up_more from = (
      all_from (λ z. R y z ≡ Less) more (λ z h. elim (from z h) [
        | inl there ↦ all_has (λ z. R y z ≡ Less) ys z up.0 there
        | inr same ↦ subst (λ w. R y w ≡ Less) (sym same) (o.antisymm y x ∙ ap ordering_reverse is)
      ]),
      up_more,
    )

    tail_rises : (y : K) (ys : List K) → IsStrictlySortedBy R (y ∷ ys) → IsStrictlySortedBy R ys
    unfolding IsStrictlySortedBy
    tail_rises y ys up = up.1

    alone : (x : K) → IsStrictlySortedBy R (x ∷ [])
    unfolding IsStrictlySortedBy
    alone x = (tt, tt)

    pub one_rises : (x : K) (ys : List K) → IsStrictlySortedBy R ys → IsStrictlySortedBy R (with_one x ys)
    unfolding with_one
    one_rises x [] up = alone x
    one_rises x (y ∷ ys) up = step_rises (R x y) x y ys (with_one x ys) refl up (one_rises x ys (tail_rises y ys up)) (λ z h. (one_has x ys z).0 h)

    -- which makes the list longer
    pub one_longer : (x : K) (ys : List K) → ¬ Has ys x → length (with_one x ys) ≡ suc (length ys)
    unfolding with_one step
    one_longer x [] out = refl
    one_longer x (y ∷ ys) out = from (R x y) refl (λ off. one_longer x ys off)
      where
        from : (r : Ordering) → R x y ≡ r → (¬ Has ys x → length (with_one x ys) ≡ suc (length ys)) → length (step r x y ys (with_one x ys)) ≡ suc (length (y ∷ ys))
        from Less is rest = refl
        from Equal is rest = absurd (out (inl (apart x y is)))
        from Greater is rest = ap suc (rest (λ h. out (inr h)))

    -- with all values of a list
    pub with_all : List K → List K → List K
    with_all [] ys = ys
    with_all (x ∷ xs) ys = with_one x (with_all xs ys)

    pub all_there : (xs ys : List K) (z : K) → Has (with_all xs ys) z ↔ (Has ys z ⊎ Has xs z)
    unfolding with_all
    all_there [] ys z = (λ h. inl h, λ h. elim h [ inl there ↦ there | inr none ↦ absurd none ])
    all_there (x ∷ xs) ys z =
        let one = one_has x (with_all xs ys) z in
        let rest = all_there xs ys z in (
          λ h. elim (one.0 h) [ inl more ↦ elim (rest.0 more) [ inl there ↦ inl there | inr later ↦ inr (inr later) ] | inr same ↦ inr (inl same) ],
          λ h. elim h [ inl there ↦ one.1 (inl (rest.1 (inl there))) | inr put ↦ elim put [ inl same ↦ one.1 (inr same) | inr later ↦ one.1 (inl (rest.1 (inr later))) ] ],
        )

    pub all_rise : (xs ys : List K) → IsStrictlySortedBy R ys → IsStrictlySortedBy R (with_all xs ys)
    unfolding with_all
    all_rise [] ys up = up
    all_rise (x ∷ xs) ys up = one_rises x (with_all xs ys) (all_rise xs ys up)

  -- the first n of a list that rises: those that a list has which rises too, is no longer, and has each that isn't above one of its own
  pub taken_front : (n : ℕ) (xs ts : List K) → IsStrictlySortedBy R xs → IsStrictlySortedBy R ts → length ts ≤ n → ((t : K) → Has ts t → Has xs t)
      → ((x : K) → Has xs x → (length ts < n) ⊎ ((t : K) × Has ts t × (R t x ≢ Less)) → Has ts x) → ts ≡ take n xs
  unfolding IsStrictlySortedBy
  taken_front zero xs [] up down few there has = refl
  taken_front zero xs (t ∷ ts) up down few there has = absurd (omega (arith, few))
  taken_front (suc n) [] [] up down few there has = refl
  taken_front (suc n) [] (t ∷ ts) up down few there has = absurd (there t (inl refl))
  taken_front (suc n) (x ∷ xs) [] up down few there has = absurd (has x (inl refl) (inl (omega arith)))
  taken_front (suc n) (x ∷ xs) (t ∷ ts) up down few there has =
      let first : t ≡ x = elim (there t (inl refl)) [
        | inl same ↦ same
        | inr deep ↦
            let low : R x t ≡ Less = all_has (λ z. R x z ≡ Less) xs t up.0 deep in
            elim (has x (inl refl) (inr (t, inl refl, λ back. never_back x t low back))) [ inl same ↦ sym same | inr later ↦ absurd (never_back x t low (all_has (λ z. R t z ≡ Less) ts x down.0 later)) ]
      ] in
      ap₂ (λ a as'. a ∷ as') first (taken_front n xs ts up.1 down.1 (omega (arith, few)) (λ u h. elim (there u (inr h)) [
        | inl same ↦ absurd (never_itself u (subst (λ z. R z u ≡ Less) (first ∙ sym same) (all_has (λ z. R t z ≡ Less) ts u down.0 h)))
        | inr deep ↦ deep
      ]) (λ y h reached. elim (has y (inr h) (elim reached [ inl more ↦ inl (omega (arith, more)) | inr it ↦ inr (it.0, inr it.1, it.2) ])) [
        | inl same ↦ absurd (never_itself y (subst (λ z. R z y ≡ Less) (sym (same ∙ first)) (all_has (λ z. R x z ≡ Less) xs y up.0 h)))
        | inr later ↦ later
      ]))

  -- the other way round it falls
  pub reversed_rises : (xs : List K) → IsStrictlySortedBy (λ x y. R y x) xs → IsStrictlySortedBy R (reverse xs)
  unfolding IsStrictlySortedBy
  reversed_rises [] down = tt
  reversed_rises (x ∷ xs) down =
      subst (IsStrictlySortedBy R) (sym (reverse-append (x ∷ []) xs)) (pushed_rises (reverse xs) x (reversed_rises xs down.1) (λ z h. all_has (λ y. R y x ≡ Less) xs z down.0 ((has_reversed xs z).0 h)))

-- what stands in front of a cut comes before what stands behind it
pub cut_rises : {K : Type 0} (R : K → K → Ordering) (xs ys : List K) → IsStrictlySortedBy R (xs ++ ys) → (x y : K) → Has xs x → Has ys y → R x y ≡ Less
unfolding IsStrictlySortedBy
cut_rises R [] ys up x y here there = absurd here
cut_rises R (z ∷ xs) ys up x y (inl same) there = subst (λ w. R w y ≡ Less) (sym same) (all_has (λ w. R z w ≡ Less) (xs ++ ys) y up.0 (has_right xs ys y there))
cut_rises R (z ∷ xs) ys up x y (inr later) there = cut_rises R xs ys up.1 x y later there

pub flipped_total : {K : Type 0} {R : K → K → Ordering} → IsTotalOrder R → IsTotalOrder (λ x y. R y x)
flipped_total {K} {R} o = record {
  antisymm = λ x y. o.antisymm y x;
  trans = λ x y z low high. o.trans z y x high low;
  congr = λ x y z same. o.antisymm z x ∙ ap ordering_reverse (o.congr x y z (o.antisymm x y ∙ ap ordering_reverse same)) ∙ sym (o.antisymm z y);
}

-- ---- the last of a list

module _ {K : Type 0} where
  pub snoc_of : (x : K) (xs : List K) → (front : List K) × (last : K) × (x ∷ xs ≡ front ++ last ∷ [])
  snoc_of x [] = ([], x, refl)
  snoc_of x (y ∷ ys) = let more = snoc_of y ys in (x ∷ more.0, more.1, ap (λ l. x ∷ l) more.2)

  pub same_last : (xs ys : List K) (x y : K) → xs ++ x ∷ [] ≡ ys ++ y ∷ [] → x ≡ y
  same_last [] [] x y h = cc
  same_last [] (b ∷ []) x y h = absurd (let e : [] ≡ y ∷ [] = cc in cc)
  same_last [] (b ∷ c ∷ ys) x y h = absurd (let e : [] ≡ c ∷ (ys ++ y ∷ []) = cc in cc)
  same_last (a ∷ []) [] x y h = absurd (let e : x ∷ [] ≡ [] = cc in cc)
  same_last (a ∷ b ∷ xs) [] x y h = absurd (let e : b ∷ (xs ++ x ∷ []) ≡ [] = cc in cc)
  same_last (a ∷ xs) (b ∷ ys) x y h = same_last xs ys x y (let e : xs ++ x ∷ [] ≡ ys ++ y ∷ [] = cc in e)
