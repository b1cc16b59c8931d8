-- The list of a register's terms: there is one, and what its parts next to a text are.
use Rattle.zeb_register.proofs.Cited.{Has, ◌≡◌, ◌⊎◌, ◌∙◌, ◌<◌, ◌≤◌, ◌+◌, ◌-◌, ℕ, zero, suc, true, false, List, [], ◌∷◌, ◌++◌, length, take, drop, reverse, refl, sym, ap, subst, inl, inr, Ordering, Less, Equal, Greater, nat_cmp, arith, take-append-drop, reverse-append, length-reverse, nat_cmp_total, slice_cmp, is_lt, ordering_then, ordering_reverse, TermCount, IsCount, AreCounts, last}
use Rattle.zeb_register.proofs.RisingLists.{same_list}
use Rattle.zeb_register.proofs.CountLemmas.{is_less, term_total, one_count}

-- ---- texts next to each other

after_first : (x y : ℕ) (xs ys zs : List ℕ) (o : Ordering) → nat_cmp x y ≡ o → (is_lt (slice_cmp nat_cmp xs zs) ≡ false → slice_cmp nat_cmp ys xs ≡ Less)
    → is_lt (ordering_then (nat_cmp x y) (slice_cmp nat_cmp xs zs)) ≡ false → ordering_then (nat_cmp y x) (slice_cmp nat_cmp ys xs) ≡ Less
after_first x y xs ys zs Less is more low = absurd (let e : true ≡ false = rw is at low in cc)
after_first x y xs ys zs Equal is more low = let back : nat_cmp y x ≡ Equal = nat_cmp_total.antisymm y x ∙ ap ordering_reverse is in rw back (more (rw is at low))
after_first x y xs ys zs Greater is more low = let back : nat_cmp y x ≡ Less = nat_cmp_total.antisymm y x ∙ ap ordering_reverse is in rw back refl

pub least_above : (s t : List ℕ) → is_lt (slice_cmp nat_cmp s (t ++ 0 ∷ [])) ≡ false → slice_cmp nat_cmp t s ≡ Less
least_above [] [] h = absurd (let e : true ≡ false = h in cc)
least_above [] (y ∷ ys) h = absurd (let e : true ≡ false = h in cc)
least_above (x ∷ xs) [] h = refl
least_above (x ∷ xs) (y ∷ ys) h = after_first x y xs ys (ys ++ 0 ∷ []) (nat_cmp x y) refl (least_above xs ys) h

before_first : (x y : ℕ) (xs ys zs : List ℕ) (o : Ordering) → nat_cmp y x ≡ o → (slice_cmp nat_cmp ys xs ≡ Less → is_lt (slice_cmp nat_cmp xs zs) ≡ false)
    → ordering_then (nat_cmp y x) (slice_cmp nat_cmp ys xs) ≡ Less → is_lt (ordering_then (nat_cmp x y) (slice_cmp nat_cmp xs zs)) ≡ false
before_first x y xs ys zs Less is more low = let back : nat_cmp x y ≡ Greater = nat_cmp_total.antisymm x y ∙ ap ordering_reverse is in rw back refl
before_first x y xs ys zs Equal is more low = let back : nat_cmp x y ≡ Equal = nat_cmp_total.antisymm x y ∙ ap ordering_reverse is in rw back (more (rw is at low))
before_first x y xs ys zs Greater is more low = absurd (let e : Greater ≡ Less = rw is at low in cc)

not_below_nothing : (x : ℕ) (xs : List ℕ) (o : Ordering) → nat_cmp x 0 ≡ o → is_lt (ordering_then (nat_cmp x 0) (slice_cmp nat_cmp xs [])) ≡ false
not_below_nothing x xs Less is = absurd (let h : x < 0 = is_less x 0 is in omega arith)
not_below_nothing x [] Equal is = rw is refl
not_below_nothing x (y ∷ ys) Equal is = rw is refl
not_below_nothing x xs Greater is = rw is refl

pub above_least : (s t : List ℕ) → slice_cmp nat_cmp t s ≡ Less → is_lt (slice_cmp nat_cmp s (t ++ 0 ∷ [])) ≡ false
above_least [] [] h = absurd (let e : Equal ≡ Less = h in cc)
above_least [] (y ∷ ys) h = absurd (let e : Greater ≡ Less = h in cc)
above_least (x ∷ xs) [] h = not_below_nothing x xs (nat_cmp x 0) refl
above_least (x ∷ xs) (y ∷ ys) h = before_first x y xs ys (ys ++ 0 ∷ []) (nat_cmp y x) refl (above_least xs ys) h

-- ---- parts of lists

pub has_taken : {X : Type 0} (n : ℕ) (xs : List X) (x : X) → Has (take n xs) x → Has xs x
has_taken zero xs x h = absurd h
has_taken (suc n) [] x h = absurd h
has_taken (suc n) (y ∷ xs) x (inl same) = inl same
has_taken (suc n) (y ∷ xs) x (inr later) = inr (has_taken n xs x later)

dropped : {X : Type 0} (xs ys : List X) → drop (length xs) (xs ++ ys) ≡ ys
dropped [] ys = refl
dropped (x ∷ xs) ys = dropped xs ys

pub last_taken : {X : Type 0} (n : ℕ) (xs ys : List X) → (length ys ≡ n) ⊎ ((xs ≡ []) × (length ys ≤ n)) → last n (xs ++ ys) ≡ ys
last_taken n xs ys h =
    let long : length (xs ++ ys) ≡ length xs + length ys = Rattle.std.proofs.Common.length-append xs ys in
    elim h [
      | inl is ↦ ap (λ k. drop k (xs ++ ys)) (let e : length (xs ++ ys) - n ≡ length xs = omega (arith, long, is) in e) ∙ dropped xs ys
      | inr is ↦ ap (λ k. drop k (xs ++ ys)) (let e : length (xs ++ ys) - n ≡ length xs = omega (arith, long, is.1, ap length is.0) in e) ∙ dropped xs ys
    ]

pub taken_or : {X : Type 0} (n : ℕ) (xs : List X) → (length (take n xs) ≡ n) ⊎ ((drop n xs ≡ []) × (length (take n xs) ≤ n))
taken_or zero xs = inl refl
taken_or (suc n) [] = inr (refl, omega arith)
taken_or (suc n) (x ∷ xs) = elim (taken_or n xs) [ inl is ↦ inl (omega (arith, is)) | inr is ↦ inr (is.0, omega (arith, is.1)) ]

-- the last of a list are the first of what it is the other way round
pub last_reversed : {X : Type 0} (n : ℕ) (xs : List X) → last n (reverse xs) ≡ reverse (take n xs)
last_reversed n xs =
    let front = take n xs in
    let rest = drop n xs in
    let whole : reverse xs ≡ reverse rest ++ reverse front = ap reverse (sym (take-append-drop n xs)) ∙ reverse-append front rest in
    ap (last n) whole ∙ last_taken n (reverse rest) (reverse front) (elim (taken_or n xs) [
      | inl is ↦ inl (length-reverse front ∙ is)
      | inr is ↦ inr (ap reverse is.0, omega (arith, length-reverse front, is.1))
    ])

-- ---- the terms that P has with some number

abbrev pub IsTerm : (List ℕ → ℕ → Type 0) → List ℕ → Type 0
IsTerm P term = (n : ℕ) × P term n

module _ (P : List ℕ → ℕ → Type 0) where
  same_term_count : (s t : TermCount) → s.term ≡ t.term → s.records ≡ t.records → s ≡ t
  same_term_count s t a b i = record { term = a i; records = b i }

  -- with the count of a term the whole is known
  pub one_of : (terms : List TermCount) → AreCounts P terms → (t : TermCount) → IsTerm P t.term → IsCount (P t.term) t.records → Has terms t
  one_of terms are t some count =
      let there = are.found t.term some.0 some.1 in
      let records : t.records ≡ there.0.records = one_count (P t.term) t.records there.0.records count (subst (λ u. IsCount (P u) there.0.records) there.2 (are.counts there.0 there.1)) in
      subst (Has terms) (sym (same_term_count t there.0 (sym there.2) records)) there.1

  pub one_list_of_terms : (one two : List TermCount) → AreCounts P one → AreCounts P two → one ≡ two
  one_list_of_terms one two left right =
      same_list term_total one two left.rising right.rising (λ t h. one_of two right t (left.some t h) (left.counts t h)) (λ t h. one_of one left t (right.some t h) (right.counts t h))
