-- Counting occurrences that come in the order of their terms and then of their numbers.
use Rattle.zeb_register.proofs.Cited.{all_from, all_has, has_left, has_right, has_either, Has, ◌≡◌, ◌≢◌, ◌↔◌, ◌⊎◌, ◌∙◌, ◌<◌, ◌≤◌, ◌+◌, ℕ, List, [], ◌∷◌, ◌++◌, length, refl, sym, ap, subst, inl, inr, Less, Equal, nat_cmp, arith, length-append, ◌^◌, nat_tests, ranked, tied_itself, sum_by-cons, true, false, Ordering, Greater, ordering_reverse, is_lt, IsTotalOrder, on_total, nat_cmp_total, slice_cmp, nat_list_cmp_total, sum_by, TermCount, IsCount, AreCounts, term_cmp, IsCountedIn, term_with, Rises, Comes}
use Rattle.std.specs.List.Sorted.{IsStrictlySortedBy}
use Rattle.zeb_register.proofs.RowLemmas.{same_bytes}
use Rattle.zeb_register.proofs.RisingLists.{same_list, pushed_rises, before_last, front_rises, snoc_of, same_last}

pub term_total : IsTotalOrder term_cmp
term_total = on_total (λ (t : TermCount). t.term) nat_list_cmp_total

pub less_is : (m n : ℕ) → m < n → nat_cmp m n ≡ Less
less_is m n h = grind (arith, nat_tests)

pub is_less : (m n : ℕ) → nat_cmp m n ≡ Less → m < n
is_less m n h = ranked m n Less (sym h)

-- texts that are not in order are not the same
pub not_same : (s t : List ℕ) → slice_cmp nat_cmp s t ≡ Less → s ≢ t
not_same s t h same = let e : Less ≡ Equal = sym h ∙ ap (λ u. slice_cmp nat_cmp u t) same ∙ tied_itself nat_list_cmp_total t in cc

-- one text comes before the other
pub comes_is : (s t : List ℕ) → is_lt (slice_cmp nat_cmp s t) ≡ true → Comes s t
comes_is s t h = from (slice_cmp nat_cmp s t) h
  where
    from : (o : Ordering) → is_lt o ≡ true → o ≡ Less
    from Less h = refl
    from Equal h = absurd (cc)
    from Greater h = absurd (cc)

pub comes_not : (s t : List ℕ) → (is_lt (slice_cmp nat_cmp s t) ≡ false) ↔ ¬ Comes s t
comes_not s t = (λ h comes. (let e : true ≡ false = sym (ap is_lt comes) ∙ h in cc), λ h. from (slice_cmp nat_cmp s t) refl h)
  where
    from : (o : Ordering) → slice_cmp nat_cmp s t ≡ o → ¬ Comes s t → is_lt (slice_cmp nat_cmp s t) ≡ false
    from Less is h = absurd (h is)
    from Equal is h = ap is_lt is
    from Greater is h = ap is_lt is

-- it does, or is the same, or comes behind
pub comes_or : (s t : List ℕ) → Comes s t ⊎ ((s ≡ t) ⊎ Comes t s)
comes_or s t = from (slice_cmp nat_cmp s t) refl
  where
    from : (o : Ordering) → slice_cmp nat_cmp s t ≡ o → Comes s t ⊎ ((s ≡ t) ⊎ Comes t s)
    from Less is = inl is
    from Equal is = inr (inl (same_bytes s t is))
    from Greater is = inr (inr (nat_list_cmp_total.antisymm t s ∙ ap ordering_reverse is))

pub has_end : {X : Type 0} (xs : List X) (x z : X) → Has (xs ++ x ∷ []) z → Has xs z ⊎ (z ≡ x)
has_end xs x z h = elim (has_either xs (x ∷ []) z h) [ inl there ↦ inl there | inr last ↦ elim last [ inl same ↦ inr same | inr none ↦ absurd none ] ]

-- ---- numbers

pub one_count : (P : ℕ → Type 0) (a b : ℕ) → IsCount P a → IsCount P b → a ≡ b
one_count P a b left right =
    let same : left.numbers ≡ right.numbers = same_list nat_cmp_total left.numbers right.numbers left.rising right.rising (λ n h. (right.each n).1 ((left.each n).0 h)) (λ n h. (left.each n).1 ((right.each n).0 h)) in
    left.count_is ∙ ap length same ∙ sym right.count_is

pub count_so : (P Q : ℕ → Type 0) (count : ℕ) → ((n : ℕ) → P n ↔ Q n) → IsCount P count → IsCount Q count
count_so P Q count so it = record { numbers = it.numbers; rising = it.rising; each = λ n. (λ h. (so n).0 ((it.each n).0 h), λ q. (it.each n).1 ((so n).1 q)); count_is = it.count_is }

-- a number that is above all others
pub count_more : (P Q : ℕ → Type 0) (count n : ℕ) → IsCount P count → ((m : ℕ) → Q m ↔ (P m ⊎ (m ≡ n))) → ((m : ℕ) → P m → m < n) → IsCount Q (count + 1)
count_more P Q count n it means above = record {
  numbers = it.numbers ++ n ∷ [];
  rising = pushed_rises nat_cmp_total it.numbers n it.rising (λ z h. less_is z n (above z ((it.each z).0 h)));
  each = λ m. (
    λ h. (means m).1 (elim (has_end it.numbers n m h) [ inl there ↦ inl ((it.each m).0 there) | inr same ↦ inr same ]),
    λ q. elim ((means m).0 q) [ inl p ↦ has_left it.numbers (n ∷ []) m ((it.each m).1 p) | inr same ↦ has_right it.numbers (n ∷ []) m (inl same) ],
  );
  count_is = omega (arith, it.count_is, length-append it.numbers (n ∷ []));
}

-- a number that is below all others
pub count_first : (P Q : ℕ → Type 0) (count n : ℕ) → IsCount P count → ((m : ℕ) → Q m ↔ ((m ≡ n) ⊎ P m)) → ((m : ℕ) → P m → n < m) → IsCount Q (count + 1)
unfolding IsStrictlySortedBy
count_first P Q count n it means below = record {
  numbers = n ∷ it.numbers;
  rising = (all_from (λ m. nat_cmp n m ≡ Less) it.numbers (λ m h. less_is n m (below m ((it.each m).0 h))), it.rising);
  each = λ m. (
    λ h. (means m).1 (elim h [ inl same ↦ inl same | inr there ↦ inr ((it.each m).0 there) ]),
    λ q. elim ((means m).0 q) [ inl same ↦ inl same | inr p ↦ inr ((it.each m).1 p) ],
  );
  count_is = omega (arith, it.count_is);
}

pub count_none : (P : ℕ → Type 0) → ((n : ℕ) → ¬ P n) → IsCount P 0
unfolding IsStrictlySortedBy
count_none P none = record { numbers = []; rising = tt; each = λ n. (λ h. absurd h, λ p. absurd (none n p)); count_is = refl }

pub counted_none : (P : ℕ → Type 0) (count n : ℕ) → IsCount P count → count ≡ 0 → ¬ P n
counted_none P count n it zero' p = from it.numbers refl
  where
    from : (ns : List ℕ) → it.numbers ≡ ns → ⊥
    from [] is = subst (λ ns. Has ns n) is ((it.each n).1 p)
    from (m ∷ ns) is = omega (arith, it.count_is, ap length is)

upto_length : (ns : List ℕ) (low most : ℕ) → IsStrictlySortedBy nat_cmp ns → ((n : ℕ) → Has ns n → (low < n) × (n ≤ most)) → low ≤ most → low + length ns ≤ most
unfolding IsStrictlySortedBy
upto_length [] low most up between few = omega (arith, few)
upto_length (n ∷ ns) low most up between few =
    let first = between n (inl refl) in
    omega (arith, first.0, upto_length ns n most up.1 (λ m h. (is_less n m (all_has (λ z. nat_cmp n z ≡ Less) ns m up.0 h), (between m (inr h)).1)) first.1)

-- of the numbers from 1 on there are no more than the greatest
pub count_upto : (P : ℕ → Type 0) (count most : ℕ) → IsCount P count → ((n : ℕ) → P n → (1 ≤ n) × (n ≤ most)) → count ≤ most
count_upto P count most it between =
    omega (arith, it.count_is, upto_length it.numbers 0 most it.rising (λ n h. let b = between n ((it.each n).0 h) in (omega (arith, b.0), b.1)) (omega arith))

-- where some number is P, one is counted
pub some_count : (P : ℕ → Type 0) (count n : ℕ) → IsCount P count → P n → 1 ≤ count
some_count P count n it here = let some : count ≢ 0 = λ none. counted_none P count n it none here in omega (arith, some)

-- the newest of the numbers, where there is one
abbrev pub IsNewest : (ℕ → Type 0) → ℕ → Type 0
IsNewest P newest = P newest × ((m : ℕ) → P m → m ≤ newest)

pub newest_is : (P Q : ℕ → Type 0) (n : ℕ) → ((m : ℕ) → Q m ↔ (P m ⊎ (m ≡ n))) → ((m : ℕ) → P m → m ≤ n) → IsNewest Q n
newest_is P Q n means above = ((means n).1 (inr refl), λ m q. elim ((means m).0 q) [ inl p ↦ above m p | inr same ↦ omega (arith, same) ])

-- a number that differs from the newest, and is below none
pub above_newest : (P : ℕ → Type 0) (newest n : ℕ) → IsNewest P newest → ((m : ℕ) → P m → m ≤ n) → n ≢ newest → (m : ℕ) → P m → m < n
above_newest P newest n it above differs m p = omega (arith, it.1 m p, above newest it.0)

pub newest_stays : (P Q : ℕ → Type 0) (newest n : ℕ) → IsNewest P newest → n ≡ newest → ((m : ℕ) → Q m ↔ (P m ⊎ (m ≡ n))) → (m : ℕ) → P m ↔ Q m
newest_stays P Q newest n it same means m = (λ p. (means m).1 (inl p), λ q. elim ((means m).0 q) [ inl p ↦ p | inr is ↦ subst P (sym (is ∙ same)) it.0 ])

-- ---- terms

pub counts_so : (P Q : List ℕ → ℕ → Type 0) (terms : List TermCount) → ((term : List ℕ) (n : ℕ) → P term n ↔ Q term n) → AreCounts P terms → AreCounts Q terms
counts_so P Q terms so it = record {
  rising = it.rising;
  found = λ term n q. it.found term n ((so term n).1 q);
  some = λ t h. let n = it.some t h in (n.0, (so t.term n.0).0 n.1);
  counts = λ t h. count_so (P t.term) (Q t.term) t.records (so t.term) (it.counts t h);
}

pub counts_none : (P : List ℕ → ℕ → Type 0) → ((term : List ℕ) (n : ℕ) → ¬ P term n) → AreCounts P []
unfolding IsStrictlySortedBy
counts_none P none = record { rising = tt; found = λ term n p. absurd (none term n p); some = λ t h. absurd h; counts = λ t h. absurd h }

-- the newest number of the last term
abbrev pub IsNewestOf : (List ℕ → ℕ → Type 0) → List TermCount → ℕ → Type 0
IsNewestOf R terms newest = (front : List TermCount) (last : TermCount) → terms ≡ front ++ last ∷ [] → IsNewest (R last.term) newest

pub newest_none : (R : List ℕ → ℕ → Type 0) (newest : ℕ) → IsNewestOf R [] newest
newest_none R newest [] last is = absurd (let e : [] ≡ last ∷ [] = is in cc)
newest_none R newest (x ∷ front) last is = absurd (let e : [] ≡ x ∷ (front ++ last ∷ []) = is in cc)

-- one occurrence more, that comes before none
module _ (P Q : List ℕ → ℕ → Type 0) (term : List ℕ) (sysno : ℕ) (means : (t : List ℕ) (n : ℕ) → Q t n ↔ (P t n ⊎ ((t ≡ term) × (n ≡ sysno))))
    (after : (t : List ℕ) (n : ℕ) → P t n → (slice_cmp nat_cmp t term ≡ Less) ⊎ ((t ≡ term) × (n ≤ sysno))) where
  other_terms : (t : List ℕ) → t ≢ term → (n : ℕ) → P t n ↔ Q t n
  other_terms t differs n = (λ p. (means t n).1 (inl p), λ q. elim ((means t n).0 q) [ inl p ↦ p | inr same ↦ absurd (differs same.0) ])

  this_term : (t : List ℕ) → t ≡ term → (n : ℕ) → Q t n ↔ (P t n ⊎ (n ≡ sysno))
  this_term t is n = (
    λ q. elim ((means t n).0 q) [ inl p ↦ inl p | inr same ↦ inr same.1 ],
    λ h. (means t n).1 (elim h [ inl p ↦ inl p | inr same ↦ inr (is, same) ]),
  )

  numbers_upto : (t : List ℕ) → t ≡ term → (n : ℕ) → P t n → n ≤ sysno
  numbers_upto t is n p = elim (after t n p) [ inl lower ↦ absurd (not_same t term lower is) | inr same ↦ same.1 ]

  counts_again : (front : List TermCount) (last : TermCount) → AreCounts P (front ++ last ∷ []) → last.term ≡ term → ((m : ℕ) → P last.term m → m < sysno) → AreCounts Q (front ++ term_with last.term (last.records + 1) ∷ [])
  counts_again front last it is above =
      let new = term_with last.term (last.records + 1) in
      let lower = before_last term_total front last it.rising in
      let at_last = has_right front (last ∷ []) last (inl refl) in
      let at_new = has_right front (new ∷ []) new (inl refl) in
      record {
        rising = pushed_rises term_total front new (front_rises term_total front (last ∷ []) it.rising) (λ z h. lower z h);
        found = λ t n q. elim ((means t n).0 q) [
          | inl p ↦ let there = it.found t n p in elim (has_end front last there.0 there.1) [
            | inl before ↦ (there.0, has_left front (new ∷ []) there.0 before, there.2)
            | inr same ↦ (new, at_new, ap (λ (x : TermCount). x.term) (sym same) ∙ there.2)
          ]
          | inr same ↦ (new, at_new, is ∙ sym same.0)
        ];
        some = λ t h. elim (has_end front new t h) [
          | inl before ↦ let n = it.some t (has_left front (last ∷ []) t before) in (n.0, (means t.term n.0).1 (inl n.1))
          | inr same ↦ (sysno, (means t.term sysno).1 (inr (ap (λ (x : TermCount). x.term) same ∙ is, refl)))
        ];
        counts = λ t h. elim (has_end front new t h) [
          | inl before ↦ count_so (P t.term) (Q t.term) t.records (other_terms t.term (λ same. not_same t.term last.term (lower t before) (same ∙ sym is))) (it.counts t (has_left front (last ∷ []) t before))
          | inr same ↦ subst (λ (x : TermCount). IsCount (Q x.term) x.records) (sym same) (count_more (P last.term) (Q last.term) last.records sysno (it.counts last at_last) (this_term last.term is) above)
        ];
      }

  counts_new : (terms : List TermCount) → AreCounts P terms → ((t : TermCount) → Has terms t → slice_cmp nat_cmp t.term term ≡ Less) → AreCounts Q (terms ++ term_with term 1 ∷ [])
  counts_new terms it lower =
      let new = term_with term 1 in
      let at_new = has_right terms (new ∷ []) new (inl refl) in
      let none : (n : ℕ) → ¬ P term n = λ n p. let there = it.found term n p in not_same there.0.term term (lower there.0 there.1) there.2 in
      record {
        rising = pushed_rises term_total terms new it.rising lower;
        found = λ t n q. elim ((means t n).0 q) [
          | inl p ↦ let there = it.found t n p in (there.0, has_left terms (new ∷ []) there.0 there.1, there.2)
          | inr same ↦ (new, at_new, sym same.0)
        ];
        some = λ t h. elim (has_end terms new t h) [
          | inl before ↦ let n = it.some t before in (n.0, (means t.term n.0).1 (inl n.1))
          | inr same ↦ (sysno, (means t.term sysno).1 (inr (ap (λ (x : TermCount). x.term) same, refl)))
        ];
        counts = λ t h. elim (has_end terms new t h) [
          | inl before ↦ count_so (P t.term) (Q t.term) t.records (other_terms t.term (not_same t.term term (lower t before))) (it.counts t before)
          | inr same ↦ subst (λ (x : TermCount). IsCount (Q x.term) x.records) (sym same) (count_more (P term) (Q term) 0 sysno (count_none (P term) none) (this_term term refl) (λ m p. absurd (none m p)))
        ];
      }

  -- where the last term is another, all are below the new one
  all_lower : (terms : List TermCount) → AreCounts P terms → ((front : List TermCount) (last : TermCount) → terms ≡ front ++ last ∷ [] → last.term ≢ term) → (t : TermCount) → Has terms t → slice_cmp nat_cmp t.term term ≡ Less
  all_lower [] it other t h = absurd h
  all_lower (x ∷ xs) it other t h =
      let view = snoc_of x xs in
      let front = view.0 in
      let last = view.1 in
      let moved : AreCounts P (front ++ last ∷ []) = subst (AreCounts P) view.2 it in
      let top : slice_cmp nat_cmp last.term term ≡ Less = let n = moved.some last (has_right front (last ∷ []) last (inl refl)) in elim (after last.term n.0 n.1) [ inl lower ↦ lower | inr same ↦ absurd (other front last view.2 same.0) ] in
      elim (has_end front last t (subst (λ l. Has l t) view.2 h)) [
        | inl before ↦ nat_list_cmp_total.trans t.term last.term term (before_last term_total front last moved.rising t before) top
        | inr same ↦ subst (λ (u : TermCount). slice_cmp nat_cmp u.term term ≡ Less) (sym same) top
      ]

  newest_last : (front : List TermCount) (last : TermCount) → last.term ≡ term → IsNewestOf Q (front ++ last ∷ []) sysno
  newest_last front last is others other same =
      let it : other.term ≡ term = ap (λ (x : TermCount). x.term) (sym (same_last front others last other same)) ∙ is in
      newest_is (P other.term) (Q other.term) sysno (this_term other.term it) (numbers_upto other.term it)

  pub counted_more : (newest : ℕ) (old new : List TermCount) → AreCounts P old → IsNewestOf P old newest → IsCountedIn newest term sysno old new → AreCounts Q new × IsNewestOf Q new sysno
  counted_more newest old new it last_newest (inl again) =
      let front = again.0 in
      let last = again.1 in
      let moved : AreCounts P (front ++ last ∷ []) = subst (AreCounts P) again.2 it in
      let top : IsNewest (P last.term) newest = last_newest front last again.2 in
      elim again.4 [
        | inl same ↦ (
          subst (AreCounts Q) (sym same.1) (counts_so P Q old (λ t n. (
            λ p. (means t n).1 (inl p),
            λ q. elim ((means t n).0 q) [ inl p ↦ p | inr is ↦ subst (λ u. P u n) (again.3 ∙ sym is.0) (subst (P last.term) (sym (is.1 ∙ same.0)) top.0) ],
          )) it),
          subst (λ l. IsNewestOf Q l sysno) (sym (same.1 ∙ again.2)) (newest_last front last again.3),
        )
        | inr more ↦ (
          subst (AreCounts Q) (sym more.1) (counts_again front last moved again.3 (above_newest (P last.term) newest sysno top (numbers_upto last.term again.3) more.0)),
          subst (λ l. IsNewestOf Q l sysno) (sym more.1) (newest_last front (term_with last.term (last.records + 1)) again.3),
        )
      ]
  counted_more newest old new it last_newest (inr fresh) = (
    subst (AreCounts Q) (sym fresh.1) (counts_new old it (all_lower old it fresh.0)),
    subst (λ l. IsNewestOf Q l sysno) (sym fresh.1) (newest_last old (term_with term 1) refl),
  )

-- no count is above how many occurrences were counted
pub counted_upto : (n newest sysno : ℕ) (term : List ℕ) (old new : List TermCount) → ((t : TermCount) → Has old t → t.records ≤ n) → IsCountedIn newest term sysno old new → (t : TermCount) → Has new t → t.records ≤ n + 1
counted_upto n newest sysno term old new upto (inl again) t h =
    let before : (u : TermCount) → Has (again.0 ++ again.1 ∷ []) u → u.records ≤ n = λ u there. upto u (subst (λ l. Has l u) (sym again.2) there) in
    elim again.4 [
      | inl same ↦ omega (arith, upto t (subst (λ l. Has l t) same.1 h))
      | inr more ↦ elim (has_end again.0 (term_with again.1.term (again.1.records + 1)) t (subst (λ l. Has l t) more.1 h)) [
        | inl there ↦ omega (arith, before t (has_left again.0 (again.1 ∷ []) t there))
        | inr same ↦ omega (arith, ap (λ (x : TermCount). x.records) same, before again.1 (has_right again.0 (again.1 ∷ []) again.1 (inl refl)))
      ]
    ]
counted_upto n newest sysno term old new upto (inr fresh) t h = elim (has_end old (term_with term 1) t (subst (λ l. Has l t) fresh.1 h)) [
  | inl there ↦ omega (arith, upto t there)
  | inr same ↦ omega (arith, ap (λ (x : TermCount). x.records) same)
]

-- nothing is counted of any element
pub none_in_sum : {X : Type 0} (xs : List X) → sum_by (λ (x : X). 0) xs ≡ 0
none_in_sum [] = refl
none_in_sum {X} (x ∷ xs) = omega (arith, sum_by-cons (λ (x : X). 0) x xs, none_in_sum xs)

-- a count that rises twice, and stays at its greatest value

pub rises_then : (a b old mid new : ℕ) → new < 2 ^ 64 → Rises a old mid → Rises b mid new → Rises (a + b) old new
rises_then a b old mid new fits (inl one) (inl two) = inl (omega (arith, one, two))
rises_then a b old mid new fits (inl one) (inr two) = inr (omega (arith, one, two.0), two.1)
rises_then a b old mid new fits (inr one) (inl two) = inr (omega (arith, one.0), omega (arith, one.1, two, fits))
rises_then a b old mid new fits (inr one) (inr two) = inr (omega (arith, one.0), two.1)

-- the same where it doesn't rise at first
pub rises_last : (b old mid new : ℕ) → (new ≡ mid) ⊎ (new < 2 ^ 64) → Rises 0 old mid → Rises b mid new → Rises b old new
rises_last b old mid new fits (inl one) (inl two) = inl (omega (arith, one, two))
rises_last b old mid new fits (inl one) (inr two) = inr (omega (arith, one, two.0), two.1)
rises_last b old mid new (inl same) (inr one) (inl two) = inr (omega (arith, one.0), omega (arith, one.1, same))
rises_last b old mid new (inr fits) (inr one) (inl two) = inr (omega (arith, one.0), omega (arith, one.1, two, fits))
rises_last b old mid new fits (inr one) (inr two) = inr (omega (arith, one.0), two.1)
