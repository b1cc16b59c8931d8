-- Rising entries that are counted one after the other: their terms, each with the records of its entries.
use Rattle.zeb_leaves.proofs.Cited.{Has, has_either, has_left, has_right, ◌≡◌, ◌≢◌, ◌∙◌, ◌⊎◌, ◌+◌, ◌<◌, ◌++◌, ◌∷◌, ℕ, true, false, List, [], length, filter, refl, sym, ap, subst, inl, inr, arith, Ordering, Less, Equal, Greater, nat_cmp, nat_list_cmp_total, slice_cmp, ordering_then, tied_itself, never_itself, sum_by, Entry, TermCount, entry_cmp, joined_rises, IsTotalOrder, on_total, get_or, reverse, take, filter-append, sum_by-append, sum_by-cons, is_eq, IsUtf8, CountAll, CountsIn, term_total, entries_total, before_last, front_rises, has_reversed, reversed_rises, same_bytes, term_with}
use Rattle.std.proofs.lemmas.List.{append_assoc, append-nil, reverse-append, take_more}
use Rattle.std.specs.List.Sorted.{IsStrictlySortedBy}
use Rattle.zeb_leaves.proofs.SpanLists.{is_of, its, its_has}

-- ---- lists

-- what has a member has a last one
last_there : {X : Type 0} (x : X) (xs : List X) → (front : List X) × (last : X) × (x ∷ xs ≡ front ++ last ∷ [])
last_there x [] = ([], x, refl)
last_there x (y ∷ xs) = let it = last_there y xs in (x ∷ it.0, it.1, ap (λ l. x ∷ l) it.2)

pub has_last : {X : Type 0} (xs : List X) (x : X) → Has xs x → (front : List X) × (last : X) × (xs ≡ front ++ last ∷ [])
has_last [] x here = absurd here
has_last (y ∷ xs) x here = last_there y xs

pub none_there : {X : Type 0} (xs : List X) → ((x : X) → ¬ Has xs x) → xs ≡ []
none_there [] none = refl
none_there (x ∷ xs) none = absurd (none x (inl refl))

-- ---- the entries of one term, and their records

abbrev records_of : List Entry → ℕ
records_of own = sum_by (λ (e : Entry). e.records) own

its_same : (term : List ℕ) (e : Entry) → e.term ≡ term → is_of term e ≡ true
unfolding is_of
its_same term e same = ap is_eq (ap (λ t. slice_cmp nat_cmp t term) same ∙ tied_itself nat_list_cmp_total term)

its_other : (term : List ℕ) (e : Entry) → e.term ≢ term → is_of term e ≡ false
unfolding is_of
its_other term e other = from (slice_cmp nat_cmp e.term term) refl
  where
    from : (o : Ordering) → slice_cmp nat_cmp e.term term ≡ o → is_eq (slice_cmp nat_cmp e.term term) ≡ false
    from Less is = ap is_eq is
    from Equal is = absurd (other (same_bytes e.term term is))
    from Greater is = ap is_eq is

sum_same : (term : List ℕ) (done : List Entry) (e : Entry) → e.term ≡ term → records_of (its term (done ++ e ∷ [])) ≡ records_of (its term done) + e.records
unfolding its
sum_same term done e same =
    let last : filter (is_of term) (e ∷ []) ≡ e ∷ [] = rw (its_same term e same) refl in
    let whole : filter (is_of term) (done ++ e ∷ []) ≡ filter (is_of term) done ++ e ∷ [] = filter-append (is_of term) done (e ∷ []) ∙ ap (λ l. filter (is_of term) done ++ l) last in
    omega (arith, ap records_of whole, sum_by-append (λ (d : Entry). d.records) (filter (is_of term) done) (e ∷ []), sum_by-cons (λ (d : Entry). d.records) e [])

sum_other : (term : List ℕ) (done : List Entry) (e : Entry) → e.term ≢ term → records_of (its term (done ++ e ∷ [])) ≡ records_of (its term done)
unfolding its
sum_other term done e other =
    let last : filter (is_of term) (e ∷ []) ≡ [] = rw (its_other term e other) refl in
    ap records_of (filter-append (is_of term) done (e ∷ []) ∙ ap (λ l. filter (is_of term) done ++ l) last ∙ append-nil (filter (is_of term) done))

-- ---- entries that are counted, in the order of their terms or the other way round

abbrev pub of_term : (List ℕ → List ℕ → Ordering) → TermCount → TermCount → Ordering
of_term T t u = T t.term u.term

pub by_term : (T : List ℕ → List ℕ → Ordering) → IsTotalOrder T → IsTotalOrder (of_term T)
by_term T texts = on_total (λ (t : TermCount). t.term) texts

pub record CountedBy (T : List ℕ → List ℕ → Ordering) (own : List Entry) (counts : List TermCount) : Type 0 where
  pub rising : IsStrictlySortedBy (of_term T) counts
  pub sums : (t : TermCount) → Has counts t → t.records ≡ sum_by (λ (e : Entry). e.records) (its t.term own)
  pub found : (e : Entry) → Has own e → (t : TermCount) × Has counts t × (t.term ≡ e.term)
  pub some : (t : TermCount) → Has counts t → (e : Entry) × Has own e × (e.term ≡ t.term)
  pub texts : (t : TermCount) → Has counts t → IsUtf8 t.term

pub none_counted : (T : List ℕ → List ℕ → Ordering) → CountedBy T [] []
unfolding IsStrictlySortedBy
none_counted T = record { rising = tt; sums = λ t h. absurd h; found = λ e h. absurd h; some = λ t h. absurd h; texts = λ t h. absurd h }

module _ (T : List ℕ → List ℕ → Ordering) (texts : IsTotalOrder T) (E : Entry → Entry → Ordering) (entries : IsTotalOrder E) (lower : (d e : Entry) → E d e ≡ Less → (T d.term e.term ≡ Less) ⊎ (d.term ≡ e.term)) where
  -- the last of a rising list may be changed, but for its term
  last_changed : (front : List TermCount) (last : TermCount) (records : ℕ) → IsStrictlySortedBy (of_term T) (front ++ last ∷ []) → IsStrictlySortedBy (of_term T) (front ++ term_with last.term records ∷ [])
  unfolding IsStrictlySortedBy
  last_changed front last records up =
      joined_rises (by_term T texts) front (term_with last.term records ∷ []) (front_rises (by_term T texts) front (last ∷ []) up) (tt, tt) (λ t u here there. elim there [
        | inl same ↦ subst (λ (v : TermCount). of_term T t v ≡ Less) (sym same) (before_last (by_term T texts) front last up t here)
        | inr none ↦ absurd none
      ])

  module _ (done : List Entry) (e : Entry) (up : IsStrictlySortedBy E (done ++ e ∷ [])) (old : List TermCount) (counted : CountedBy T done old) where
    -- no term that is counted is above the entry's
    term_under : (t : TermCount) → Has old t → (T t.term e.term ≡ Less) ⊎ (t.term ≡ e.term)
    term_under t here =
        let it = counted.some t here in
        elim (lower it.0 e (before_last entries done e up it.0 it.1)) [
          | inl less ↦ inl (subst (λ u. T u e.term ≡ Less) it.2 less)
          | inr same ↦ inr (sym it.2 ∙ same)
        ]

    -- ---- the last term is its own

    module _ (front : List TermCount) (last : TermCount) (is : old ≡ front ++ last ∷ []) (same : last.term ≡ e.term) where
      abbrev changed : TermCount
      changed = term_with last.term (last.records + e.records)

      old_rises : IsStrictlySortedBy (of_term T) (front ++ last ∷ [])
      old_rises = subst (IsStrictlySortedBy (of_term T)) is counted.rising

      front_has : (t : TermCount) → Has front t → Has old t
      front_has t here = subst (λ (l : List TermCount). Has l t) (sym is) (has_left front (last ∷ []) t here)

      last_has : Has old last
      last_has = subst (λ (l : List TermCount). Has l last) (sym is) (has_right front (last ∷ []) last (inl refl))

      front_other : (t : TermCount) → Has front t → e.term ≢ t.term
      front_other t here equal =
          let less : T t.term last.term ≡ Less = before_last (by_term T texts) front last old_rises t here in
          never_itself texts e.term (subst (λ u. T u e.term ≡ Less) (sym equal) (subst (λ u. T t.term u ≡ Less) same less))

      either : (P : TermCount → Type 0) → ((t : TermCount) → Has front t → P t) → P changed → (t : TermCount) → Has (front ++ changed ∷ []) t → P t
      either P left right t here = elim (has_either front (changed ∷ []) t here) [
        | inl first ↦ left t first
        | inr it ↦ elim it [ inl this ↦ subst P (sym this) right | inr none ↦ absurd none ]
      ]

      changed_counts : CountedBy T (done ++ e ∷ []) (front ++ changed ∷ [])
      changed_counts = record {
        rising = last_changed front last (last.records + e.records) old_rises;
        sums = either (λ t. t.records ≡ sum_by (λ (d : Entry). d.records) (its t.term (done ++ e ∷ [])))
            (λ t here. counted.sums t (front_has t here) ∙ sym (sum_other t.term done e (front_other t here)))
            (ap (λ n. n + e.records) (counted.sums last last_has) ∙ sym (sum_same last.term done e (sym same)));
        found = λ d here. elim (has_either done (e ∷ []) d here) [
          | inl first ↦
              let it = counted.found d first in
              elim (has_either front (last ∷ []) it.0 (subst (λ (l : List TermCount). Has l it.0) is it.1)) [
                | inl there ↦ (it.0, has_left front (changed ∷ []) it.0 there, it.2)
                | inr this ↦ elim this [ inl one ↦ (changed, has_right front (changed ∷ []) changed (inl refl), ap (λ (t : TermCount). t.term) (sym one) ∙ it.2) | inr none ↦ absurd none ]
              ]
          | inr this ↦ elim this [ inl one ↦ (changed, has_right front (changed ∷ []) changed (inl refl), same ∙ ap (λ (x : Entry). x.term) (sym one)) | inr none ↦ absurd none ]
        ];
        some = either (λ t. (d : Entry) × Has (done ++ e ∷ []) d × (d.term ≡ t.term))
            (λ t here. let it = counted.some t (front_has t here) in (it.0, has_left done (e ∷ []) it.0 it.1, it.2))
            (e, has_right done (e ∷ []) e (inl refl), sym same);
        texts = either (λ t. IsUtf8 t.term) (λ t here. counted.texts t (front_has t here)) (counted.texts last last_has);
      }

    -- ---- it isn't, and so the entry's term is a new one

    module _ (other : (front : List TermCount) (last : TermCount) → old ≡ front ++ last ∷ [] → last.term ≢ e.term) (text : IsUtf8 e.term) where
      abbrev added : TermCount
      added = term_with e.term e.records

      not_counted : (t : TermCount) → Has old t → t.term ≢ e.term
      not_counted t here equal =
          let it = has_last old t here in
          let rises = subst (IsStrictlySortedBy (of_term T)) it.2 counted.rising in
          let last_in : Has old it.1 = subst (λ (l : List TermCount). Has l it.1) (sym it.2) (has_right it.0 (it.1 ∷ []) it.1 (inl refl)) in
          elim (has_either it.0 (it.1 ∷ []) t (subst (λ (l : List TermCount). Has l t) it.2 here)) [
            | inl there ↦
                let less : T t.term it.1.term ≡ Less = before_last (by_term T texts) it.0 it.1 rises t there in
                elim (term_under it.1 last_in) [
                  | inl low ↦ never_itself texts e.term (texts.trans e.term it.1.term e.term (subst (λ u. T u it.1.term ≡ Less) equal less) low)
                  | inr also ↦ other it.0 it.1 it.2 also
                ]
            | inr this ↦ elim this [ inl one ↦ other it.0 it.1 it.2 (ap (λ (x : TermCount). x.term) (sym one) ∙ equal) | inr none ↦ none ]
          ]

      below_added : (t : TermCount) → Has old t → of_term T t added ≡ Less
      below_added t here = elim (term_under t here) [ inl less ↦ less | inr same ↦ absurd (not_counted t here same) ]

      none_its : its e.term done ≡ []
      none_its = none_there (its e.term done) (λ d here.
          let it = (its_has e.term done d).0 here in
          let t = counted.found d it.0 in
          not_counted t.0 t.1 (t.2 ∙ it.1))

      either_added : (P : TermCount → Type 0) → ((t : TermCount) → Has old t → P t) → P added → (t : TermCount) → Has (old ++ added ∷ []) t → P t
      either_added P left right t here = elim (has_either old (added ∷ []) t here) [
        | inl first ↦ left t first
        | inr it ↦ elim it [ inl this ↦ subst P (sym this) right | inr none ↦ absurd none ]
      ]

      added_counts : CountedBy T (done ++ e ∷ []) (old ++ added ∷ [])
      unfolding IsStrictlySortedBy
      added_counts = record {
        rising = joined_rises (by_term T texts) old (added ∷ []) counted.rising (tt, tt) (λ t u here there. elim there [
          | inl same ↦ subst (λ (v : TermCount). of_term T t v ≡ Less) (sym same) (below_added t here)
          | inr none ↦ absurd none
        ]);
        sums = either_added (λ t. t.records ≡ sum_by (λ (d : Entry). d.records) (its t.term (done ++ e ∷ [])))
            (λ t here. counted.sums t here ∙ sym (sum_other t.term done e (λ equal. not_counted t here (sym equal))))
            (omega (arith, sum_same e.term done e refl, ap records_of none_its));
        found = λ d here. elim (has_either done (e ∷ []) d here) [
          | inl first ↦ let it = counted.found d first in (it.0, has_left old (added ∷ []) it.0 it.1, it.2)
          | inr this ↦ elim this [ inl one ↦ (added, has_right old (added ∷ []) added (inl refl), ap (λ (x : Entry). x.term) (sym one)) | inr none ↦ absurd none ]
        ];
        some = either_added (λ t. (d : Entry) × Has (done ++ e ∷ []) d × (d.term ≡ t.term))
            (λ t here. let it = counted.some t here in (it.0, has_left done (e ∷ []) it.0 it.1, it.2))
            (e, has_right done (e ∷ []) e (inl refl), refl);
        texts = either_added (λ t. IsUtf8 t.term) counted.texts text;
      }

    counted_one : (new : List TermCount) → CountsIn e old new → CountedBy T (done ++ e ∷ []) new
    counted_one new (inl it) = subst (CountedBy T (done ++ e ∷ [])) (sym it.4) (changed_counts it.0 it.1 it.2 it.3)
    counted_one new (inr it) = subst (CountedBy T (done ++ e ∷ [])) (sym it.2) (added_counts it.0 it.1)

  pub more_counted_by : (done own : List Entry) (old new : List TermCount) → IsStrictlySortedBy E (done ++ own) → CountedBy T done old → CountAll own old new → CountedBy T (done ++ own) new
  more_counted_by done [] old new up counted all = subst (λ l. CountedBy T l new) (sym (append-nil done)) (subst (CountedBy T done) (sym all) counted)
  more_counted_by done (e ∷ own) old new up counted all =
      let whole : (done ++ e ∷ []) ++ own ≡ done ++ e ∷ own = append_assoc done (e ∷ []) own in
      let rises = subst (IsStrictlySortedBy E) (sym whole) up in
      let first = counted_one done e (front_rises entries (done ++ e ∷ []) own rises) old counted all.0 all.1 in
      subst (λ l. CountedBy T l new) whole (more_counted_by (done ++ e ∷ []) own all.0 new rises first all.2)

  -- rising entries that are counted one after the other
  pub counted_by : (own : List Entry) (counts : List TermCount) → IsStrictlySortedBy E own → CountAll own [] counts → CountedBy T own counts
  counted_by own counts up all = more_counted_by [] own [] counts up (none_counted T) all

-- ---- in the order of their terms

-- of two entries the lower has no greater term
pub lower_term : (d e : Entry) → entry_cmp d e ≡ Less → (slice_cmp nat_cmp d.term e.term ≡ Less) ⊎ (d.term ≡ e.term)
lower_term d e less = from (slice_cmp nat_cmp d.term e.term) refl
  where
    from : (o : Ordering) → slice_cmp nat_cmp d.term e.term ≡ o → (slice_cmp nat_cmp d.term e.term ≡ Less) ⊎ (d.term ≡ e.term)
    from Less is = inl is
    from Equal is = inr (same_bytes d.term e.term is)
    from Greater is = let f : Greater ≡ Less = sym (ap (λ o. ordering_then o (nat_cmp d.block e.block)) is) ∙ less in absurd (cc)

abbrev pub Counted : List Entry → List TermCount → Type 0
Counted = CountedBy (slice_cmp nat_cmp)

pub all_counted : (own : List Entry) (counts : List TermCount) → IsStrictlySortedBy entry_cmp own → CountAll own [] counts → Counted own counts
all_counted = counted_by (slice_cmp nat_cmp) nat_list_cmp_total entry_cmp entries_total lower_term

-- ---- and the other way round

abbrev pub falling : List ℕ → List ℕ → Ordering
falling t u = slice_cmp nat_cmp u t

pub lower_turned : (d e : Entry) → entry_cmp e d ≡ Less → (falling d.term e.term ≡ Less) ⊎ (d.term ≡ e.term)
lower_turned d e less = elim (lower_term e d less) [ inl low ↦ inl low | inr same ↦ inr (sym same) ]

sum_joined : (term : List ℕ) (own more : List Entry) → records_of (its term (own ++ more)) ≡ records_of (its term own) + records_of (its term more)
unfolding its
sum_joined term own more = ap records_of (filter-append (is_of term) own more) ∙ sum_by-append (λ (d : Entry). d.records) (filter (is_of term) own) (filter (is_of term) more)

sum_turned : (term : List ℕ) (own : List Entry) → records_of (its term (reverse own)) ≡ records_of (its term own)
sum_turned term [] = refl
sum_turned term (e ∷ own) =
    omega (arith, sum_turned term own, ap (λ l. records_of (its term l)) (reverse-append (e ∷ []) own), sum_joined term (reverse own) (e ∷ []), sum_joined term (e ∷ []) own)

pub counted_turned : (own : List Entry) (counts : List TermCount) → CountedBy falling own counts → Counted (reverse own) (reverse counts)
counted_turned own counts counted = record {
  rising = reversed_rises term_total counts counted.rising;
  sums = λ t h. counted.sums t ((has_reversed counts t).0 h) ∙ sym (sum_turned t.term own);
  found = λ e h. let t = counted.found e ((has_reversed own e).0 h) in (t.0, (has_reversed counts t.0).1 t.1, t.2);
  some = λ t h. let e = counted.some t ((has_reversed counts t).0 h) in (e.0, (has_reversed own e.0).1 e.1, e.2);
  texts = λ t h. counted.texts t ((has_reversed counts t).0 h);
}

-- ---- one more of them

pub count_joined : (own more : List Entry) (old mid new : List TermCount) → CountAll own old mid → CountAll more mid new → CountAll (own ++ more) old new
count_joined [] more old mid new all also = subst (λ l. CountAll more l new) all also
count_joined (d ∷ own) more old mid new all also = (all.0, all.1, count_joined own more all.0 mid new all.2 also)

pub count_taken : (entries : List Entry) (i : ℕ) (e : Entry) (old mid new : List TermCount) → i < length entries → e ≡ get_or entries i e → CountAll (take i entries) old mid → CountsIn e mid new → CountAll (take (i + 1) entries) old new
count_taken entries i e old mid new within is all one =
    let here : take (i + 1) entries ≡ take i entries ++ e ∷ [] = take_more entries i e within ∙ ap (λ d. take i entries ++ d ∷ []) (sym is) in
    subst (λ (l : List Entry). CountAll l old new) (sym here) (count_joined (take i entries) (e ∷ []) old mid new all (new, one, refl))
