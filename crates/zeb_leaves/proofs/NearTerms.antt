-- The terms of one side of a text, of which those nearest to it are counted until there are enough: what is listed, and what hides it.
-- Both sides are told at once: an order of texts in which the nearest come first, and the list that is counted in this order, turned into
-- that of the terms' own order.
use Rattle.zeb_leaves.proofs.Cited.{Row, Has, has_either, has_right, Trees, ◌≡◌, ◌≢◌, ◌↔◌, ◌⊎◌, ◌∙◌, ◌≤◌, ◌++◌, ◌∷◌, ℕ, true, false, List, [], length, refl, sym, ap, subst, inl, inr, arith, Ordering, Less, Equal, Greater, ordering_reverse, sum_by, never_itself, IsTotalOrder, Entry, TermCount, IsEntryOf, SumsRecords, key_in, Bool, AreEnough, CountUntil, MeetNoText, CountsIn, before_last, front_rises, packed_leaves, term_cmp, HidesCount, HidesNearest, IsNearest, ListsCounts, ListsNearest, RegisterOf}
use Rattle.std.proofs.lemmas.List.{append_assoc, append-nil}
use Rattle.std.specs.List.Sorted.{IsStrictlySortedBy}
use Rattle.zeb_leaves.proofs.CountedTerms.{Counted, CountedBy, by_term, more_counted_by, of_term}
use Rattle.zeb_leaves.proofs.NearLists.{few_others, some_entry, still_fits}
use Rattle.zeb_leaves.proofs.SpanEntries.{HasOwnIn}
use Rattle.zeb_leaves.proofs.SpanLists.{its, its_has, own_term}
use Rattle.zeb_leaves.proofs.TermEntries.{own_summed}
use Rattle.zeb_leaves.proofs.TermsTold.{Own, lists_counted, text_hides}
use Rattle.zeb_register.proofs.KeyLists.{one_number}

module _ (trees : Trees) (at : RegisterOf) where
  abbrev pub Leaves : Row → Type 0
  Leaves = Own trees at

  -- of a term of which each key is In, what is counted is its count
  pub counted_there : (In : List ℕ → ℕ → Type 0) (own : List Entry) → HasOwnIn Leaves In own → (counts : List TermCount) → Counted own counts → (t : TermCount)
      → ((block : ℕ) → In t.term block) → 1 ≤ t.records → SumsRecords Leaves t.term t.records → Has counts t
  counted_there In own has counts counted t all some sums =
      let mine = its t.term own in
      let many = sum_by (λ (e : Entry). e.records) mine in
      let is : t.records ≡ many = one_number packed_leaves trees at.db.0 (key_in at.index at.register t.term) t.records many sums (own_summed Leaves t.term mine many (own_term Leaves In own has t.term all) refl) in
      let e = some_entry mine (omega (arith, is, some)) in
      let here = (its_has t.term own e.0).0 e.1 in
      let x = counted.found e.0 here.0 in
      let term : x.0.term ≡ t.term = x.2 ∙ here.1 in
      let records : x.0.records ≡ t.records = counted.sums x.0 x.1 ∙ ap (λ u. sum_by (λ (d : Entry). d.records) (its u own)) term ∙ sym is in
      let same : x.0 ≡ t = (λ i. record { term = term i; records = records i }) in
      subst (Has counts) same x.1

  module _ (IsOn : List ℕ → Type 0) (T : List ℕ → List ℕ → Ordering) (texts : IsTotalOrder T) (apart : (t u : List ℕ) → T t u ≡ Equal → t ≡ u) (n : ℕ) where
    abbrev pub IsNearer : List ℕ → List ℕ → Type 0
    IsNearer t u = T t u ≡ Less

    abbrev pub Lists : List TermCount → Type 0
    Lists = ListsNearest packed_leaves trees at.db.0 at.index at.register IsOn IsNearer n

    abbrev pub Hides : Type 0
    Hides = HidesNearest packed_leaves trees at.db.0 at.index at.register IsOn IsNearer n

    abbrev pub Asked : List TermCount → List ℕ → Type 0
    Asked = IsNearest packed_leaves trees at.db.0 at.index at.register IsOn IsNearer n

    never_own : (t : List ℕ) → ¬ IsNearer t t
    never_own t less = never_itself texts t less

    -- what isn't nearer is the same or further on
    or_further : (t u : List ℕ) → (¬ IsNearer t u) → (t ≡ u) ⊎ IsNearer u t
    or_further t u up = from (T t u) refl
      where
        from : (o : Ordering) → T t u ≡ o → (t ≡ u) ⊎ IsNearer u t
        from Less is = absurd (up is)
        from Equal is = inl (apart t u is)
        from Greater is = inr (texts.antisymm u t ∙ ap ordering_reverse is)

    pub up_nearer : (s t u : List ℕ) → (¬ IsNearer t s) → IsNearer t u → IsNearer s u
    up_nearer s t u up less = elim (or_further t s up) [ inl same ↦ subst (λ v. IsNearer v u) same less | inr low ↦ texts.trans s t u low less ]

    -- of the keys that are In the entries are counted, and each that is asked for is one
    pub listed : (In : List ℕ → ℕ → Type 0) (own : List Entry) (counts : List TermCount) → HasOwnIn Leaves In own → Counted own counts → length counts ≤ n
        → ((t : List ℕ) (b : ℕ) → In t b → IsOn t) → ((t : List ℕ) → Asked counts t → (b : ℕ) → In t b) → Lists counts
    listed In own counts has counted fits on full = record { few = fits; are = lists }
      where
        lists : ListsCounts packed_leaves trees at.db.0 at.index at.register (Asked counts) counts
        lists = lists_counted trees at In own has counts counted (Asked counts)
            (λ t h. let e = counted.some t h in (subst IsOn e.2 (on e.0.term e.0.block ((has.each e.0).0 e.1).0), inr (t, h, never_own t.term))) full

    -- ---- all that is nearer than a term is counted

    module _ (turn : List TermCount → List TermCount) (turned : (old : List TermCount) (t : TermCount) → Has (turn old) t ↔ Has old t) (long : (old : List TermCount) → length (turn old) ≡ length old) where
      pub record IsDone (s : List ℕ) (old : List TermCount) : Type 1 where
        pub In : List ℕ → ℕ → Type 0
        pub own : List Entry
        pub has : HasOwnIn Leaves In own
        pub on : (t : List ℕ) (b : ℕ) → In t b → IsOn t × (¬ IsNearer s t)
        pub full : (t : List ℕ) → IsOn t → IsNearer t s → (b : ℕ) → In t b
        pub counted : Counted own (turn old)
        pub order : IsStrictlySortedBy (of_term T) old
        pub fits : length old ≤ n

      module _ (s : List ℕ) (old : List TermCount) (done : IsDone s old) where
        -- and there are enough
        pub enough_listed : AreEnough n old s → Lists (turn old)
        enough_listed enough =
            listed done.In done.own (turn old) done.has done.counted (omega (arith, done.fits, long old)) (λ t b is. (done.on t b is).0)
            (λ t asked. done.full t asked.0 (elim asked.1 [
              | inl fewer ↦ absurd (omega (arith, fewer, enough.0, long old))
              | inr u ↦ up_nearer t u.0.term s u.2 (nearer u.0 ((turned old u.0).0 u.1))
            ]))
          where
            up : (t : TermCount) → Has old t → (t.term ≢ s) → IsNearer t.term s
            up t h other =
                let e = done.counted.some t ((turned old t).1 h) in
                let key = ((done.has.each e.0).0 e.1).0 in
                elim (or_further s t.term (subst (λ u. ¬ IsNearer s u) e.2 (done.on e.0.term e.0.block key).1)) [ inl same ↦ absurd (other (sym same)) | inr less ↦ less ]

            last_in : Has old enough.2
            last_in = subst (λ (l : List TermCount). Has l enough.2) (sym enough.3) (has_right enough.1 (enough.2 ∷ []) enough.2 (inl refl))

            nearer : (t : TermCount) → Has old t → IsNearer t.term s
            nearer t h = elim (has_either enough.1 (enough.2 ∷ []) t (subst (λ (l : List TermCount). Has l t) enough.3 h)) [
              | inl front ↦ texts.trans t.term enough.2.term s (before_last (by_term T texts) enough.1 enough.2 (subst (IsStrictlySortedBy (of_term T)) enough.3 done.order) t front) (up enough.2 last_in enough.4)
              | inr it ↦ elim it [ inl same ↦ subst (λ (x : TermCount). IsNearer x.term s) (sym same) (up enough.2 last_in enough.4) | inr none ↦ absurd none ]
            ]

        -- or there aren't, and the term's count can't be shown
        pub hidden_next : 1 ≤ n → IsOn s → (¬ AreEnough n old s) → HidesCount packed_leaves trees at.db.0 at.index at.register s
            → ((some xs ys : List TermCount) → IsStrictlySortedBy term_cmp some → xs ++ ys ≡ old → ((t : TermCount) → Has some t → Has xs t) → length some ≤ length xs) → Hides
        hidden_next one on less hidden bound = record {
          term = s;
          on = on;
          hidden = hidden;
          few = λ some up each. few_others n one old some s done.fits less (λ xs ys is there. bound some xs ys up is there)
              (λ t h.
              let it = each t h in
              let here = counted_there done.In done.own done.has (turn old) done.counted t (done.full t.term it.0 it.1) it.2 it.3.0 in
              ((turned old t).0 here, λ same. never_own s (subst (λ u. IsNearer u s) same it.1)));
        }

      -- ---- entries, one after the other

      module _ (one : 1 ≤ n) (bound : (old some xs ys : List TermCount) → IsStrictlySortedBy (of_term T) old → IsStrictlySortedBy term_cmp some → xs ++ ys ≡ old → ((t : TermCount) → Has some t → Has xs t) → length some ≤ length xs)
          (E : Entry → Entry → Ordering) (entries : IsTotalOrder E) (lower : (d e : Entry) → E d e ≡ Less → (T d.term e.term ≡ Less) ⊎ (d.term ≡ e.term))
          (all : List Entry) (rises : IsStrictlySortedBy E all) (known : (e : Entry) → Has all e → IsOn e.term × IsEntryOf Leaves e.term e)
          (done_at : (front rest : List Entry) (e : Entry) (old : List TermCount) → front ++ e ∷ rest ≡ all → CountedBy T front old → length old ≤ n → IsDone e.term old) where
        counted_on : (front rest : List Entry) (e : Entry) (old mid : List TermCount) → front ++ e ∷ rest ≡ all → CountedBy T front old → CountsIn e old mid → CountedBy T (front ++ e ∷ []) mid
        counted_on front rest e old mid is counted counts =
            more_counted_by T texts E entries lower front (e ∷ []) old mid
            (front_rises entries (front ++ e ∷ []) rest (subst (IsStrictlySortedBy E) (sym (append_assoc front (e ∷ []) rest ∙ is)) rises)) counted (mid, counts, refl)

        pub until_told : (front rest : List Entry) → front ++ rest ≡ all → (old new : List TermCount) (enough : Bool) → CountedBy T front old → length old ≤ n → CountUntil n rest old new enough
            → ((enough ≡ true) × Lists (turn new)) ⊎ ((enough ≡ false) × CountedBy T all new × (length new ≤ n))
        until_told front [] is old new enough counted fits it =
            inr (it.0, subst (CountedBy T all) (sym it.1) (subst (λ (l : List Entry). CountedBy T l old) (sym (append-nil front) ∙ is) counted), subst (λ (l : List TermCount). length l ≤ n) (sym it.1) fits)
        until_told front (e ∷ rest) is old new enough counted fits (inl it) =
            inl (it.2, subst (λ (l : List TermCount). Lists (turn l)) (sym it.1) (enough_listed e.term old (done_at front rest e old is counted fits) it.0))
        until_told front (e ∷ rest) is old new enough counted fits (inr it) =
            until_told (front ++ e ∷ []) rest (append_assoc front (e ∷ []) rest ∙ is) it.1 new enough (counted_on front rest e old it.1 is counted it.2) (still_fits n one old it.1 e fits it.0 it.2) it.3

        pub until_hides : (front rest : List Entry) → front ++ rest ≡ all → (old : List TermCount) → CountedBy T front old → length old ≤ n → MeetNoText n rest old → Hides
        until_hides front [] is old counted fits it = absurd it
        until_hides front (e ∷ rest) is old counted fits it = elim it.1 [
          | inl bad ↦
              (let here = known e (subst (λ (l : List Entry). Has l e) is (has_right front (e ∷ rest) e (inl refl))) in
              hidden_next e.term old (done_at front rest e old is counted fits) one here.0 it.0 (text_hides trees at e here.1 bad) (λ some xs ys up whole there. bound old some xs ys counted.rising up whole there))
          | inr more ↦ until_hides (front ++ e ∷ []) rest (append_assoc front (e ∷ []) rest ∙ is) more.0 (counted_on front rest e old more.0 is counted more.1) (still_fits n one old more.0 e fits it.0 more.1) more.2
        ]
