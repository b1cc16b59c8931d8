-- What a register has of a set of occurrences is there, where the set is that of a list: its terms, their counts and its places.
use Rattle.zeb_laws.proofs.Cited.{◌≡◌, ◌↔◌, ◌∙◌, ℕ, List, length, map, refl, sym, ap, subst, Equal, nat_cmp_total, slice_cmp, nat_list_cmp_total, nat_cmp, Has, has_mapped, mapped_has, Register, Key, Occurrence, key_total, keys_apart, numbers_apart, both_equal, texts_apart, TermCount, Totals, AreSpotsOf, AreTermsOf, AreTotals, HasSpot, IsCount, Spot, TermIn, capped, key_in, spot_cmp, term_cmp, postings_apart, spot_total, told_by}
use Rattle.zeb_laws.proofs.EveryAnswerHolds.{IsSetOf}
use Rattle.zeb_laws.proofs.EveryAnswerHolds.{IsKeyIn, key_in_decided, key_is_in}
use Rattle.zeb_laws.proofs.EveryAnswerLists.{Decided, mapped_rises, rising_has, rising_of, rising_rises, those, those_are}

spots_apart : (a b : Spot) → spot_cmp a b ≡ Equal → a ≡ b
spots_apart a b e =
    let parts = both_equal _ _ e in
    let term : a.0 ≡ b.0 = texts_apart a.0 b.0 parts.0 in
    let posting : a.1 ≡ b.1 = postings_apart a.1 b.1 parts.1 in
    λ i. (term i, posting i)

module _ (O : ℕ → Occurrence → Type 0) (all : List (ℕ × Occurrence)) (are : IsSetOf O all) (index : ℕ) (register : Register) where
  abbrev HasKeyOf : List ℕ → ℕ × Occurrence → Type 0
  HasKeyOf term x = x.1.key ≡ key_in index register term

  has_key_of : (term : List ℕ) (x : ℕ × Occurrence) → Decided (HasKeyOf term x)
  has_key_of term x = told_by key_total keys_apart x.1.key (key_in index register term)

  -- ---- the numbers of a term

  with_term : List ℕ → List (ℕ × Occurrence)
  with_term term = those (HasKeyOf term) (has_key_of term) all

  numbers_with : List ℕ → List ℕ
  numbers_with term = rising_of nat_cmp_total numbers_apart (map (λ (x : ℕ × Occurrence). x.0) (with_term term))

  numbers_have : (term : List ℕ) (n : ℕ) → Has (numbers_with term) n ↔ TermIn O index register term n
  unfolding numbers_with with_term
  numbers_have term n =
      let numbers = map (λ (x : ℕ × Occurrence). x.0) (with_term term) in
      let told = those_are (HasKeyOf term) (has_key_of term) all in (
        λ h. let x = has_mapped (λ (x : ℕ × Occurrence). x.0) (with_term term) n ((rising_has nat_cmp_total numbers_apart numbers n).0 h) in
            let there = (told x.0).0 x.1 in
            (x.0.1, subst (λ m. O m x.0.1) (sym x.2) ((are x.0.0 x.0.1).1 there.0), there.1),
        λ h. let there = (told (n, h.0)).1 ((are n h.0).0 h.1, h.2) in
            (rising_has nat_cmp_total numbers_apart numbers n).1 (mapped_has (λ (x : ℕ × Occurrence). x.0) (with_term term) (n, h.0) there),
      )

  number_counted : (term : List ℕ) → IsCount (TermIn O index register term) (length (numbers_with term))
  unfolding numbers_with
  number_counted term = record {
    numbers = numbers_with term;
    rising = rising_rises nat_cmp_total numbers_apart (map (λ (x : ℕ × Occurrence). x.0) (with_term term));
    each = λ n. numbers_have term n;
    count_is = refl;
  }

  -- ---- the terms

  entries : List (ℕ × Occurrence)
  entries = those (IsKeyIn index register) (key_in_decided index register) all

  entries_are : (x : ℕ × Occurrence) → Has entries x ↔ (Has all x × IsKeyIn index register x)
  unfolding entries
  entries_are x = those_are (IsKeyIn index register) (key_in_decided index register) all x

  term_of : ℕ × Occurrence → List ℕ
  term_of x = x.1.key.term

  texts : List (List ℕ)
  texts = rising_of nat_list_cmp_total texts_apart (map term_of entries)

  text_is_term : (term : List ℕ) → Has texts term → (n : ℕ) × TermIn O index register term n
  unfolding texts term_of
  text_is_term term h =
      let x = has_mapped term_of entries term ((rising_has nat_list_cmp_total texts_apart (map term_of entries) term).0 h) in
      let there = (entries_are x.0).0 x.1 in
      (x.0.0, (x.0.1, (are x.0.0 x.0.1).1 there.0, there.1 ∙ ap (key_in index register) (sym x.2)))

  term_is_text : (term : List ℕ) (n : ℕ) → TermIn O index register term n → Has texts term
  unfolding texts term_of
  term_is_text term n h =
      let there = (entries_are (n, h.0)).1 ((are n h.0).0 h.1, key_is_in index register h.0.key term h.2) in
      let same : h.0.key.term ≡ term = ap (λ (k : Key). k.term) h.2 in
      (rising_has nat_list_cmp_total texts_apart (map term_of entries) term).1 (subst (Has (map term_of entries)) same (mapped_has term_of entries (n, h.0) there))

  count_of : List ℕ → TermCount
  count_of term = record { term = term; records = length (numbers_with term) }

  terms_are : AreTermsOf O index register (map count_of texts)
  unfolding count_of texts
  terms_are = record {
    rising = mapped_rises (slice_cmp nat_cmp) term_cmp count_of (λ a b. refl) texts (rising_rises nat_list_cmp_total texts_apart (map term_of entries));
    found = λ term n h. (count_of term, mapped_has count_of texts term (term_is_text term n h), refl);
    some = λ t h. let from = has_mapped count_of texts t h in
        let n = text_is_term from.0 from.1 in
        (n.0, subst (λ (u : TermCount). TermIn O index register u.term n.0) (sym from.2) n.1);
    counts = λ t h. let from = has_mapped count_of texts t h in
        subst (λ (u : TermCount). IsCount (TermIn O index register u.term) u.records) (sym from.2) (number_counted from.0);
  }

  pub terms_there : (terms : List TermCount) × AreTermsOf O index register terms
  terms_there = (map count_of texts, terms_are)

  -- ---- the places

  spot_of : ℕ × Occurrence → Spot
  spot_of x = (x.1.key.term, record { sysno = x.0; seq = x.1.seq; pos = x.1.pos })

  -- an occurrence with this key, as it stands in a register
  with_key : (o : Occurrence) (key : Key) → o.key ≡ key → o ≡ record { key = key; seq = o.seq; pos = o.pos }
  with_key o key same i = record { key = same i; seq = o.seq; pos = o.pos }

  spots : List Spot
  spots = rising_of spot_total spots_apart (map spot_of entries)

  spots_have : (spot : Spot) → Has spots spot ↔ HasSpot O index register spot
  unfolding spots spot_of
  spots_have spot = (
    λ h. let x = has_mapped spot_of entries spot ((rising_has spot_total spots_apart (map spot_of entries) spot).0 h) in
        let there = (entries_are x.0).0 x.1 in
        subst (HasSpot O index register) (sym x.2) (subst (O x.0.0) (with_key x.0.1 (key_in index register x.0.1.key.term) there.1) ((are x.0.0 x.0.1).1 there.0)),
    λ h. let o : Occurrence = record { key = key_in index register spot.0; seq = spot.1.seq; pos = spot.1.pos } in
        (rising_has spot_total spots_apart (map spot_of entries) spot).1 (mapped_has spot_of entries (spot.1.sysno, o) ((entries_are (spot.1.sysno, o)).1 ((are spot.1.sysno o).0 h, refl))),
  )

  spots_are : AreSpotsOf O index register spots
  unfolding spots
  spots_are = record { rising = rising_rises spot_total spots_apart (map spot_of entries); each = spots_have }

  pub totals_there : (totals : Totals) × AreTotals O index register totals
  totals_there =
      let terms = terms_there in (
        record { terms = capped (length terms.0); occurrences = capped (length spots) },
        record { all = terms.0; are = terms.1; terms = refl; spots = spots; stand = spots_are; occurrences = refl },
      )
