-- A register has a list of its terms where these are among the texts of a list.
use Rattle.zeb_register.proofs.Cited.{has_filtered, has_kept, has_mapped, mapped_has, Has, ◌≡◌, ℕ, ℤ, Bool, true, false, List, [], ◌∷◌, length, map, filter, refl, sym, ap, subst, inl, inr, nat_cmp, nat_cmp_total, slice_cmp, nat_list_cmp_total, Register, numbers_apart, Posting, TermCount, Content, posted, IsCount, AreTermsOf, TermIn, key_in, term_cmp, IsInRecord, term_with}
use Rattle.std.specs.List.Sorted.{IsStrictlySortedBy}
use Rattle.zeb_register.proofs.RisingLists.{kept_rises, with_all, all_there, all_rise}
use Rattle.zeb_register.proofs.RowLemmas.{same_bytes}
use Rattle.zeb_register.proofs.Scans.{strictly_mapped}
use Rattle.zeb_register.proofs.CountLemmas.{count_so}
use Rattle.zeb_register.proofs.OccurringLemmas.{key_posted}

-- ---- the records of a list

has_some : List Posting → Bool
has_some [] = false
has_some (p ∷ ps) = true

some_is : (ps : List Posting) → has_some ps ≡ true → (p : Posting) × Has ps p
unfolding has_some
some_is [] h = absurd (cc)
some_is (p ∷ ps) h = (p, inl refl)

is_some : (ps : List Posting) (p : Posting) → Has ps p → has_some ps ≡ true
unfolding has_some
is_some [] p h = absurd h
is_some (q ∷ ps) p h = refl

numbers_of : List Posting → List ℕ
numbers_of ps = with_all nat_cmp_total numbers_apart (map (λ (p : Posting). p.sysno) ps) []

pub records_of : List Posting → ℕ
records_of ps = length (numbers_of ps)

pub records_count : (ps : List Posting) → IsCount (IsInRecord ps) (records_of ps)
unfolding records_of numbers_of IsStrictlySortedBy
records_count ps = record {
  numbers = with_all nat_cmp_total numbers_apart (map (λ (p : Posting). p.sysno) ps) [];
  rising = all_rise nat_cmp_total numbers_apart (map (λ (p : Posting). p.sysno) ps) [] tt;
  each = λ n. let there = all_there nat_cmp_total numbers_apart (map (λ (p : Posting). p.sysno) ps) [] n in (
    λ h. elim (there.0 h) [ inl none ↦ absurd none | inr put ↦ let p = has_mapped (λ (p : Posting). p.sysno) ps n put in (p.0, p.1, sym p.2) ],
    λ h. there.1 (inr (subst (Has (map (λ (p : Posting). p.sysno) ps)) h.2 (mapped_has (λ (p : Posting). p.sysno) ps h.0 h.1))),
  );
  count_is = refl;
}

-- ---- the terms

module _ (content : Content) (db : ℤ) (index : ℕ) (register : Register) (among : List (List ℕ)) (listed : (term : List ℕ) (n : ℕ) → TermIn (posted content db) index register term n → Has among term) where
  abbrev list_of : List ℕ → List Posting
  list_of term = content db (key_in index register term)

  abbrev term_in : List ℕ → ℕ → Type 0
  term_in = TermIn (posted content db) index register

  ordered : List (List ℕ)
  ordered = with_all nat_list_cmp_total same_bytes among []

  ordered_rises : IsStrictlySortedBy (slice_cmp nat_cmp) ordered
  unfolding ordered IsStrictlySortedBy
  ordered_rises = all_rise nat_list_cmp_total same_bytes among [] tt

  ordered_has : (term : List ℕ) → Has among term → Has ordered term
  unfolding ordered
  ordered_has term here = (all_there nat_list_cmp_total same_bytes among [] term).1 (inr here)

  texts : List (List ℕ)
  texts = filter (λ t. has_some (list_of t)) ordered

  counted : List ℕ → TermCount
  counted t = term_with t (records_of (list_of t))

  pub terms_among : (terms : List TermCount) × AreTermsOf (posted content db) index register terms
  unfolding texts counted
  terms_among = (map counted texts, record { rising = rises; found = there; some = back; counts = count })
    where
      rises : IsStrictlySortedBy term_cmp (map counted texts)
      rises = strictly_mapped (slice_cmp nat_cmp) term_cmp counted texts (λ a b here there less. less) (kept_rises nat_list_cmp_total (λ t. has_some (list_of t)) ordered ordered_rises)

      there : (term : List ℕ) (n : ℕ) → term_in term n → (t : TermCount) × Has (map counted texts) t × (t.term ≡ term)
      there term n in_it =
          let p = (key_posted content db (key_in index register term) n).0 in_it in
          let here = has_kept (λ t. has_some (list_of t)) ordered term (ordered_has term (listed term n in_it)) (is_some (list_of term) p.0 p.1) in
          (counted term, mapped_has counted texts term here, refl)

      back : (t : TermCount) → Has (map counted texts) t → (n : ℕ) × term_in t.term n
      back t h =
          let u = has_mapped counted texts t h in
          let passes = (has_filtered (λ t. has_some (list_of t)) ordered u.0 u.1).1 in
          let p = some_is (list_of u.0) passes in
          subst (λ (x : List ℕ). (n : ℕ) × term_in x n) (sym (ap (λ (x : TermCount). x.term) u.2)) (p.0.sysno, (key_posted content db (key_in index register u.0) p.0.sysno).1 (p.0, p.1, refl))

      count : (t : TermCount) → Has (map counted texts) t → IsCount (term_in t.term) t.records
      count t h =
          let u = has_mapped counted texts t h in
          subst (λ (x : TermCount). IsCount (term_in x.term) x.records) (sym u.2) (count_so (IsInRecord (list_of u.0)) (term_in u.0) (records_of (list_of u.0)) (λ n. ((key_posted content db (key_in index register u.0) n).1, (key_posted content db (key_in index register u.0) n).0)) (records_count (list_of u.0)))
