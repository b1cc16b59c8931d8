-- What a text is: the query that it spells, or its fault.
use Rattle.zeb_query.proofs.Cited.{◌≡◌, ◌⊎◌, ℕ, ◌<◌, ◌≤◌, Bool, true, false, cond, List, Option, Some, None, inl, inr, length, refl, ap, sym, subst, ◌∙◌, arith, nat_lt, if◌then◌else◌, Result, Ok, Err, OnOk, IfErr, nat_tests, Word, AreWords, words_at, Start, fault, IsQuery, QueryValue, SpellsQuery, QueryFault, Diagnostic, Memory, IsFault, IsDiagnostic, IsFaultOf, Query, ReadsQuery, query_value, IsUnspelled, IsReadable, IsFaulty, is_long, is_unspelled, is_crowded}
use Rattle.std.specs.Prelude.{chars, []}
use Rattle.std.specs.Result.{IfOk}
use Rattle.zeb_query.proofs.WordStretches.{words_read_are, words_are_read}
use Rattle.zeb_query.proofs.GrammarOnce.{same_query}
use Rattle.zeb_query.proofs.GrammarLaws.{over_query}
use Rattle.zeb_query.proofs.GrammarFaults.{pairs_same, fault_is, no_fault_is, fault_where_strange, fault_where_unfinished, fault_where_crowded}

-- the number and the place of the text's fault, if the walk finds one
abbrev pub query_fault : List ℕ → Option (ℕ × ℕ)
query_fault text =
    if nat_lt 65535 (length text) then Some (11, 0) else
    fault (length text) 100 Start (words_at 0 (chars text))

-- what is spelled by the words that are read
pub read_query : (text : List ℕ) (query : QueryValue) → SpellsQuery text query → IsQuery (words_at 0 (chars text)) query
read_query text query s = subst (λ words. IsQuery words query) (words_read_are (chars text) s.words s.are_words) s.spelled

pub one_query : (text : List ℕ) (x y : QueryValue) → SpellsQuery text x → SpellsQuery text y → x ≡ y
one_query text x y s t = same_query (words_at 0 (chars text)) x y (read_query text x s) (read_query text y t)

-- ---- the length

abbrev fault_within : List ℕ → Bool → Option (ℕ × ℕ)
fault_within text long = cond long (Some (11, 0)) (fault (length text) 100 Start (words_at 0 (chars text)))

is_over : (n : ℕ) → 65535 < n → nat_lt 65535 n ≡ true
is_over n h = grind (arith, nat_tests)

is_within : (n : ℕ) → n ≤ 65535 → nat_lt 65535 n ≡ false
is_within n h = grind (arith, nat_tests)

over : (n : ℕ) → nat_lt 65535 n ≡ true → 65535 < n
over n h = grind (arith, nat_tests)

within : (n : ℕ) → nat_lt 65535 n ≡ false → n ≤ 65535
within n h = grind (arith, nat_tests)

-- ---- faults

pub stands : (text : List ℕ) (number place : ℕ) → query_fault text ≡ Some (number, place) → IsFaulty text number place
stands text number place e = at (nat_lt 65535 (length text)) refl e
  where
    words : List Word
    words = words_at 0 (chars text)

    at : (long : Bool) → nat_lt 65535 (length text) ≡ long → fault_within text long ≡ Some (number, place) → IsFaulty text number place
    at true is e =
        let p : (11 ≡ number) × (0 ≡ place) = pairs_same e in
        subst (λ m. IsFaulty text m place) p.0 (subst (λ q. IsFaulty text 11 q) p.1 (is_long (over _ is)))
    at false is e = elim (fault_is (length text) 100 words number place e) [
      | inl p ↦ subst (λ m. IsFaulty text m place) (sym p.0) (is_crowded words place (within _ is) (words_are_read (chars text)) p.1)
      | inr p ↦ subst (λ m. IsFaulty text m place) (sym p.0) (is_unspelled words place (within _ is) (words_are_read (chars text)) p.1)
    ]

where_unspelled : (end room : ℕ) (words : List Word) (place : ℕ) → IsUnspelled end room words place → fault end room Start words ≡ Some (108, place)
where_unspelled end room words place (inl s) = fault_where_strange end room words place s
where_unspelled end room words place (inr s) = fault_where_unfinished end room words place s

-- the fault of the words is that of the text
of_words : (text : List ℕ) (words : List Word) (f : Option (ℕ × ℕ)) → length text ≤ 65535 → AreWords (chars text) words → fault (length text) 100 Start words ≡ f → query_fault text ≡ f
of_words text words f short are e =
    ap (fault_within text) (is_within (length text) short) ∙ ap (λ ws. fault (length text) 100 Start ws) (sym (words_read_are (chars text) words are)) ∙ e

pub found : (text : List ℕ) (number place : ℕ) → IsFaulty text number place → query_fault text ≡ Some (number, place)
found text number place (is_long long) = ap (fault_within text) (is_over (length text) long)
found text number place (is_unspelled words at short are s) = of_words text words (Some (108, at)) short are (where_unspelled (length text) 100 words at s)
found text number place (is_crowded words at short are s) = of_words text words (Some (6, at)) short are (fault_where_crowded (length text) 100 words at s)

-- ---- no fault

pub readable : (text : List ℕ) → query_fault text ≡ None → IsReadable text
readable text e = at (nat_lt 65535 (length text)) refl e
  where
    at : (long : Bool) → nat_lt 65535 (length text) ≡ long → fault_within text long ≡ None → IsReadable text
    at true is e = absurd cc
    at false is e =
        let q = no_fault_is (length text) 100 (words_at 0 (chars text)) e in
        record {
          short = within _ is;
          query = q.0;
          spelled = record { words = words_at 0 (chars text); are_words = words_are_read (chars text); spelled = q.1.0 };
          room = q.1.1;
        }

pub faultless : (text : List ℕ) → IsReadable text → query_fault text ≡ None
faultless text r = of_words text r.spelled.words None r.short r.spelled.are_words (over_query r.spelled.spelled (length text) 100 r.room)

-- ---- each text is one or the other

pub apart : (text : List ℕ) (number place : ℕ) → IsReadable text → IsFaulty text number place → ⊥
apart text number place read faulty =
    let e : ◌≡◌ {A = Option (ℕ × ℕ)} None (Some (number, place)) = sym (faultless text read) ∙ found text number place faulty in
    absurd cc

pub one_fault : (text : List ℕ) (m p n q : ℕ) → IsFaulty text m p → IsFaulty text n q → (m ≡ n) × (p ≡ q)
one_fault text m p n q x y = pairs_same (sym (found text m p x) ∙ found text n q y)

pub read_or_faulty : (text : List ℕ) → IsReadable text ⊎ ((number : ℕ) × (place : ℕ) × IsFaulty text number place)
read_or_faulty text = at (query_fault text) refl
  where
    at : (found_fault : Option (ℕ × ℕ)) → query_fault text ≡ found_fault → IsReadable text ⊎ ((number : ℕ) × (place : ℕ) × IsFaulty text number place)
    at None is = inl (readable text is)
    at (Some pair) is = inr (pair.0, pair.1, stands text pair.0 pair.1 is)

-- ---- the fault of a call

pub fault_of_text : (text : List ℕ) (e : QueryFault) → IsFault e (query_fault text) → IsFaultOf e text
fault_of_text text Memory is = tt
fault_of_text text (Diagnostic number place addinfo) is = (stands text number place is.0, is.1)

pub too_long : (text : List ℕ) (e : QueryFault) → 65535 < length text → IsDiagnostic e 11 0 [] → IsFaultOf e text
too_long text Memory long is = tt
too_long text (Diagnostic number place addinfo) long is =
    (subst (λ n. IsFaulty text n place) (sym is.0) (subst (λ p. IsFaulty text 11 p) (sym is.1) (is_long long)), is.2)

-- ---- what is said of a result by the words that were read

module _ (text : List ℕ) (words : List Word) (short : length text ≤ 65535) (are : words ≡ words_at 0 (chars text)) where
  are_words : AreWords (chars text) words
  are_words = subst (AreWords (chars text)) (sym are) (words_are_read (chars text))

  pub read_spelled : (r : Result Query QueryFault) → ReadsQuery (length text) words r → IfOk r (λ query. SpellsQuery text (query_value query))
  read_spelled (Ok query) it = record { words = words; are_words = are_words; spelled = it.0 }
  read_spelled (Err e) it = tt

  pub read_whole : (r : Result Query QueryFault) → ReadsQuery (length text) words r → OnOk r (IsReadable text)
  read_whole (Ok query) it = readable text (of_words text words None short are_words it.1)
  read_whole (Err e) it = tt

  pub read_faulty : (r : Result Query QueryFault) → ReadsQuery (length text) words r → IfErr r (λ e. IsFaultOf e text)
  read_faulty (Ok query) it = tt
  read_faulty (Err e) it = fault_of_text text e (subst (IsFault e) (sym (of_words text words _ short are_words refl)) it)
