-- How many rows of `dict` calls read, one after the other.
use Rattle.zeb_search.proofs.Cited.{◌≡◌, ◌∙◌, ◌++◌, ◌∷◌, ◌+◌, ◌*◌, ◌≤◌, [], ℕ, ℤ, List, arith, ap, refl, sym, subst, inl, inr, length, map, length-append, length-map, mul-add, mul-le-mul_left, nat_list_cmp_total, Has, has_mapped, mapped_has, Symbol, Register, PlanValue, TermOf, PairOf, NearOf, TermPlanValue, RecordNumberOf, NoWordsOf, AlwaysOf, NumberOf, OrderedOf, CompleteOf, PhraseOf, AllWordsOf, AnyWordOf, Occurrence, TermCount, Work, Content, posted, AreTermsOf, TermIn, no_longer, CountsRows, HasNoStar, AreWithoutStars, IsOneKey, NamesEntries, TermNamesEntries, NoRows, EntryDict, PlanDict, RegisterDict, TermDict, WordDict, TermsRise}
use Rattle.zeb_keys.specs.declared.Register.TheVariants as register
use Rattle.zeb_search.proofs.SearchCountLemmas.{rows_then}
use Rattle.zeb_search.proofs.RisingTexts.{terms_rise}

-- terms of a register, each once, are no more than all of its terms
pub no_more_terms : (O : ℕ → Occurrence → Type 0) (index : ℕ) (register : Register) (terms all : List TermCount) → TermsRise terms → ((t : TermCount) → Has terms t → (n : ℕ) × TermIn O index register t.term n)
    → AreTermsOf O index register all → length terms ≤ length all
no_more_terms O index register terms all up of are =
    let text = λ (t : TermCount). t.term in
    let texts : length (map text terms) ≤ length (map text all) =
    no_longer nat_list_cmp_total (map text all) (map text terms) (terms_rise all are.rising) up (λ z h.
    let t = has_mapped text terms z h in
    let n = of t.0 t.1 in
    let found = are.found t.0.term n.0 n.1 in
    subst (Has (map text all)) (found.2 ∙ sym t.2) (mapped_has text all found.0 found.1)) in
    omega (arith, texts, length-map terms text, length-map all text)

-- ---- rows of `dict`

-- so many terms that are gone through
abbrev pub CountsTerms : (row_work : ℕ) → List TermCount → Work → Work → Type 0
CountsTerms row_work terms = CountsRows (λ n. n ≡ row_work * length terms) NoRows

-- the first pages, and one page more
pub pages_counted : (row_work : ℕ) (terms page all : List TermCount) → all ≡ terms ++ page → (a b c : Work) → CountsTerms row_work terms a b → CountsTerms row_work page b c → CountsTerms row_work all a c
pages_counted row_work terms page all joined a b c =
    rows_then (λ n. n ≡ row_work * length terms) (λ n. n ≡ row_work * length page) (λ n. n ≡ row_work * length all) NoRows NoRows NoRows a b c
    (λ m n first second.
    let long : length all ≡ length terms + length page = ap length joined ∙ length-append terms page in
    omega (arith, first, second, ap (λ k. row_work * k) long, mul-add row_work (length terms) (length page))) (λ m n first second. omega (arith, first, second))

module _ (row_work : ℕ) (content : Content) (db : ℤ) where
  -- terms of a register, each once, add no more than all of its terms
  pub within_register : (index : ℕ) (register : Register) (terms all : List TermCount) (n : ℕ) → TermsRise terms → ((t : TermCount) → Has terms t → (m : ℕ) × TermIn (posted content db) index register t.term m)
      → AreTermsOf (posted content db) index register all → n ≡ row_work * length terms → (most : ℕ) × (n ≤ most) × RegisterDict row_work content db index register most
  within_register index register terms all n up of are is = (
    row_work * length all,
    omega (arith, is, mul-le-mul_left row_work (no_more_terms (posted content db) index register terms all up of are)),
    (all, are, refl),
  )

  pub unnamed : (index : ℕ) (register : Register) (n : ℕ) → EntryDict row_work content db ⊥ index register n → RegisterDict row_work content db index register n
  unnamed index register n (inl named) = absurd named.0
  unnamed index register n (inr all) = all.1

  module _ (index : ℕ) where
    pub one_dict : (pattern : List Symbol) (n : ℕ) → EntryDict row_work content db (HasNoStar pattern) index register.Word n → WordDict row_work content db index (pattern ∷ []) n
    one_dict pattern n terms = (n, 0, terms, refl, omega arith)

    -- one pattern more, in front and at the end
    pub dict_before : (pattern : List Symbol) (patterns : List (List Symbol)) (m n : ℕ) → WordDict row_work content db index patterns m → EntryDict row_work content db (HasNoStar pattern) index register.Word n
        → WordDict row_work content db index (pattern ∷ patterns) (m + n)
    dict_before pattern patterns m n words terms = (n, m, terms, words, omega arith)

    pub dict_behind : (patterns : List (List Symbol)) (pattern : List Symbol) (m n : ℕ) → WordDict row_work content db index patterns m → EntryDict row_work content db (HasNoStar pattern) index register.Word n
        → WordDict row_work content db index (patterns ++ pattern ∷ []) (m + n)
    dict_behind [] pattern m n words terms = (n, 0, terms, refl, omega (arith, words))
    dict_behind (first ∷ patterns) pattern m n words terms = (words.0, words.1 + n, words.2, dict_behind patterns pattern words.1 n words.3 terms, omega (arith, words.4))

  -- ---- entries that are named

  named_entry : (IsNamed : Type 0) (index : ℕ) (register : Register) (n : ℕ) → EntryDict row_work content db IsNamed index register n → IsNamed → n ≡ 0
  named_entry IsNamed index register n (inl none) named = none.1
  named_entry IsNamed index register n (inr all) named = absurd (all.0 named)

  named_words : (index : ℕ) (patterns : List (List Symbol)) (n : ℕ) → WordDict row_work content db index patterns n → AreWithoutStars patterns → n ≡ 0
  named_words index [] n none named = none
  named_words index (pattern ∷ patterns) n words named =
      let first = named_entry (HasNoStar pattern) index register.Word words.0 words.2 (named pattern (inl refl)) in
      omega (arith, words.4, first, named_words index patterns words.1 words.3 (λ p h. named p (inr h)))

  named_term : (plan : TermPlanValue) (n : ℕ) → TermDict row_work content db plan n → TermNamesEntries plan → n ≡ 0
  named_term (RecordNumberOf number) n none named = none
  named_term (NoWordsOf index register) n none named = none
  named_term (AlwaysOf index register) n all named = absurd named
  named_term (NumberOf index relation number) n terms named = named_entry (IsOneKey relation number) index register.Number n terms named
  named_term (OrderedOf index register relation start) n all named = absurd named
  named_term (CompleteOf index pattern) n terms named = named_entry (HasNoStar pattern) index register.Phrase n terms named
  named_term (PhraseOf index patterns first) n words named = named_words index patterns n words named
  named_term (AllWordsOf index patterns) n words named = named_words index patterns n words named
  named_term (AnyWordOf index patterns) n words named = named_words index patterns n words named

  -- a plan that names its entries reads no list of terms
  pub named_plan : (plan : PlanValue) (n : ℕ) → PlanDict row_work content db plan n → NamesEntries plan → n ≡ 0
  named_plan (TermOf plan) n terms named = named_term plan n terms named
  named_plan (PairOf operator left right) n both named =
      omega (arith, both.4, named_plan left both.0 both.2 named.0, named_plan right both.1 both.3 named.1)
  named_plan (NearOf index left right separation) n words named =
      named_words index (left ∷ right ∷ []) n words (λ pattern h. elim h [
        | inl first ↦ subst HasNoStar (sym first) named.0
        | inr later ↦ elim later [ inl second ↦ subst HasNoStar (sym second) named.1 | inr none ↦ absurd none ]
      ])
