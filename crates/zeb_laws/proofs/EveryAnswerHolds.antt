-- A query holds or not on each number, where the set of occurrences is that of a list.
use Rattle.zeb_laws.proofs.Cited.{◌≡◌, ◌≢◌, ◌↔◌, ◌⊎◌, ◌∙◌, ◌<◌, ◌+◌, ◌^◌, ℕ, Bool, true, false, List, [], ◌∷◌, ◌++◌, IsUtf8, refl, sym, ap, subst, inl, inr, arith, slice_cmp, nat_cmp, IsUtf8-from_is_utf8, is_utf8-from_IsUtf8, Has, Symbol, Char, Star, Matches, number_key, Register, DistanceRelation, Operator, Relation, Separation, PlanValue, TermOf, PairOf, NearOf, TermPlanValue, RecordNumberOf, NoWordsOf, AlwaysOf, NumberOf, OrderedOf, CompleteOf, PhraseOf, AllWordsOf, AnyWordOf, Key, Occurrence, key_total, keys_apart, occurrence_total, occurrences_apart, key_in, told_by, AreApart, AreSeparated, IsDistant, Precedes, Stands, StandsInOrder, AreJoined, Fits, HasEntry, HasMatch, HasNear, HasPhrase, HasWord, HasWords, IsNumberAt, TermHolds, TreeHolds, chars, is_utf8}
use Rattle.zeb_keys.specs.declared.Register.TheVariants as register
use Rattle.zeb_query.specs.declared.plans.DistanceRelation.TheVariants as at
use Rattle.zeb_query.specs.declared.plans.Operator.TheVariants as operator
use Rattle.zeb_query.specs.declared.plans.Relation.TheVariants as relation
use Rattle.zeb_laws.proofs.EveryAnswerLists.{Decided, decided_as, both_decided, either_decided, denied_decided, where_decided, test_decided, less_decided, number_decided, text_decided, below_decided, upto_decided, some_below, some_decided, each_decided}

-- ---- patterns

-- a text that begins with a character that is asked for
begun_decided : (c : ℕ) (pattern : List Symbol) → ((text : List ℕ) → Decided (Matches pattern text)) → (text : List ℕ) → Decided (Matches (Char c ∷ pattern) text)
begun_decided c pattern each [] = inr (λ h. let e : [] ≡ c ∷ h.0 = h.1 in cc)
begun_decided c pattern each (d ∷ text) = elim (number_decided d c) [
  | inr other ↦ inr (λ h. other (let e : d ∷ text ≡ c ∷ h.0 = h.1 in cc))
  | inl same ↦ elim (each text) [
    | inl rest ↦ inl (text, ap (λ x. x ∷ text) same, rest)
    | inr none ↦ inr (λ h. none (subst (Matches pattern) (let e : d ∷ text ≡ c ∷ h.0 = h.1 in cc) h.2))
  ]
]

-- a star stands for nothing, or for a first character and what a star stands for behind it
starred_decided : (pattern : List Symbol) → ((text : List ℕ) → Decided (Matches pattern text)) → (text : List ℕ) → Decided (Matches (Star ∷ pattern) text)
starred_decided pattern each [] = elim (each []) [
  | inl whole ↦ inl ([], [], refl, whole)
  | inr none ↦ inr (λ h. none (only h.0 h.1 h.2 h.3))
]
  where
    only : (gap rest : List ℕ) → [] ≡ gap ++ rest → Matches pattern rest → Matches pattern []
    only [] rest is matches = subst (Matches pattern) (sym is) matches
    only (c ∷ gap) rest is matches = absurd (let e : [] ≡ c ∷ (gap ++ rest) = is in cc)
starred_decided pattern each (c ∷ text) = elim (each (c ∷ text)) [
  | inl whole ↦ inl ([], c ∷ text, refl, whole)
  | inr none ↦ elim (starred_decided pattern each text) [
    | inl later ↦ inl (c ∷ later.0, later.1, ap (λ t. c ∷ t) later.2, later.3)
    | inr neither ↦ inr (λ h. shorter none neither h.0 h.1 h.2 h.3)
  ]
]
  where
    shorter : ¬ Matches pattern (c ∷ text) → ¬ Matches (Star ∷ pattern) text → (gap rest : List ℕ) → c ∷ text ≡ gap ++ rest → Matches pattern rest → ⊥
    shorter none neither [] rest is matches = none (subst (Matches pattern) (sym is) matches)
    shorter none neither (d ∷ gap) rest is matches = neither (gap, rest, (let e : c ∷ text ≡ d ∷ (gap ++ rest) = is in cc), matches)

matches_decided : (pattern : List Symbol) (text : List ℕ) → Decided (Matches pattern text)
matches_decided [] text = text_decided text []
matches_decided (Char c ∷ pattern) text = begun_decided c pattern (matches_decided pattern) text
matches_decided (Star ∷ pattern) text = starred_decided pattern (matches_decided pattern) text

fits_decided : (pattern : List Symbol) (term : List ℕ) → Decided (Fits pattern term)
fits_decided pattern term =
    let utf8 = decided_as (is_utf8 term ≡ true) (IsUtf8 term) (λ h. IsUtf8-from_is_utf8 term h, λ h. is_utf8-from_IsUtf8 term h) (test_decided (is_utf8 term)) in
    both_decided (IsUtf8 term) (Matches pattern (chars term)) utf8 (matches_decided pattern (chars term))

-- ---- how numbers, texts and places stand to each other

stands_decided : (relation : Relation) (a b : ℕ) → Decided (Stands relation a b)
stands_decided relation.Less a b = below_decided a b
stands_decided relation.LessOrEqual a b = upto_decided a b
stands_decided relation.Equal a b = number_decided a b
stands_decided relation.GreaterOrEqual a b = upto_decided b a
stands_decided relation.Greater a b = below_decided b a

-- a number below the limit, whose key the entry is
number_found : (limit : ℕ) (relation : Relation) (number : ℕ) (term : List ℕ) → Decided ((value : ℕ) × (value < limit) × (term ≡ number_key value) × Stands relation value number)
number_found limit relation number term =
    let Is : ℕ → Type 0 = λ value. (term ≡ number_key value) × Stands relation value number in
    decided_as ((value : ℕ) × (value < limit) × Is value) ((value : ℕ) × (value < limit) × (term ≡ number_key value) × Stands relation value number)
    (λ h. (h.0, h.1, h.2.0, h.2.1), λ h. (h.0, h.1, (h.2, h.3)))
    (some_below Is (λ value. both_decided (term ≡ number_key value) (Stands relation value number) (text_decided term (number_key value)) (stands_decided relation value number)) limit)

number_at_decided : (relation : Relation) (number : ℕ) (term : List ℕ) → Decided (IsNumberAt relation number term)
number_at_decided relation number term = number_found (10 ^ 18) relation number term

precedes_decided : (a b : List ℕ) → Decided (Precedes a b)
precedes_decided a b = less_decided (slice_cmp nat_cmp a b)

in_order_decided : (r : Relation) (a b : List ℕ) → Decided (StandsInOrder r a b)
in_order_decided relation.Less a b = precedes_decided a b
in_order_decided relation.LessOrEqual a b = either_decided (Precedes a b) (a ≡ b) (precedes_decided a b) (text_decided a b)
in_order_decided relation.Equal a b = text_decided a b
in_order_decided relation.GreaterOrEqual a b = either_decided (Precedes b a) (a ≡ b) (precedes_decided b a) (text_decided a b)
in_order_decided relation.Greater a b = precedes_decided b a

distant_decided : (relation : DistanceRelation) (words distance : ℕ) → Decided (IsDistant relation words distance)
distant_decided at.Less words distance = below_decided words distance
distant_decided at.LessOrEqual words distance = upto_decided words distance
distant_decided at.Equal words distance = number_decided words distance
distant_decided at.GreaterOrEqual words distance = upto_decided distance words
distant_decided at.Greater words distance = below_decided distance words
distant_decided at.NotEqual words distance = denied_decided (words ≡ distance) (number_decided words distance)

apart_decided : (ordered : Bool) (words i j : ℕ) → Decided (AreApart ordered words i j)
apart_decided true words i j = both_decided (0 < words) (i + words ≡ j) (below_decided 0 words) (number_decided (i + words) j)
apart_decided false words i j = both_decided (0 < words) ((i + words ≡ j) ⊎ (j + words ≡ i)) (below_decided 0 words)
    (either_decided (i + words ≡ j) (j + words ≡ i) (number_decided (i + words) j) (number_decided (j + words) i))

apart_within : (ordered : Bool) (words i j : ℕ) → AreApart ordered words i j → words < i + j + 1
apart_within true words i j h = omega (arith, h.1)
apart_within false words i j h = elim h.1 [ inl after ↦ omega (arith, after) | inr before ↦ omega (arith, before) ]

separated_decided : (separation : Separation) (i j : ℕ) → Decided (AreSeparated separation i j)
separated_decided separation i j =
    let Apart : ℕ → Type 0 = λ words. AreApart separation.ordered words i j in
    let Distant : ℕ → Type 0 = λ words. IsDistant separation.relation words separation.distance in
    decided_as ((words : ℕ) × (words < i + j + 1) × (Apart words × Distant words)) (AreSeparated separation i j)
    (λ h. (h.0, h.2.0, h.2.1), λ h. (h.0, apart_within separation.ordered h.0 i j h.1, (h.1, h.2)))
    (some_below (λ words. Apart words × Distant words) (λ words. both_decided (Apart words) (Distant words)
    (apart_decided separation.ordered words i j) (distant_decided separation.relation words separation.distance)) (i + j + 1))

-- ---- entries and words

-- the occurrences of the set are those of the list, each with a record's number
abbrev pub IsSetOf : (ℕ → Occurrence → Type 0) → List (ℕ × Occurrence) → Type 0
IsSetOf O all = (n : ℕ) (o : Occurrence) → O n o ↔ Has all (n, o)

-- the key of an occurrence is in this register
abbrev pub IsKeyIn : ℕ → Register → ℕ × Occurrence → Type 0
IsKeyIn index register x = x.1.key ≡ key_in index register x.1.key.term

pub key_in_decided : (index : ℕ) (register : Register) (x : ℕ × Occurrence) → Decided (IsKeyIn index register x)
key_in_decided index register x = told_by key_total keys_apart x.1.key (key_in index register x.1.key.term)

-- a key that is in a register, by its term
pub key_is_in : (index : ℕ) (register : Register) (key : Key) (term : List ℕ) → key ≡ key_in index register term → key ≡ key_in index register key.term
key_is_in index register key term same = same ∙ ap (key_in index register) (sym (ap (λ (k : Key). k.term) same))

module _ (O : ℕ → Occurrence → Type 0) (all : List (ℕ × Occurrence)) (are : IsSetOf O all) where
  entry_decided : (index : ℕ) (register : Register) (Q : List ℕ → Type 0) → ((term : List ℕ) → Decided (Q term)) → (n : ℕ) → Decided (HasEntry O index register Q n)
  entry_decided index register Q each n =
      let Is : ℕ × Occurrence → Type 0 = λ x. (x.0 ≡ n) × (IsKeyIn index register x × Q x.1.key.term) in
      let told : (x : ℕ × Occurrence) → Decided (Is x) = λ x. both_decided (x.0 ≡ n) (IsKeyIn index register x × Q x.1.key.term) (number_decided x.0 n)
      (both_decided (IsKeyIn index register x) (Q x.1.key.term) (key_in_decided index register x) (each x.1.key.term)) in
      decided_as ((x : ℕ × Occurrence) × Has all x × Is x) (HasEntry O index register Q n) (
        λ h. (h.0.1.key.term, (h.0.1, subst (λ m. O m h.0.1) h.2.0 ((are h.0.0 h.0.1).1 h.1), h.2.1.0), h.2.1.1),
        λ h. let o = h.1.0 in
            ((n, o), (are n o).0 h.1.1, (refl, (key_is_in index register o.key h.0 h.1.2, subst Q (sym (ap (λ (k : Key). k.term) h.1.2)) h.2))),
      )
      (some_decided Is told all)

  match_decided : (index : ℕ) (pattern : List Symbol) (n : ℕ) → Decided (HasMatch O index pattern n)
  match_decided index pattern n = entry_decided index register.Word (Fits pattern) (fits_decided pattern) n

  abbrev word_at : ℕ → (term : List ℕ) (seq pos : ℕ) → Occurrence
  word_at index term seq pos = record { key = key_in index register.Word term; seq = seq; pos = pos }

  word_decided : (index : ℕ) (pattern : List Symbol) (n seq pos : ℕ) → Decided (HasWord O index pattern n seq pos)
  word_decided index pattern n seq pos =
      let Is : ℕ × Occurrence → Type 0 = λ x. (x.0 ≡ n) × ((x.1 ≡ word_at index x.1.key.term seq pos) × Fits pattern x.1.key.term) in
      let told : (x : ℕ × Occurrence) → Decided (Is x) = λ x. both_decided (x.0 ≡ n) ((x.1 ≡ word_at index x.1.key.term seq pos) × Fits pattern x.1.key.term) (number_decided x.0 n)
      (both_decided (x.1 ≡ word_at index x.1.key.term seq pos) (Fits pattern x.1.key.term) (told_by occurrence_total occurrences_apart x.1 (word_at index x.1.key.term seq pos))
      (fits_decided pattern x.1.key.term)) in
      decided_as ((x : ℕ × Occurrence) × Has all x × Is x) (HasWord O index pattern n seq pos) (
        λ h. (h.0.1.key.term, subst (O n) h.2.1.0 (subst (λ m. O m h.0.1) h.2.0 ((are h.0.0 h.0.1).1 h.1)), h.2.1.1),
        λ h. ((n, word_at index h.0 seq pos), (are n (word_at index h.0 seq pos)).0 h.1, (refl, (refl, h.2))),
      )
      (some_decided Is told all)

  words_decided : (index : ℕ) (patterns : List (List Symbol)) (n seq pos : ℕ) → Decided (HasWords O index patterns n seq pos)
  words_decided index [] n seq pos = inl tt
  words_decided index (pattern ∷ patterns) n seq pos =
      both_decided (HasWord O index pattern n seq pos) (HasWords O index patterns n seq (1 + pos)) (word_decided index pattern n seq pos) (words_decided index patterns n seq (1 + pos))

  begins_decided : (first : Bool) (pos : ℕ) → Decided (first ≡ true → pos ≡ 1)
  begins_decided first pos = where_decided (first ≡ true) (pos ≡ 1) (test_decided first) (number_decided pos 1)

  -- a phrase begins with a word, which is one of the occurrences
  phrase_decided : (index : ℕ) (pattern : List Symbol) (patterns : List (List Symbol)) (first : Bool) (n : ℕ) → Decided (HasPhrase O index (pattern ∷ patterns) first n)
  phrase_decided index pattern patterns first n =
      let Begins : ℕ → Type 0 = λ pos. first ≡ true → pos ≡ 1 in
      let Goes : ℕ → ℕ → Type 0 = λ seq pos. HasWords O index (pattern ∷ patterns) n seq pos in
      let Is : ℕ × Occurrence → Type 0 = λ x. Begins x.1.pos × Goes x.1.seq x.1.pos in
      decided_as ((x : ℕ × Occurrence) × Has all x × Is x) (HasPhrase O index (pattern ∷ patterns) first n) (
        λ h. (h.0.1.seq, h.0.1.pos, h.2.0, h.2.1),
        λ h. let o = word_at index h.3.0.0 h.0 h.1 in ((n, o), (are n o).0 h.3.0.1, (h.2, h.3)),
      )
      (some_decided Is (λ x. both_decided (Begins x.1.pos) (Goes x.1.seq x.1.pos) (begins_decided first x.1.pos) (words_decided index (pattern ∷ patterns) n x.1.seq x.1.pos)) all)

  near_decided : (index : ℕ) (left right : List Symbol) (separation : Separation) (n : ℕ) → Decided (HasNear O index left right separation n)
  near_decided index left right separation n =
      let Left : ℕ × Occurrence → Type 0 = λ x. HasWord O index left n x.1.seq x.1.pos in
      let Right : ℕ × Occurrence → ℕ × Occurrence → Type 0 = λ x y. HasWord O index right n x.1.seq y.1.pos × AreSeparated separation x.1.pos y.1.pos in
      let Is : ℕ × Occurrence → Type 0 = λ x. Left x × ((y : ℕ × Occurrence) × Has all y × Right x y) in
      let right_told : (x : ℕ × Occurrence) → Decided ((y : ℕ × Occurrence) × Has all y × Right x y) = λ x. some_decided (Right x)
      (λ y. both_decided (HasWord O index right n x.1.seq y.1.pos) (AreSeparated separation x.1.pos y.1.pos) (word_decided index right n x.1.seq y.1.pos)
      (separated_decided separation x.1.pos y.1.pos)) all in
      decided_as ((x : ℕ × Occurrence) × Has all x × Is x) (HasNear O index left right separation n) (
        λ h. let y = h.2.1 in (h.0.1.seq, h.0.1.pos, y.0.1.pos, h.2.0, y.2.0, y.2.1),
        λ h. let one = word_at index h.3.0 h.0 h.1 in
            let other = word_at index h.4.0 h.0 h.2 in
            ((n, one), (are n one).0 h.3.1, (h.3, ((n, other), (are n other).0 h.4.1, (h.4, h.5)))),
      )
      (some_decided Is (λ x. both_decided (Left x) ((y : ℕ × Occurrence) × Has all y × Right x y) (word_decided index left n x.1.seq x.1.pos) (right_told x)) all)

  -- ---- terms and trees

  module _ (IsKept : ℕ → Type 0) (kept_decided : (n : ℕ) → Decided (IsKept n)) where
    term_decided : (plan : TermPlanValue) (n : ℕ) → Decided (TermHolds O IsKept plan n)
    term_decided (RecordNumberOf number) n = both_decided (n ≡ number) (IsKept n) (number_decided n number) (kept_decided n)
    term_decided (NoWordsOf index register) n = inr (λ h. h)
    term_decided (AlwaysOf index register) n = entry_decided index register (λ _. Unit {0}) (λ _. inl tt) n
    term_decided (NumberOf index relation number) n = entry_decided index register.Number (IsNumberAt relation number) (number_at_decided relation number) n
    term_decided (OrderedOf index register relation start) n = entry_decided index register (λ term. StandsInOrder relation term start) (λ term. in_order_decided relation term start) n
    term_decided (CompleteOf index pattern) n = entry_decided index register.Phrase (Fits pattern) (fits_decided pattern) n
    term_decided (PhraseOf index [] first) n = inr (λ h. h.0 refl)
    term_decided (PhraseOf index (pattern ∷ patterns) first) n =
        both_decided (pattern ∷ patterns ≢ []) (HasPhrase O index (pattern ∷ patterns) first n) (inl (λ h. cc)) (phrase_decided index pattern patterns first n)
    term_decided (AllWordsOf index []) n = inr (λ h. h.0 refl)
    term_decided (AllWordsOf index (pattern ∷ patterns)) n =
        both_decided (pattern ∷ patterns ≢ []) ((one : List Symbol) → Has (pattern ∷ patterns) one → HasMatch O index one n) (inl (λ h. cc))
        (each_decided (λ one. HasMatch O index one n) (λ one. match_decided index one n) (pattern ∷ patterns))
    term_decided (AnyWordOf index patterns) n = some_decided (λ one. HasMatch O index one n) (λ one. match_decided index one n) patterns

    joined_decided : (operator : Operator) (P Q : Type 0) → Decided P → Decided Q → Decided (AreJoined operator P Q)
    joined_decided operator.And P Q left right = both_decided P Q left right
    joined_decided operator.Or P Q left right = either_decided P Q left right
    joined_decided operator.Not P Q left right = both_decided P (¬ Q) left (denied_decided Q right)

    pub tree_decided : (plan : PlanValue) (n : ℕ) → Decided (TreeHolds O IsKept plan n)
    tree_decided (TermOf plan) n = term_decided plan n
    tree_decided (PairOf operator left right) n =
        joined_decided operator (TreeHolds O IsKept left n) (TreeHolds O IsKept right n) (tree_decided left n) (tree_decided right n)
    tree_decided (NearOf index left right separation) n = near_decided index left right separation n
