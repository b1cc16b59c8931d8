-- What a term asks for holds on the records that the rows of its attributes say.
use Rattle.zeb_search.proofs.Cited.{◌≡◌, ◌≢◌, ◌↔◌, ◌∙◌, ℕ, false, cond, List, [], ◌∷◌, Option, refl, sym, ap, subst, inl, inr, Ok, Symbol, Register, Relation, Occurrence, TermPlanValue, PlanValue, TermOf, NumberOf, OrderedOf, CompleteOf, PhraseOf, AllWordsOf, AnyWordOf, Has, TermHolds, TreeHolds, chars, Profile, Always, Compared, Complete, Incomplete, FreeForm, Numeric, Phrase, WordList, Entries, Record, HeadValue, TermValue, heads, no_head, HoldingValue, asks_number, holding_of, is_equality, is_first, joined_words, patterns_asked, register_of, values_held, find_checks, first_that_applies, asked_with, entries_asked, plan_of, subject_asked, texts_asked, words_asked, answered_ok, HasRow, HoldsByAttributes}
use Rattle.std.specs.Str.Parse.{digits_value}
use Rattle.zeb_text.specs.Truncation.{joined_patterns}
use Rattle.zeb_text.specs.Words.{words_of}
use Rattle.zeb_query.specs.declared.attributes.Asked.{Asked}
use Rattle.zeb_query.specs.declared.attributes.Completeness.{Completeness}
use Rattle.zeb_query.specs.declared.attributes.Structure.{Structure}
use Rattle.zeb_query.specs.declared.plans.Relation.TheVariants.{Equal}
use Rattle.zeb_query.specs.declared.values.Subject.{Subject}
use Rattle.zeb_query.specs.declared.values.Values.{Values}
use Rattle.zeb_query.specs.Plans.{plan_asked}

module _ (v : Values) (text : List ℕ) (patterns : List (List Symbol)) where
  -- what a term asks for, by its values
  related : (index : ℕ) (structure : Structure) (asked : Asked) → v.subject ≡ Entries index structure → v.relation ≡ asked
      → subject_asked v text patterns v.subject ≡ entries_asked v index structure text patterns asked
  related index structure asked s r =
      ap (λ x. subject_asked v text patterns x) s ∙ ap (λ x. entries_asked v index structure text patterns x) r

  compared : (index : ℕ) (structure : Structure) (relation : Relation)
      → v.subject ≡ Entries index structure → asks_number structure ≡ false → v.relation ≡ Compared relation
      → subject_asked v text patterns v.subject ≡ texts_asked v index structure text patterns relation
  compared index structure relation s n r =
      related index structure (Compared relation) s r
      ∙ ap (λ b. cond b (NumberOf index relation (digits_value 10 text)) (texts_asked v index structure text patterns relation)) n

  ordered : (index : ℕ) (structure : Structure) (relation : Relation)
      → v.subject ≡ Entries index structure → asks_number structure ≡ false → v.relation ≡ Compared relation → is_equality relation ≡ false
      → subject_asked v text patterns v.subject
      ≡ asked_with (words_of (chars text)) index (register_of v) (OrderedOf index (register_of v) relation (joined_words text))
  ordered index structure relation s n r o =
      compared index structure relation s n r
      ∙ ap (λ b. cond b (asked_with patterns index (register_of v) (words_asked index structure v.position v.completeness patterns))
      (asked_with (words_of (chars text)) index (register_of v) (OrderedOf index (register_of v) relation (joined_words text)))) o

  matched : (index : ℕ) (structure : Structure) (complete : Completeness)
      → v.subject ≡ Entries index structure → asks_number structure ≡ false → v.relation ≡ Compared Equal → v.completeness ≡ complete
      → subject_asked v text patterns v.subject ≡ asked_with patterns index (register_of v) (words_asked index structure v.position complete patterns)
  matched index structure complete s n r c =
      compared index structure Equal s n r ∙ ap (λ x. asked_with patterns index (register_of v) (words_asked index structure v.position x patterns)) c

-- ---- the rows

module _ (O : ℕ → Occurrence → Type 0) (K : ℕ → Type 0) where
  -- what holds of one plan holds of the same plan
  holds_as : (plan same : TermPlanValue) (X : ℕ → Type 0) → plan ≡ same → ((n : ℕ) → TermHolds O K same n ↔ X n) → (n : ℕ) → TermHolds O K plan n ↔ X n
  holds_as plan same X e holds = subst (λ p. (n : ℕ) → TermHolds O K p n ↔ X n) (sym e) holds

  -- a term with words holds as these are asked for, and one without them on no record
  asked_by : {A : Type 0} (words : List A) (index : ℕ) (register : Register) (plan : TermPlanValue) (n : ℕ)
      → TermHolds O K (asked_with words index register plan) n ↔ ((words ≢ []) × TermHolds O K plan n)
  asked_by [] index register plan n = (λ none. absurd none, λ some. absurd (some.0 refl))
  asked_by (word ∷ words) index register plan n = (λ has. (λ e. cc, has), λ some. some.1)

  -- the same of a plan that says itself that it has patterns, or that one of them
  patterns_by : (patterns : List (List Symbol)) (index : ℕ) (register : Register) (plan : TermPlanValue) → ((n : ℕ) → TermHolds O K plan n → patterns ≢ [])
      → (n : ℕ) → TermHolds O K (asked_with patterns index register plan) n ↔ TermHolds O K plan n
  patterns_by [] index register plan some n = (λ none. absurd none, λ has. absurd (some n has refl))
  patterns_by (pattern ∷ patterns) index register plan some n = (λ has. has, λ has. has)

  has_some : (patterns : List (List Symbol)) (pattern : List Symbol) → Has patterns pattern → patterns ≢ []
  has_some [] pattern there = absurd there
  has_some (one ∷ patterns) pattern there = λ e. cc

  by_values : (v : Values) (text : List ℕ) → HoldsByAttributes O K v text (TermHolds O K (subject_asked v text (patterns_asked v text) v.subject))
  by_values v text = let patterns = patterns_asked v text in record {
    system_number = λ row. holds_as _ _ _ (ap (λ x. subject_asked v text patterns x) row) (λ n. (λ x. x, λ x. x));
    any_entry = λ index row. holds_as _ _ _ (related v text patterns index row.1.0 Always row.1.1 row.0) (λ n. (λ x. x, λ x. x));
    number = λ index relation row. holds_as _ _ _ (related v text patterns index Numeric (Compared relation) row.1 row.0) (λ n. (λ x. x, λ x. x));
    ordered = λ index relation row. holds_as _ _ _ (ordered v text patterns index row.1.1.0 relation row.1.1.2 row.1.1.1 row.1.0 row.0)
        (asked_by (words_of (chars text)) index (register_of v) (OrderedOf index (register_of v) relation (joined_words text)));
    whole = λ index row. holds_as _ _ _ (matched v text patterns index row.1.1.0 Complete row.1.1.2 row.1.1.1 row.0 row.1.0)
        (asked_by patterns index (register_of v) (CompleteOf index (joined_patterns patterns)));
    each_word = λ index row. holds_as _ _ _ (matched v text patterns index WordList Incomplete row.1.1 refl row.0 row.1.0)
        (patterns_by patterns index (register_of v) (AllWordsOf index patterns) (λ n has. has.0));
    some_word = λ index row. holds_as _ _ _ (matched v text patterns index FreeForm Incomplete row.1.1 refl row.0 row.1.0)
        (patterns_by patterns index (register_of v) (AnyWordOf index patterns) (λ n has. has_some patterns has.0 has.1));
    phrase = λ index row. holds_as _ _ _ (matched v text patterns index Phrase Incomplete row.1.1 refl row.0 row.1.0)
        (patterns_by patterns index (register_of v) (PhraseOf index patterns (is_first v.position)) (λ n has. has.0));
  }

  pub held_by : (profile : Profile) (h : HoldingValue) (text : List ℕ) → HoldsByAttributes O K (values_held profile h) text (TermHolds O K (plan_asked profile h text))
  unfolding plan_asked
  held_by profile h text = by_values (values_held profile h) text

  -- a query that is one term
  pub held_by_query : (profile : Profile) (set : Option (List ℕ)) (place : ℕ) (head : HeadValue) (text : List ℕ) (plan : PlanValue)
      → plan_of profile (record { attrset = set; tree = TermValue place head text }) ≡ Ok plan
      → HoldsByAttributes O K (values_held profile (holding_of set (heads no_head head))) text (TreeHolds O K plan)
  held_by_query profile set place head text plan e =
      let h = holding_of set (heads no_head head) in
      subst (λ p. HoldsByAttributes O K (values_held profile h) text (TreeHolds O K p))
      (answered_ok (first_that_applies (find_checks profile place h text)) (TermOf (plan_asked profile h text)) plan e).1
      (held_by profile h text)

-- ---- each term has a row

-- the same values, but for these
abbrev with : Values → Subject → Asked → Completeness → Values
with v subject asked complete = record v { subject = subject; relation = asked; completeness = complete }

-- of a structure that is no number, where it has a row for relation 3 and completeness 1
texts_row : (v : Values) (index : ℕ) (structure : Structure) (relation : Relation) (complete : Completeness) → asks_number structure ≡ false
    → HasRow (with v (Entries index structure) (Compared Equal) Incomplete) → HasRow (with v (Entries index structure) (Compared relation) complete)
texts_row v index structure Equal Complete n words = inr (index, inr (inr (inr (inl (refl, (refl, (structure, n, refl)))))))
texts_row v index structure Equal Incomplete n words = words
texts_row v index structure relation complete n words = inr (index, inr (inr (inl (relation, (refl, (refl, (structure, n, refl)))))))

rows : (v : Values) (subject : Subject) (asked : Asked) (complete : Completeness) → HasRow (with v subject asked complete)
rows v Record asked complete = inl refl
rows v (Entries index structure) Always complete = inr (index, inl (refl, (structure, refl)))
rows v (Entries index Numeric) (Compared relation) complete = inr (index, inr (inl (relation, (refl, refl))))
rows v (Entries index WordList) (Compared relation) complete = texts_row v index WordList relation complete refl (inr (index, inr (inr (inr (inr (inl (refl, (refl, refl))))))))
rows v (Entries index FreeForm) (Compared relation) complete = texts_row v index FreeForm relation complete refl (inr (index, inr (inr (inr (inr (inr (inl (refl, (refl, refl)))))))))
rows v (Entries index Phrase) (Compared relation) complete = texts_row v index Phrase relation complete refl (inr (index, inr (inr (inr (inr (inr (inr (refl, (refl, refl)))))))))

pub has_row : (profile : Profile) (h : HoldingValue) → HasRow (values_held profile h)
has_row profile h = let v : Values = values_held profile h in rows v v.subject v.relation v.completeness
