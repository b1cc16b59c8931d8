-- What a find on any tables tells, where they hold a content: on which records the plan holds. And that what it finds rises, and which rows it met.
use Rattle.zeb_search.proofs.Cited.{◌∷◌, [], ℕ, ℤ, List, inl, inr, nat_cmp, Trees, Has, Content, IsStorable, Format, holds_in, PlanValue, TermOf, PairOf, NearOf, TermPlanValue, RecordNumberOf, NoWordsOf, AlwaysOf, NumberOf, OrderedOf, CompleteOf, PhraseOf, AllWordsOf, AnyWordOf, HasSome, HasEach, HasRun, AreJoined, IsNear, StandsInOrder, Fits, HasNoStar, IsNumberAt, IsOneKey, HoldsIn, AreNumbers, NamesReadable, TermNamesReadable, TermFinds, TermHides, PlanFinds, PlanHides, ArePlanRowsSound, IsStrictlySortedBy, AreTermRowsSound}
use Rattle.zeb_keys.specs.declared.Register.TheVariants as register
use Rattle.zeb_search.proofs.EntryLaws.{entries_held, none_hidden, read_sound}
use Rattle.zeb_search.proofs.JustLemmas.{joined_same, just_same}
use Rattle.zeb_search.proofs.WordLaws.{each_held, near_held, no_word_hidden, run_held, some_held, words_sound}

module _ (format : Format) (trees : Trees) (db : ℤ) where
  -- ---- what is found rises

  pub term_rises : (plan : TermPlanValue) (hits : List ℕ) → TermFinds format trees db plan hits → IsStrictlySortedBy nat_cmp hits
  term_rises (RecordNumberOf number) hits finds = finds.rising
  term_rises (NoWordsOf index register) hits finds = finds.rising
  term_rises _ hits finds = finds.2.rising

  pub plan_rises : (plan : PlanValue) (hits : List ℕ) → PlanFinds format trees db plan hits → IsStrictlySortedBy nat_cmp hits
  plan_rises (TermOf plan) hits finds = term_rises plan hits finds
  plan_rises _ hits finds = finds.4.rising

  -- ---- the rows that are asked for are sound

  term_sound : (plan : TermPlanValue) (hits : List ℕ) → TermFinds format trees db plan hits → AreTermRowsSound format trees db plan
  term_sound (AlwaysOf index register) hits finds = read_sound format trees db ⊥ index register (λ _. Unit {0}) finds.0 finds.1
  term_sound (NumberOf index relation number) hits finds = read_sound format trees db (IsOneKey relation number) index register.Number (IsNumberAt relation number) finds.0 finds.1
  term_sound (OrderedOf index register relation start) hits finds = read_sound format trees db ⊥ index register (λ term. StandsInOrder relation term start) finds.0 finds.1
  term_sound (CompleteOf index pattern) hits finds = read_sound format trees db (HasNoStar pattern) index register.Phrase (Fits pattern) finds.0 finds.1
  term_sound (PhraseOf index patterns first) hits finds = words_sound format trees db index patterns finds.0 finds.1
  term_sound (AllWordsOf index patterns) hits finds = words_sound format trees db index patterns finds.0 finds.1
  term_sound (AnyWordOf index patterns) hits finds = words_sound format trees db index patterns finds.0 finds.1
  term_sound _ hits finds = tt

  pub plan_sound : (plan : PlanValue) (hits : List ℕ) → PlanFinds format trees db plan hits → ArePlanRowsSound format trees db plan
  plan_sound (TermOf plan) hits finds = term_sound plan hits finds
  plan_sound (PairOf operator left right) hits finds = (plan_sound left finds.0 finds.2, plan_sound right finds.1 finds.3)
  plan_sound (NearOf index left right separation) hits finds = words_sound format trees db index (left ∷ right ∷ []) (finds.0 ∷ finds.1 ∷ []) (finds.2, (finds.3, tt))

  -- ---- tables that hold a content

  module _ (content : Content) (holds : holds_in format trees content) where
    abbrev Holds : PlanValue → ℕ → Type 0
    Holds = HoldsIn trees content db

    term_held : (plan : TermPlanValue) (hits : List ℕ) → TermFinds format trees db plan hits → AreNumbers (Holds (TermOf plan)) hits
    term_held (AlwaysOf index register) hits finds = entries_held format trees db ⊥ index register (λ _. Unit {0}) content holds hits finds
    term_held (NumberOf index relation number) hits finds = entries_held format trees db (IsOneKey relation number) index register.Number (IsNumberAt relation number) content holds hits finds
    term_held (OrderedOf index register relation start) hits finds = entries_held format trees db ⊥ index register (λ term. StandsInOrder relation term start) content holds hits finds
    term_held (CompleteOf index pattern) hits finds = entries_held format trees db (HasNoStar pattern) index register.Phrase (Fits pattern) content holds hits finds
    term_held (PhraseOf index patterns first) hits finds =
        just_same (HasRun finds.0 first) (Holds (TermOf (PhraseOf index patterns first))) hits (run_held format trees db index content holds patterns finds.0 finds.1 first) finds.2
    term_held (AllWordsOf index patterns) hits finds =
        just_same (HasEach finds.0) (Holds (TermOf (AllWordsOf index patterns))) hits (each_held format trees db index content holds patterns finds.0 finds.1) finds.2
    term_held (AnyWordOf index patterns) hits finds =
        just_same (HasSome finds.0) (Holds (TermOf (AnyWordOf index patterns))) hits (some_held format trees db index content holds patterns finds.0 finds.1) finds.2
    term_held _ hits finds = finds

    pub plan_held : (plan : PlanValue) (hits : List ℕ) → PlanFinds format trees db plan hits → AreNumbers (Holds plan) hits
    plan_held (TermOf plan) hits finds = term_held plan hits finds
    plan_held (PairOf operator left right) hits finds =
        just_same (λ n. AreJoined operator (Has finds.0 n) (Has finds.1 n)) (Holds (PairOf operator left right)) hits
        (λ n. joined_same operator (Has finds.0 n) (Has finds.1 n) (Holds left n) (Holds right n) ((plan_held left finds.0 finds.2).each n) ((plan_held right finds.1 finds.3).each n)) finds.4
    plan_held (NearOf index left right separation) hits finds =
        just_same (IsNear separation finds.0 finds.1) (Holds (NearOf index left right separation)) hits (near_held format trees db index content holds left right separation finds.0 finds.1 finds.2 finds.3) finds.4

    -- nothing is hidden of a content that can be stored, where the identifiers that are named can be read
    module _ (storable : IsStorable content) where
      term_shown : (plan : TermPlanValue) → TermNamesReadable trees db plan → TermHides format trees db plan → ⊥
      term_shown (RecordNumberOf number) readable hidden = hidden readable
      term_shown (NoWordsOf index register) readable hidden = absurd hidden
      term_shown (AlwaysOf index register) readable hidden = none_hidden format trees db ⊥ index register (λ _. Unit {0}) content holds storable hidden
      term_shown (NumberOf index relation number) readable hidden = none_hidden format trees db (IsOneKey relation number) index register.Number (IsNumberAt relation number) content holds storable hidden
      term_shown (OrderedOf index register relation start) readable hidden = none_hidden format trees db ⊥ index register (λ term. StandsInOrder relation term start) content holds storable hidden
      term_shown (CompleteOf index pattern) readable hidden = none_hidden format trees db (HasNoStar pattern) index register.Phrase (Fits pattern) content holds storable hidden
      term_shown (PhraseOf index patterns first) readable hidden = no_word_hidden format trees db index content holds storable patterns hidden
      term_shown (AllWordsOf index patterns) readable hidden = no_word_hidden format trees db index content holds storable patterns hidden
      term_shown (AnyWordOf index patterns) readable hidden = no_word_hidden format trees db index content holds storable patterns hidden

      pub plan_shown : (plan : PlanValue) → NamesReadable trees db plan → PlanHides format trees db plan → ⊥
      plan_shown (TermOf plan) readable hidden = term_shown plan readable hidden
      plan_shown (PairOf operator left right) readable hidden = elim hidden [ inl one ↦ plan_shown left readable.0 one | inr two ↦ plan_shown right readable.1 two ]
      plan_shown (NearOf index left right separation) readable hidden = no_word_hidden format trees db index content holds storable (left ∷ right ∷ []) hidden
