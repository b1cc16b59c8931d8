-- A query holds on no record but those that have an occurrence or are kept.
use Rattle.zeb_search.proofs.Cited.{◌⊎◌, ℕ, List, [], ◌∷◌, inl, inr, refl, Register, Symbol, PlanValue, TermOf, PairOf, NearOf, TermPlanValue, RecordNumberOf, NoWordsOf, AlwaysOf, NumberOf, OrderedOf, CompleteOf, PhraseOf, AllWordsOf, AnyWordOf, Occurrence, HasEntry, HasWord, TermHolds, TreeHolds}
use Rattle.zeb_query.specs.declared.plans.Operator.TheVariants as operator

module _ (O : ℕ → Occurrence → Type 0) (K : ℕ → Type 0) where
  -- the record has some occurrence, or it is kept
  abbrev pub IsKnown : ℕ → Type 0
  IsKnown n = ((o : Occurrence) × O n o) ⊎ K n

  entry_known : (index : ℕ) (register : Register) (Q : List ℕ → Type 0) (n : ℕ) → HasEntry O index register Q n → IsKnown n
  entry_known index register Q n h = inl (h.1.0, h.1.1)

  word_known : (index : ℕ) (pattern : List Symbol) (n seq pos : ℕ) → HasWord O index pattern n seq pos → IsKnown n
  word_known index pattern n seq pos h = inl (_, h.1)

  term_known : (plan : TermPlanValue) (n : ℕ) → TermHolds O K plan n → IsKnown n
  term_known (RecordNumberOf number) n h = inr h.1
  term_known (NoWordsOf index register) n h = absurd h
  term_known (AlwaysOf index register) n h = entry_known index register _ n h
  term_known (NumberOf index relation number) n h = entry_known index _ _ n h
  term_known (OrderedOf index register relation start) n h = entry_known index register _ n h
  term_known (CompleteOf index pattern) n h = entry_known index _ _ n h
  term_known (PhraseOf index [] first) n h = absurd (h.0 refl)
  term_known (PhraseOf index (pattern ∷ patterns) first) n h = word_known index pattern n h.1.0 h.1.1 h.1.3.0
  term_known (AllWordsOf index []) n h = absurd (h.0 refl)
  term_known (AllWordsOf index (pattern ∷ patterns)) n h = entry_known index _ _ n (h.1 pattern (inl refl))
  term_known (AnyWordOf index patterns) n h = entry_known index _ _ n h.2

  pub holder_known : (plan : PlanValue) (n : ℕ) → TreeHolds O K plan n → IsKnown n
  holder_known (TermOf plan) n h = term_known plan n h
  holder_known (PairOf operator.And left right) n h = holder_known left n h.0
  holder_known (PairOf operator.Or left right) n h = elim h [ inl l ↦ holder_known left n l | inr r ↦ holder_known right n r ]
  holder_known (PairOf operator.Not left right) n h = holder_known left n h.0
  holder_known (NearOf index left right separation) n h = word_known index left n h.0 h.1 h.3
