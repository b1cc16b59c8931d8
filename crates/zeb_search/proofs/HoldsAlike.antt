-- Where two sets have the same occurrences and the same records are kept, a query holds on the same records.
use Rattle.zeb_search.proofs.Cited.{◌↔◌, ℕ, List, [], ◌∷◌, inl, inr, Symbol, Register, Operator, Separation, PlanValue, TermOf, PairOf, NearOf, TermPlanValue, RecordNumberOf, NoWordsOf, AlwaysOf, NumberOf, OrderedOf, CompleteOf, PhraseOf, AllWordsOf, AnyWordOf, Occurrence, AreJoined, HasEntry, HasWord, HasWords, HasNear, TermHolds, TreeHolds}
use Rattle.zeb_query.specs.declared.plans.Operator.TheVariants as operator

-- ---- what holds by fewer occurrences holds by more

module _ (O P : ℕ → Occurrence → Type 0) (so : (n : ℕ) (o : Occurrence) → O n o → P n o) where
  entry_along : (index : ℕ) (register : Register) (Q : List ℕ → Type 0) (n : ℕ) → HasEntry O index register Q n → HasEntry P index register Q n
  entry_along index register Q n h = (h.0, (h.1.0, so n h.1.0 h.1.1, h.1.2), h.2)

  word_along : (index : ℕ) (pattern : List Symbol) (n seq pos : ℕ) → HasWord O index pattern n seq pos → HasWord P index pattern n seq pos
  word_along index pattern n seq pos h = (h.0, so n (record { key = record { index = index; register = Rattle.zeb_keys.specs.declared.registers.Register.TheVariants.Word; term = h.0 }; seq = seq; pos = pos }) h.1, h.2)

  words_along : (index : ℕ) (patterns : List (List Symbol)) (n seq pos : ℕ) → HasWords O index patterns n seq pos → HasWords P index patterns n seq pos
  words_along index [] n seq pos h = h
  words_along index (pattern ∷ patterns) n seq pos h = (word_along index pattern n seq pos h.0, words_along index patterns n seq _ h.1)

  near_along : (index : ℕ) (left right : List Symbol) (separation : Separation) (n : ℕ) → HasNear O index left right separation n → HasNear P index left right separation n
  near_along index left right separation n h =
      (h.0, h.1, h.2, word_along index left n h.0 h.1 h.3, word_along index right n h.0 h.2 h.4, h.5)

  module _ (K M : ℕ → Type 0) (kept : (n : ℕ) → K n → M n) where
    term_along : (plan : TermPlanValue) (n : ℕ) → TermHolds O K plan n → TermHolds P M plan n
    term_along (RecordNumberOf number) n h = (h.0, kept n h.1)
    term_along (NoWordsOf index register) n h = h
    term_along (AlwaysOf index register) n h = entry_along index register _ n h
    term_along (NumberOf index relation number) n h = entry_along index _ _ n h
    term_along (OrderedOf index register relation start) n h = entry_along index register _ n h
    term_along (CompleteOf index pattern) n h = entry_along index _ _ n h
    term_along (PhraseOf index patterns first) n h = (h.0, (h.1.0, h.1.1, h.1.2, words_along index patterns n h.1.0 h.1.1 h.1.3))
    term_along (AllWordsOf index patterns) n h = (h.0, λ pattern there. entry_along index _ _ n (h.1 pattern there))
    term_along (AnyWordOf index patterns) n h = (h.0, h.1, entry_along index _ _ n h.2)

-- ---- what holds by the same holds alike

joined_alike : (op : Operator) (A B C D : Type 0) → A ↔ C → B ↔ D → AreJoined op A B → AreJoined op C D
joined_alike operator.And A B C D left right h = (left.0 h.0, right.0 h.1)
joined_alike operator.Or A B C D left right h = elim h [ inl a ↦ inl (left.0 a) | inr b ↦ inr (right.0 b) ]
joined_alike operator.Not A B C D left right h = (left.0 h.0, λ d. h.1 (right.1 d))

back : {A B : Type 0} → A ↔ B → B ↔ A
back both = (both.1, both.0)

module _ (O P : ℕ → Occurrence → Type 0) (same : (n : ℕ) (o : Occurrence) → O n o ↔ P n o) (K M : ℕ → Type 0) (kept : (n : ℕ) → K n ↔ M n) where
  pub tree_alike : (plan : PlanValue) (n : ℕ) → TreeHolds O K plan n ↔ TreeHolds P M plan n
  tree_alike (TermOf plan) n = (
    term_along O P (λ n o. (same n o).0) K M (λ n. (kept n).0) plan n,
    term_along P O (λ n o. (same n o).1) M K (λ n. (kept n).1) plan n,
  )
  tree_alike (PairOf op left right) n =
      let one = tree_alike left n in
      let other = tree_alike right n in (
        joined_alike op (TreeHolds O K left n) (TreeHolds O K right n) (TreeHolds P M left n) (TreeHolds P M right n) one other,
        joined_alike op (TreeHolds P M left n) (TreeHolds P M right n) (TreeHolds O K left n) (TreeHolds O K right n) (back one) (back other),
      )
  tree_alike (NearOf index left right separation) n = (
    near_along O P (λ n o. (same n o).0) index left right separation n,
    near_along P O (λ n o. (same n o).1) index left right separation n,
  )
