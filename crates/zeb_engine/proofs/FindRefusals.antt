-- A column stores the numbers of the hits of a content.
use Rattle.zeb_engine.proofs.Cited.{◌≡◌, ◌⊎◌, ◌<◌, ◌^◌, ℕ, ℤ, List, Ok, sym, subst, inl, inr, arith, Trees, Has, HasSmallNumber, HasSmallNumbers, NearOf, NoWordsOf, PairOf, PlanValue, RecordNumberOf, TermOf, TermPlanValue, Occurrence, Content, IsStorable, posted, TermHolds, TreeHolds, AreNumbers, is_kept_in, HoldsIn, holder_known, asked_of}
use Rattle.zeb_query.specs.declared.plans.Operator.TheVariants as operator
use Rattle.zeb_engine.proofs.FindAnswers.{asked_has}

module _ (O : ℕ → Occurrence → Type 0) (K : ℕ → Type 0) where
  -- the record has some occurrence, or its number is one that a query can name
  abbrev IsNear : ℕ → Type 0
  IsNear n = ((o : Occurrence) × O n o) ⊎ (n < 10 ^ 9)

  -- of a term that names no record it doesn't matter which are kept
  entry_near : (plan : TermPlanValue) (n : ℕ) → TermHolds O (λ m. m < 10 ^ 9) plan n → IsNear n
  entry_near plan n h = holder_known O (λ m. m < 10 ^ 9) (TermOf plan) n h

  term_near : (plan : TermPlanValue) → HasSmallNumber plan → (n : ℕ) → TermHolds O K plan n → IsNear n
  term_near (RecordNumberOf number) small n h = inr (subst (λ m. m < 10 ^ 9) (sym h.0) small)
  term_near (NoWordsOf index register) small n h = absurd h
  term_near plan small n h = entry_near plan n h

  tree_near : (plan : PlanValue) → HasSmallNumbers plan → (n : ℕ) → TreeHolds O K plan n → IsNear n
  tree_near (TermOf plan) small n h = term_near plan small n h
  tree_near (PairOf operator.And left right) small n h = tree_near left small.0 n h.0
  tree_near (PairOf operator.Or left right) small n h = elim h [ inl l ↦ tree_near left small.0 n l | inr r ↦ tree_near right small.1 n r ]
  tree_near (PairOf operator.Not left right) small n h = tree_near left small.0 n h.0
  tree_near (NearOf index left right separation) small n h = holder_known O (λ m. m < 10 ^ 9) (NearOf index left right separation) n h

-- a column stores the number of each hit that is asked for
pub asked_small : (trees : Trees) (content : Content) → IsStorable content → (id : ℤ) (plan : PlanValue) → HasSmallNumbers plan → (numbers asked : List ℕ) (first count : ℕ)
    → AreNumbers (HoldsIn trees content id plan) numbers → asked_of numbers first count ≡ Ok asked → (n : ℕ) → Has asked n → n < 2 ^ 63
asked_small trees content storable id plan small numbers asked first count are said n there =
    let holds = (are.each n).0 (asked_has numbers asked first count said n there) in
    elim (tree_near (posted content id) (is_kept_in trees id) plan small n holds) [
      | inl known ↦ (let number = (storable id known.0.key _ known.1).sysno in omega (arith, number.1))
      | inr named ↦ omega (arith, named)
    ]
