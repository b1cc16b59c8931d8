-- How many rows of `dict` a search reads at most: the distinct terms of a register, once for each pattern with a star and for each term of
-- the query that asks for entries which it doesn't name.
use Rattle.std.specs.Prelude.{◌≡◌, ◌⊎◌, ◌+◌, ◌*◌, ℕ, ℤ, List, [], ◌∷◌, length}
use Rattle.zeb_text.specs.Symbols.{Symbol}
use Rattle.zeb_keys.specs.declared.Register.{Register}
use Rattle.zeb_keys.specs.declared.Register.TheVariants as register
use Rattle.zeb_query.specs.Plans.{PlanValue, TermOf, PairOf, NearOf, TermPlanValue, RecordNumberOf, NoWordsOf, AlwaysOf, NumberOf, OrderedOf, CompleteOf, PhraseOf, AllWordsOf, AnyWordOf}
use Rattle.zeb_register.specs.declared.registers.TermCount.{TermCount}
use Rattle.zeb_register.specs.Content.{Content, posted}
use Rattle.zeb_register.specs.Occurring.{AreTermsOf}
use Rattle.zeb_search.specs.SearchCounts.{HasNoStar, IsOneKey}

-- `row_work` says what a row adds to its count
module _ (row_work : ℕ) (content : Content) (db : ℤ) where
  -- how many rows of `dict` the terms of a register count as: `row_work` for each that some record has
  abbrev pub RegisterDict : ℕ → Register → ℕ → Type 0
  RegisterDict index register n = (terms : List TermCount) × AreTermsOf (posted content db) index register terms × (n ≡ row_work * length terms)

  -- so do they where the entry that is asked for isn't named, and else none
  abbrev pub EntryDict : (IsNamed : Type 0) → ℕ → Register → ℕ → Type 0
  EntryDict IsNamed index register n = (IsNamed × (n ≡ 0)) ⊎ ((¬ IsNamed) × RegisterDict index register n)

  -- the words of an index, once for each pattern with a star
  abbrev pub WordDict : ℕ → List (List Symbol) → ℕ → Type 0
  WordDict index [] n = n ≡ 0
  WordDict index (pattern ∷ patterns) n = (a : ℕ) × (b : ℕ) × EntryDict (HasNoStar pattern) index register.Word a × WordDict index patterns b × (n ≡ a + b)

  -- for one term of a query
  abbrev pub TermDict : TermPlanValue → ℕ → Type 0
  TermDict (RecordNumberOf number) n = n ≡ 0
  TermDict (NoWordsOf index register) n = n ≡ 0
  TermDict (AlwaysOf index register) n = RegisterDict index register n
  TermDict (NumberOf index relation number) n = EntryDict (IsOneKey relation number) index register.Number n
  TermDict (OrderedOf index register relation start) n = RegisterDict index register n
  TermDict (CompleteOf index pattern) n = EntryDict (HasNoStar pattern) index register.Phrase n
  TermDict (PhraseOf index patterns first) n = WordDict index patterns n
  TermDict (AllWordsOf index patterns) n = WordDict index patterns n
  TermDict (AnyWordOf index patterns) n = WordDict index patterns n

  -- the same of each term of a plan
  abbrev pub PlanDict : PlanValue → ℕ → Type 0
  PlanDict (TermOf plan) n = TermDict plan n
  PlanDict (PairOf operator left right) n = (a : ℕ) × (b : ℕ) × PlanDict left a × PlanDict right b × (n ≡ a + b)
  PlanDict (NearOf index left right separation) n = WordDict index (left ∷ right ∷ []) n
