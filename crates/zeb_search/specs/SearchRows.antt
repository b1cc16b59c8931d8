-- Which rows of the registers show entries that a search asks for, and what they have to be, whatever the others hold. A row that is read
-- beside these may be any.
use Rattle.std.specs.Prelude.{ℕ, ℤ, List, [], ◌∷◌}
use Rattle.sqlite.specs.Tree.{Trees}
use Rattle.sqlite_rules.specs.Lists.{Has}
use Rattle.zeb_text.specs.Symbols.{Symbol}
use Rattle.zeb_keys.specs.declared.Register.{Register}
use Rattle.zeb_keys.specs.declared.Register.TheVariants as register
use Rattle.zeb_query.specs.Plans.{PlanValue, TermOf, PairOf, NearOf, TermPlanValue, RecordNumberOf, NoWordsOf, AlwaysOf, NumberOf, OrderedOf, CompleteOf, PhraseOf, AllWordsOf, AnyWordOf}
use Rattle.zeb_register.specs.Formats.{Format}
use Rattle.zeb_register.specs.Occurring.{key_in}
use Rattle.zeb_register.specs.Sound.{IsListSound, IsTermSound}
use Rattle.zeb_search.specs.Comparing.{StandsInOrder}
use Rattle.zeb_search.specs.Holds.{Fits, IsNumberAt}
use Rattle.zeb_search.specs.SearchCounts.{HasNoStar, IsOneKey}

module _ (format : Format) (trees : Trees) (db : ℤ) where
  -- of the entries of a register that are P the list of each, where it is asked for by its name; else each row of `dict` that shows one, and its list
  abbrev pub AreEntriesSound : (IsNamed : Type 0) → ℕ → Register → (P : List ℕ → Type 0) → Type 0
  AreEntriesSound IsNamed index register P = (term : List ℕ) → P term
      → (IsNamed → IsListSound format trees db (key_in index register term)) × ((¬ IsNamed) → IsTermSound format trees db (key_in index register term))

  -- the words of an index that one of the patterns matches
  abbrev pub AreWordsSound : ℕ → List (List Symbol) → Type 0
  AreWordsSound index patterns = (pattern : List Symbol) → Has patterns pattern → AreEntriesSound (HasNoStar pattern) index register.Word (Fits pattern)

  -- the rows of the entries that one term of a plan asks for are sound
  abbrev pub AreTermRowsSound : TermPlanValue → Type 0
  AreTermRowsSound (RecordNumberOf number) = Unit {0}
  AreTermRowsSound (NoWordsOf index register) = Unit {0}
  AreTermRowsSound (AlwaysOf index register) = AreEntriesSound ⊥ index register (λ _. Unit {0})
  AreTermRowsSound (NumberOf index relation number) = AreEntriesSound (IsOneKey relation number) index register.Number (IsNumberAt relation number)
  AreTermRowsSound (OrderedOf index register relation start) = AreEntriesSound ⊥ index register (λ term. StandsInOrder relation term start)
  AreTermRowsSound (CompleteOf index pattern) = AreEntriesSound (HasNoStar pattern) index register.Phrase (Fits pattern)
  AreTermRowsSound (PhraseOf index patterns first) = AreWordsSound index patterns
  AreTermRowsSound (AllWordsOf index patterns) = AreWordsSound index patterns
  AreTermRowsSound (AnyWordOf index patterns) = AreWordsSound index patterns

  -- those that each term of a plan asks for
  abbrev pub ArePlanRowsSound : PlanValue → Type 0
  ArePlanRowsSound (TermOf plan) = AreTermRowsSound plan
  ArePlanRowsSound (PairOf operator left right) = ArePlanRowsSound left × ArePlanRowsSound right
  ArePlanRowsSound (NearOf index left right separation) = AreWordsSound index (left ∷ right ∷ [])
