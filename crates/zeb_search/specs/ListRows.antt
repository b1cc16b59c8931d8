-- How many rows of `blocks` the lists have that a search reads: summed over the terms of the query and over the patterns of each, those of
-- the entries that are asked for, each once a pattern.
use Rattle.std.specs.Prelude.{◌≡◌, ◌+◌, ℕ, ℤ, List, [], ◌∷◌, sum_by}
use Rattle.zeb_text.specs.Symbols.{Symbol}
use Rattle.zeb_keys.specs.declared.Register.{Register}
use Rattle.zeb_keys.specs.declared.Register.TheVariants as register
use Rattle.zeb_query.specs.Plans.{PlanValue, TermOf, PairOf, NearOf, TermPlanValue, RecordNumberOf, NoWordsOf, AlwaysOf, NumberOf, OrderedOf, CompleteOf, PhraseOf, AllWordsOf, AnyWordOf}
use Rattle.zeb_keys.specs.declared.keys.Key.{Key}
use Rattle.zeb_keys.specs.declared.keys.Occurrence.{Occurrence}
use Rattle.sqlite_rules.specs.Lists.{Has}
use Rattle.zeb_register.specs.Content.{Content, Posting, posted}
use Rattle.zeb_register.specs.Occurring.{TermIn, key_in}
use Rattle.zeb_search.specs.Comparing.{StandsInOrder}
use Rattle.zeb_search.specs.Holds.{Fits, IsNumberAt}
use Rattle.zeb_search.specs.Lists.{Rise}

-- Keys of one register, each once: each is P, and each entry that is P and that some record has is among them. One that no record has may
-- be there too, where it is asked for by its name; its list is empty.
pub record AreKeysOf (O : ℕ → Occurrence → Type 0) (index : ℕ) (register : Register) (P : List ℕ → Type 0) (keys : List Key) : Type 0 where
  pub rising : Rise (λ (key : Key). key.term) keys
  pub each : (key : Key) → Has keys key → (key ≡ key_in index register key.term) × P key.term
  pub all : (term : List ℕ) (n : ℕ) → TermIn O index register term n → P term → Has keys (key_in index register term)

-- `rows` says how many rows a list has
module _ (rows : List Posting → ℕ) (content : Content) (db : ℤ) where
  -- how many rows of `blocks` the lists of some keys have
  abbrev pub rows_under : List Key → ℕ
  rows_under keys = sum_by (λ key. rows (content db key)) keys

  -- so do those of a register's entries that are P
  abbrev pub EntryRows : ℕ → Register → (P : List ℕ → Type 0) → ℕ → Type 0
  EntryRows index register P n = (keys : List Key) × AreKeysOf (posted content db) index register P keys × (n ≡ rows_under keys)

  -- the words of an index that a pattern matches, pattern by pattern
  abbrev pub WordRows : ℕ → List (List Symbol) → ℕ → Type 0
  WordRows index [] n = n ≡ 0
  WordRows index (pattern ∷ patterns) n = (a : ℕ) × (b : ℕ) × EntryRows index register.Word (Fits pattern) a × WordRows index patterns b × (n ≡ a + b)

  -- the entries that a term asks for
  abbrev pub TermRows : TermPlanValue → ℕ → Type 0
  TermRows (RecordNumberOf number) n = n ≡ 0
  TermRows (NoWordsOf index register) n = n ≡ 0
  TermRows (AlwaysOf index register) n = EntryRows index register (λ _. Unit {0}) n
  TermRows (NumberOf index relation number) n = EntryRows index register.Number (IsNumberAt relation number) n
  TermRows (OrderedOf index register relation start) n = EntryRows index register (λ term. StandsInOrder relation term start) n
  TermRows (CompleteOf index pattern) n = EntryRows index register.Phrase (Fits pattern) n
  TermRows (PhraseOf index patterns first) n = WordRows index patterns n
  TermRows (AllWordsOf index patterns) n = WordRows index patterns n
  TermRows (AnyWordOf index patterns) n = WordRows index patterns n

  -- the same of each term of a plan
  abbrev pub PlanRows : PlanValue → ℕ → Type 0
  PlanRows (TermOf plan) n = TermRows plan n
  PlanRows (PairOf operator left right) n = (a : ℕ) × (b : ℕ) × PlanRows left a × PlanRows right b × (n ≡ a + b)
  PlanRows (NearOf index left right separation) n = WordRows index (left ∷ right ∷ []) n
