-- On which records a query holds (ANSI/NISO Z39.50-2003, attribute set Bib-1 and the proximity operator; YAZ manual, Prefix Query Format).
-- Own rules of this project: that a record may be named by its system number (structure 107), that the first position is that of a
-- unit's first word, that texts stand in the order of their bytes and numbers are below 10^18, that phrases and words near each other
-- are of one unit, and that a term without words holds on no record.
-- All is said by a set of occurrences: it says of a record's number and an occurrence whether the record has it. Read with the bytes of
-- kept records it tells what a find means; read with the postings of the registers, what they say by themselves.
use Rattle.std.specs.Prelude.{◌≡◌, ◌≢◌, ◌⊎◌, ◌+◌, ◌<◌, ◌^◌, ℕ, Bool, true, List, [], ◌∷◌, IsUtf8, chars}
use Rattle.sqlite_rules.specs.Lists.{Has}
use Rattle.zeb_text.specs.Symbols.{Symbol}
use Rattle.zeb_text.specs.Patterns.{Matches}
use Rattle.zeb_text.specs.Numbers.{number_key}
use Rattle.zeb_keys.specs.declared.Register.{Register}
use Rattle.zeb_keys.specs.declared.Register.TheVariants as register
use Rattle.zeb_query.specs.declared.plans.Operator.{Operator}
use Rattle.zeb_query.specs.declared.plans.Operator.TheVariants as operator
use Rattle.zeb_query.specs.declared.plans.Relation.{Relation}
use Rattle.zeb_query.specs.declared.plans.Separation.{Separation}
use Rattle.zeb_query.specs.Plans.{PlanValue, TermOf, PairOf, NearOf, TermPlanValue, RecordNumberOf, NoWordsOf, AlwaysOf, NumberOf, OrderedOf, CompleteOf, PhraseOf, AllWordsOf, AnyWordOf}
use Rattle.zeb_keys.specs.declared.keys.Occurrence.{Occurrence}
use Rattle.zeb_register.specs.Occurring.{TermIn, key_in}
use Rattle.zeb_search.specs.Comparing.{Stands, StandsInOrder, AreSeparated}

-- ---- entries of a register

-- a pattern matches an entry, which is UTF-8
abbrev pub Fits : List Symbol → List ℕ → Type 0
Fits pattern term = IsUtf8 term × Matches pattern (chars term)

-- an entry is the term of a number below 10^18 that stands to the given one as the relation asks
abbrev pub IsNumberAt : Relation → ℕ → List ℕ → Type 0
IsNumberAt relation number term = (value : ℕ) × (value < 10 ^ 18) × (term ≡ number_key value) × Stands relation value number

-- both of two conditions hold, or either, or the first and not the second, as the operator asks
abbrev pub AreJoined : Operator → Type 0 → Type 0 → Type 0
AreJoined operator.And left right = left × right
AreJoined operator.Or left right = left ⊎ right
AreJoined operator.Not left right = left × (¬ right)

-- `O` is a set of occurrences
module _ (O : ℕ → Occurrence → Type 0) where
  -- the record has an entry that is P in the register
  abbrev pub HasEntry : ℕ → Register → (P : List ℕ → Type 0) → ℕ → Type 0
  HasEntry index register P n = (term : List ℕ) × TermIn O index register term n × P term

  -- a word that the pattern matches stands at this place of the record
  abbrev pub HasWord : ℕ → List Symbol → (n seq pos : ℕ) → Type 0
  HasWord index pattern n seq pos = (term : List ℕ) × O n (record { key = key_in index register.Word term; seq = seq; pos = pos }) × Fits pattern term

  -- the words of the unit from this place on match the patterns in order
  abbrev pub HasWords : ℕ → List (List Symbol) → (n seq pos : ℕ) → Type 0
  HasWords index [] n seq pos = Unit {0}
  HasWords index (pattern ∷ patterns) n seq pos = HasWord index pattern n seq pos × HasWords index patterns n seq (1 + pos)

  -- The words of one unit match the patterns, one after another; `first` asks that they begin with the unit's first word. Words are
  -- numbered from 1.
  abbrev pub HasPhrase : ℕ → List (List Symbol) → Bool → ℕ → Type 0
  HasPhrase index patterns first n = (seq : ℕ) × (pos : ℕ) × (first ≡ true → pos ≡ 1) × HasWords index patterns n seq pos

  -- some word of the record matches the pattern
  abbrev pub HasMatch : ℕ → List Symbol → ℕ → Type 0
  HasMatch index pattern = HasEntry index register.Word (Fits pattern)

  -- two words of one unit, which their patterns match, are separated so
  abbrev pub HasNear : ℕ → List Symbol → List Symbol → Separation → ℕ → Type 0
  HasNear index left right separation n =
      (seq : ℕ) × (i : ℕ) × (j : ℕ) × HasWord index left n seq i × HasWord index right n seq j × AreSeparated separation i j

  -- ---- terms and trees; `IsKept` says of which records the database has

  module _ (IsKept : ℕ → Type 0) where
    -- one term of a plan holds on the record of a number: the record is kept and has the number that is asked for; or it has an entry that is asked
    -- for: any, one that stands in the relation, or a whole phrase that matches the pattern; or its words match the patterns, one after another,
    -- all of them, or one; without words, or without a pattern, it holds on none
    abbrev pub TermHolds : TermPlanValue → ℕ → Type 0
    TermHolds (RecordNumberOf number) n = (n ≡ number) × IsKept n
    TermHolds (NoWordsOf index register) n = ⊥
    TermHolds (AlwaysOf index register) n = HasEntry index register (λ _. Unit {0}) n
    TermHolds (NumberOf index relation number) n = HasEntry index register.Number (IsNumberAt relation number) n
    TermHolds (OrderedOf index register relation start) n = HasEntry index register (λ term. StandsInOrder relation term start) n
    TermHolds (CompleteOf index pattern) n = HasEntry index register.Phrase (Fits pattern) n
    TermHolds (PhraseOf index patterns first) n = (patterns ≢ []) × HasPhrase index patterns first n
    TermHolds (AllWordsOf index patterns) n = (patterns ≢ []) × ((pattern : List Symbol) → Has patterns pattern → HasMatch index pattern n)
    TermHolds (AnyWordOf index patterns) n = (pattern : List Symbol) × Has patterns pattern × HasMatch index pattern n

    -- a plan holds on the record of a number: its one term holds; or both of its sides do, either does, or the left and not the right; or two words
    -- of one unit match its two patterns and are as far apart as it asks
    abbrev pub TreeHolds : PlanValue → ℕ → Type 0
    TreeHolds (TermOf plan) n = TermHolds plan n
    TreeHolds (PairOf operator left right) n = AreJoined operator (TreeHolds left n) (TreeHolds right n)
    TreeHolds (NearOf index left right separation) n = HasNear index left right separation n
