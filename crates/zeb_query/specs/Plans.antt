-- What a query asks for over a profile (ANSI/NISO Z39.50-2003, attribute set Bib-1): the first of the checks of the whole query
-- that applies refuses it; where none does, its plan follows from the attributes that hold over its terms.
-- Bib-1 says what a relation, a position, a structure and a completeness ask for. Own rules of this project: what a plan has where Bib-1
-- leaves it open, which are the words of a term, the register, system numbers for structure 107, and that a term has no other plan where
-- its words are compared and it has none.
use Rattle.std.specs.Prelude.{Bool, List, Option, Result, Some, [], ◌∷◌, chars, if◌then◌else◌, string_bytes, ℕ, ◌<◌, ◌^◌, ◌≡◌, unwrap_or}
use Rattle.zeb_query.specs.Cited.{digits_value, number_key, Symbol, Always, Asked, Compared, Complete, Completeness, Entries, FreeForm, Incomplete, Numeric, Operator, Phrase, Position, Profile, Record, Register, Relation, Separation, Structure, Subject, Values, WordList}
use Rattle.zeb_keys.specs.declared.Register.TheVariants as register
use Rattle.zeb_text.specs.Truncation.{joined_patterns}
use Rattle.zeb_text.specs.Words.{words_of}
use Rattle.zeb_query.specs.declared.plans.Plan.{Near, Pair', Plan, Term}
use Rattle.zeb_query.specs.declared.plans.ScanPlan.{ScanPlan}
use Rattle.zeb_query.specs.declared.plans.TermPlan.{TermPlan}
use Rattle.zeb_query.specs.declared.plans.TermPlan.TheVariants as term
use Rattle.zeb_query.specs.Grammar.{BooleanOf, HeadValue, NamedValue, PairValue, ParametersValue, ProximityOf, QueryValue, TermValue, TreeValue, heads, no_head}
use Rattle.zeb_query.specs.Checks.{Operand, Refusal, checked_by, checks_in, index_near, one_of, operand_of, scan_checks_in, separation_of}
use Rattle.zeb_query.specs.Attributes.{HoldingValue, asks_number, holding_of, index_in, is_equality, is_first, is_numeric, joined_words, patterns_asked, register_of, values_held}

-- ---- plans as values

-- what a term asks for, without where texts and lists lie in memory
pub data TermPlanValue : Type 0 where
  RecordNumberOf : ℕ → TermPlanValue
  NoWordsOf : ℕ → Register → TermPlanValue
  AlwaysOf : ℕ → Register → TermPlanValue
  NumberOf : ℕ → Relation → ℕ → TermPlanValue
  OrderedOf : ℕ → Register → Relation → List ℕ → TermPlanValue
  CompleteOf : ℕ → List Symbol → TermPlanValue
  PhraseOf : ℕ → List (List Symbol) → Bool → TermPlanValue
  AllWordsOf : ℕ → List (List Symbol) → TermPlanValue
  AnyWordOf : ℕ → List (List Symbol) → TermPlanValue

-- what a query asks for, as a value: without where texts and lists lie in memory
pub data PlanValue : Type 0 where
  TermOf : TermPlanValue → PlanValue
  PairOf : Operator → PlanValue → PlanValue → PlanValue
  NearOf : ℕ → List Symbol → List Symbol → Separation → PlanValue

abbrev pub term_plan_value : TermPlan → TermPlanValue
term_plan_value (term.RecordNumber number) = RecordNumberOf number
term_plan_value (term.NoWords index register) = NoWordsOf index register
term_plan_value (term.Always index register) = AlwaysOf index register
term_plan_value (term.Number index relation number) = NumberOf index relation number
term_plan_value (term.Ordered index register relation start) = OrderedOf index register relation (string_bytes start)
term_plan_value (term.Complete index pattern) = CompleteOf index pattern
term_plan_value (term.Phrase index patterns first) = PhraseOf index patterns.items first
term_plan_value (term.AllWords index patterns) = AllWordsOf index patterns.items
term_plan_value (term.AnyWord index patterns) = AnyWordOf index patterns.items

-- what a plan asks for, as a value
abbrev pub plan_value : Plan → PlanValue
plan_value (Term plan) = TermOf (term_plan_value plan)
plan_value (Pair' p op left right) = PairOf op (plan_value left) (plan_value right)
plan_value (Near plan) = NearOf plan.index plan.left plan.right plan.separation

-- ---- terms, by the values that hold over them, where none of their checks applies

-- what is asked for, where there is a word; without one, what no record has (`NoWordsOf`)
abbrev pub asked_with : {A : Type 0} → (words : List A) → ℕ → Register → TermPlanValue → TermPlanValue
asked_with [] index register asked = NoWordsOf index register
asked_with (word ∷ words) index register asked = asked

-- what words ask for that are compared by equality
abbrev pub words_asked : ℕ → Structure → Position → Completeness → List (List Symbol) → TermPlanValue
words_asked index structure position Complete patterns = CompleteOf index (joined_patterns patterns)
words_asked index WordList position Incomplete patterns = AllWordsOf index patterns
words_asked index FreeForm position Incomplete patterns = AnyWordOf index patterns
words_asked index Phrase position Incomplete patterns = PhraseOf index patterns (is_first position)
words_asked index Numeric position Incomplete patterns = PhraseOf index patterns (is_first position)

abbrev pub matched_asked : Values → ℕ → Structure → List (List Symbol) → TermPlanValue
matched_asked v index structure patterns =
    asked_with patterns index (register_of v) (words_asked index structure v.position v.completeness patterns)

abbrev pub texts_asked : Values → ℕ → Structure → List ℕ → List (List Symbol) → Relation → TermPlanValue
texts_asked v index structure text patterns relation =
    if is_equality relation then matched_asked v index structure patterns else
    asked_with (words_of (chars text)) index (register_of v) (OrderedOf index (register_of v) relation (joined_words text))

abbrev pub entries_asked : Values → ℕ → Structure → List ℕ → List (List Symbol) → Asked → TermPlanValue
entries_asked v index structure text patterns Always = AlwaysOf index (register_of v)
entries_asked v index structure text patterns (Compared relation) =
    if asks_number structure then NumberOf index relation (digits_value 10 text) else
    texts_asked v index structure text patterns relation

abbrev pub subject_asked : Values → List ℕ → List (List Symbol) → Subject → TermPlanValue
subject_asked v text patterns Record = RecordNumberOf (digits_value 10 text)
subject_asked v text patterns (Entries index structure) = entries_asked v index structure text patterns v.relation

-- what a term asks for, by the values of its attributes, where none of its checks applies
unfoldable pub plan_asked : Profile → HoldingValue → List ℕ → TermPlanValue
plan_asked profile h text = let v : Values = values_held profile h in subject_asked v text (patterns_asked v text) v.subject

-- ---- proximity

-- the pattern of the one word
abbrev pub operand_pattern : Profile → Operand → List Symbol
operand_pattern profile o = unwrap_or (one_of (patterns_asked (values_held profile o.held) o.text)) []

-- what stands for a plan where there is none: one of the structure's checks always applies
abbrev pub no_plan : PlanValue
no_plan = TermOf (NoWordsOf 0 register.Word)

-- what `@prox` asks for, where none of its checks applies: the one index, the patterns of the two words, and how they
-- are separated
abbrev pub near_asked : Profile → ParametersValue → Option Operand → Option Operand → PlanValue
near_asked profile parameters (Some left) (Some right) =
    NearOf (index_near profile left) (operand_pattern profile left) (operand_pattern profile right) (separation_of parameters)
near_asked profile parameters left right = no_plan

-- ---- queries

-- what a structure asks for, over which the set is named and the head stands, where none of its checks applies
abbrev pub tree_asked : Profile → Option (List ℕ) → HeadValue → TreeValue → PlanValue
tree_asked profile set outer (TermValue place head text) = TermOf (plan_asked profile (holding_of set (heads outer head)) text)
tree_asked profile set outer (NamedValue place head name) = no_plan
tree_asked profile set outer (PairValue place head (BooleanOf operator) left right) =
    PairOf operator (tree_asked profile set (heads outer head) left) (tree_asked profile set (heads outer head) right)
tree_asked profile set outer (PairValue place head (ProximityOf parameters) left right) =
    near_asked profile parameters (operand_of set (heads outer head) left) (operand_of set (heads outer head) right)

-- the first diagnostic of the query's checks, or what it asks for where none applies
abbrev pub plan_of : Profile → QueryValue → Result PlanValue Refusal
plan_of profile query = checked_by (checks_in profile query.attrset no_head query.tree) (tree_asked profile query.attrset no_head query.tree)

-- ---- what every plan says of its numbers

-- a record's own number and a distance are below 10^9, and another number below 10^18
abbrev pub HasSmallNumber : TermPlanValue → Type 0
HasSmallNumber (RecordNumberOf number) = number < 10 ^ 9
HasSmallNumber (NumberOf index relation number) = number < 10 ^ 18
HasSmallNumber (NoWordsOf index register) = Unit {0}
HasSmallNumber (AlwaysOf index register) = Unit {0}
HasSmallNumber (OrderedOf index register relation start) = Unit {0}
HasSmallNumber (CompleteOf index pattern) = Unit {0}
HasSmallNumber (PhraseOf index patterns first) = Unit {0}
HasSmallNumber (AllWordsOf index patterns) = Unit {0}
HasSmallNumber (AnyWordOf index patterns) = Unit {0}

-- the system numbers and the distances in a plan are below 10^9, and the numbers that it compares with below 10^18
abbrev pub HasSmallNumbers : PlanValue → Type 0
HasSmallNumbers (TermOf plan) = HasSmallNumber plan
HasSmallNumbers (PairOf op left right) = HasSmallNumbers left × HasSmallNumbers right
HasSmallNumbers (NearOf index left right separation) = separation.distance < 10 ^ 9

-- ---- scans

-- Where a scan begins over a profile (ANSI/NISO Z39.50-2003, the Scan service, and attribute set Bib-1): at a term. That a scan takes a
-- term alone, which attributes it takes, and that it begins at a number's key or at the term's words, are this project's own rules.

pub record ScanValue : Type 0 where
  pub index : ℕ
  pub register : Register
  pub start : List ℕ

-- where a scan begins, as a value: the index, the register and the text
abbrev pub scan_value : ScanPlan → ScanValue
scan_value plan = record { index = plan.index; register = plan.register; start = string_bytes plan.start }

-- where a scan begins, where none of the term's checks applies: at the key of a number, or at the words
abbrev pub start_asked : Subject → List ℕ → List ℕ
start_asked subject text = if is_numeric subject then number_key (digits_value 10 text) else joined_words text

-- where a scan begins, by the values of its term's attributes, where none of its checks applies
unfoldable pub scan_asked : Profile → HoldingValue → List ℕ → ScanValue
scan_asked profile h text =
    let v : Values = values_held profile h in
    record { index = index_in v.subject; register = register_of v; start = start_asked v.subject text }

-- what stands for a scan's beginning where there is none: one of the structure's checks always applies
abbrev pub no_scan : ScanValue
no_scan = record { index = 0; register = register.Word; start = [] }

abbrev pub tree_scanned : Profile → Option (List ℕ) → TreeValue → ScanValue
tree_scanned profile set (TermValue place head text) = scan_asked profile (holding_of set (heads no_head head)) text
tree_scanned profile set (NamedValue place head name) = no_scan
tree_scanned profile set (PairValue place head connective left right) = no_scan

-- the first diagnostic of the scan's checks, or where it begins
abbrev pub scan_of : Profile → QueryValue → Result ScanValue Refusal
scan_of profile query = checked_by (scan_checks_in profile query.attrset query.tree) (tree_scanned profile query.attrset query.tree)

-- in the register of numbers a scan begins at the key of a number below 10^18
abbrev pub BeginsAtKey : ScanValue → Type 0
BeginsAtKey scan = scan.register ≡ register.Number → (number : ℕ) × (number < 10 ^ 18) × (scan.start ≡ number_key number)
