-- What only the contracts of private functions speak of; no public clause reaches it.
-- What the functions below `plan` and `plan_scan` give: the parts of a plan, one after another, each by the public checks that refuse it.
use Rattle.zeb_query.specs.Cited.{is_some, number_key, Symbol, Always, Asked, Compared, Entries, Find, Near, Profile, Proximity, Purpose, Record, Relation, Scan, Separation, Structure, Subject, Values}
use Rattle.std.specs.Prelude.{Bool, Err, List, None, Ok, Option, Result, Some, [], codes, false, if◌then◌else◌, not, true, ℕ, ◌==◌, ◌||◌, bytes_eq, chars}
use Rattle.zeb_query.specs.Grammar.{BooleanOf, HeadValue, NamedValue, PairValue, ParametersValue, ProximityOf, TermValue, TreeValue, few, heads, kept_text, many, number_of, operator_word}
use Rattle.zeb_query.specs.Attributes.{HoldingValue, asks_number, completeness_of, holding_of, index_in, index_used, is_local_number, is_numeric, joined_words, patterns_asked, position_of, register_of, relation_of, structure_of, truncation_of}
use Rattle.zeb_query.specs.Checks.{Check, Operand, Refusal, check, clash_check, distance_relations, index_check, kind_check, one_of, operand_of, orderings, refused, set_check, type_check, words_check, written}
use Rattle.zeb_text.specs.Words.{words_of}
use Rattle.zeb_query.specs.Plans.{AlwaysOf, NearOf, NumberOf, OrderedOf, PairOf, PlanValue, RecordNumberOf, ScanValue, TermOf, TermPlanValue, asked_with, texts_asked}

-- a part after another, unless that one was refused
infixl 10 ◌>>=◌
abbrev pub ◌>>=◌ : {A B : Type 0} → Result A Refusal → (A → Result B Refusal) → Result B Refusal
(Ok x) >>= f = f x
(Err e) >>= f = Err e

-- nothing is refused, unless the check applies
abbrev pub passed : Check → Result (Unit {0}) Refusal
passed c = if c.applies then Err c.refusal else Ok tt

-- a kept value, or the diagnostic about the value as written
abbrev pub kept_or : {A : Type 0} → ℕ → ℕ → Option (List ℕ) → Option A → Result A Refusal
kept_or number place text (Some x) = Ok x
kept_or number place text None = refused number place (written text)

-- ---- a term that is read

unfoldable pub head_read : ℕ → HoldingValue → Result (Unit {0}) Refusal
head_read place h = do
  _ ← passed (type_check place h.term_type)
  _ ← passed (set_check place h.other_set)
  passed (kind_check place h.other_kind)

-- the index of the use attribute, or the diagnostic about it or that there is none; a local number has no index
abbrev pub index_read : Profile → ℕ → Bool → Option (List ℕ) → Result (Option ℕ) Refusal
index_read profile place true text = Ok None
index_read profile place false text =
    kept_or (if is_some text then 114 else 116) place text (index_used profile text) >>= λ index. Ok (Some index)

-- what a term names by its structure, with the index that it has where that is no local number
abbrev pub subject_read : ℕ → Option (List ℕ) → Option ℕ → Result Subject Refusal
subject_read place text None = Ok Record
subject_read place text (Some index) = kept_or 118 place text (structure_of text) >>= λ structure. Ok (Entries index structure)

unfoldable pub values_read : Profile → ℕ → HoldingValue → Result Values Refusal
values_read profile place h = do
  index ← index_read profile place (is_local_number h.structure) h.use_attribute
  relation ← kept_or 117 place h.relation (relation_of h.relation)
  position ← kept_or 119 place h.position (position_of h.position)
  subject ← subject_read place h.structure index
  truncation ← kept_or 120 place h.truncation (truncation_of h.truncation)
  completeness ← kept_or 122 place h.completeness (completeness_of h.completeness)
  Ok (record { subject = subject; relation = relation; position = position; truncation = truncation; completeness = completeness })

abbrev pub patterns_read : ℕ → List ℕ → Values → Result (List (List Symbol)) Refusal
patterns_read place text v = passed (words_check place v text) >>= λ _. Ok (patterns_asked v text)

-- a term whose values are taken together for the purpose, and whose index has the searched register
unfoldable pub term_taken : Profile → Purpose → ℕ → List ℕ → HoldingValue → Result (Values × List (List Symbol)) Refusal
term_taken profile purpose place text h = do
  _ ← head_read place h
  values ← values_read profile place h
  patterns ← patterns_read place text values
  _ ← passed (clash_check purpose profile place values)
  Ok (values, patterns)

-- the index in which a term is looked up
abbrev pub subject_index : ℕ → Subject → Result ℕ Refusal
subject_index place subject = passed (index_check place subject) >>= λ _. Ok (index_in subject)

-- ---- the plan of a term, and where a scan begins at it

-- a term that has to be a number of at most so many digits
abbrev pub number_in : ℕ → ℕ → List ℕ → Result ℕ Refusal
number_in most place text = kept_or 126 place (Some text) (number_of most text)

-- what words ask for that are compared by an order
abbrev pub ordered_asked : Values → ℕ → List ℕ → Relation → TermPlanValue
ordered_asked v index text relation =
    asked_with (words_of (chars text)) index (register_of v) (OrderedOf index (register_of v) relation (joined_words text))

unfoldable pub compared_plan : ℕ → List ℕ → Values → ℕ → Structure → List (List Symbol) → Relation → Result TermPlanValue Refusal
compared_plan place text v index structure patterns relation =
    if asks_number structure then (number_in many place text >>= λ number. Ok (NumberOf index relation number)) else (
    Ok (texts_asked v index structure text patterns relation))

abbrev pub related_plan : ℕ → List ℕ → Values → ℕ → Structure → List (List Symbol) → Asked → Result TermPlanValue Refusal
related_plan place text v index structure patterns Always = Ok (AlwaysOf index (register_of v))
related_plan place text v index structure patterns (Compared relation) = compared_plan place text v index structure patterns relation

abbrev pub subject_plan : ℕ → List ℕ → Values → List (List Symbol) → Subject → Result TermPlanValue Refusal
subject_plan place text v patterns Record = number_in few place text >>= λ number. Ok (RecordNumberOf number)
subject_plan place text v patterns (Entries index structure) = related_plan place text v index structure patterns v.relation

unfoldable pub leaf_plan : Profile → HoldingValue → ℕ → List ℕ → Result TermPlanValue Refusal
leaf_plan profile h place text = do
  read ← term_taken profile Find place text h
  subject_plan place text read.0 read.1 read.0.subject

unfoldable pub scan_start : ℕ → List ℕ → Subject → Result (List ℕ) Refusal
scan_start place text subject =
    if is_numeric subject then (number_in many place text >>= λ number. Ok (number_key number)) else Ok (joined_words text)

unfoldable pub leaf_scan : Profile → HoldingValue → ℕ → List ℕ → Result ScanValue Refusal
leaf_scan profile h place text = do
  read ← term_taken profile Scan place text h
  index ← subject_index place read.0.subject
  start ← scan_start place text read.0.subject
  Ok (record { index = index; register = register_of read.0; start = start })

-- ---- proximity

unfoldable pub separation_read : ℕ → ParametersValue → Result Separation Refusal
separation_read place p = do
  _ ← passed (check place 110 p.exclusion (not (bytes_eq p.exclusion (codes "0"))))
  distance ← kept_or 110 place (Some p.distance) (number_of few p.distance)
  ordered ← kept_or 110 place (Some p.ordered) (kept_text orderings p.ordered)
  relation ← kept_or 110 place (Some p.relation) (kept_text distance_relations p.relation)
  _ ← passed (check place 110 p.which_code (not (bytes_eq p.which_code (codes "k") || bytes_eq p.which_code (codes "known"))))
  _ ← passed (check place 110 p.unit_code (not (bytes_eq p.unit_code (codes "2"))))
  Ok (record { distance = distance; ordered = ordered; relation = relation })

-- the index and the one pattern of a term near another
unfoldable pub word_near : Profile → Operand → Result (ℕ × List Symbol) Refusal
word_near profile o = do
  read ← term_taken profile Near o.place o.text o.held
  index ← subject_index o.place read.0.subject
  pattern ← kept_or 123 o.place None (one_of read.1)
  Ok (index, pattern)

-- the plan of `@prox` behind its parameters: its operands from the left, and then their indexes, which have to be one
abbrev pub operands_plan : Profile → ℕ → Separation → Option Operand → Option Operand → Result PlanValue Refusal
operands_plan profile place separation (Some one) (Some other) = do
  left ← word_near profile one
  right ← word_near profile other
  _ ← passed (check place 123 [] (not (left.0 == right.0)))
  Ok (NearOf left.0 left.1 right.1 separation)
operands_plan profile place separation one other = refused 110 place (operator_word Proximity)

unfoldable pub near_plan : Profile → ℕ → ParametersValue → Option Operand → Option Operand → Result PlanValue Refusal
near_plan profile place parameters left right = do
  separation ← separation_read place parameters
  operands_plan profile place separation left right

-- ---- whole queries

abbrev pub tree_plan : Profile → Option (List ℕ) → HeadValue → TreeValue → Result PlanValue Refusal
tree_plan profile set outer (TermValue place head text) =
    leaf_plan profile (holding_of set (heads outer head)) place text >>= λ plan. Ok (TermOf plan)
tree_plan profile set outer (NamedValue place head name) = refused 18 place name
tree_plan profile set outer (PairValue place head (BooleanOf op) left right) = do
  one ← tree_plan profile set (heads outer head) left
  other ← tree_plan profile set (heads outer head) right
  Ok (PairOf op one other)
tree_plan profile set outer (PairValue place head (ProximityOf parameters) left right) =
    near_plan profile place parameters (operand_of set (heads outer head) left) (operand_of set (heads outer head) right)
