-- The diagnostics of a term, of `@prox` and of a query, as tables (ANSI/NISO Z39.50-2003, attribute set Bib-1, and Appendix ERR, the
-- list of diagnostics Bib-1). Each check has a diagnostic's number and addinfo, and says by the attributes that hold over the term, by
-- its text and by the profile where it applies. They are in the order in which they are asked, and the first that applies refuses
-- the term, at its place.
-- The numbers of diagnostics are Bib-1's. Own rules of this project: which fault has which number, and its place and addinfo; the order
-- of the checks; that other values than the kept ones are refused; that a term has at most 64 words (5), and a number at most 9 or 18
-- digits (126); and which values aren't taken together (123).
-- Proximity (YAZ manual, Prefix Query Format: `@prox`; ANSI/NISO Z39.50-2003, the proximity operator): the six parameters are exclusion,
-- distance, ordered, relation, which-code and unit-code. Own rules too: which of their values are kept; that others, and operands that
-- are no terms, are refused by 110; and that the operands are of one word each, in one index, with the attributes that are left.
use Rattle.zeb_query.specs.Cited.{is_none, is_some, option_map_or, digits_value, has_pair, QueryFault, Diagnostic, Memory, Always, And, Asked, Compared, DistanceRelation, Entries, Find, FreeForm, Near, Not, Numeric, OperatorWord, Or, Phrase, Profile, Proximity, Purpose, Record, Register, Scan, Separation, Subject, Values, WordList}
use Rattle.std.specs.Prelude.{Bool, Err, List, None, Ok, Option, Result, Some, [], codes, false, if◌then◌else◌, length, nat_lt, not, string_bytes, true, ℕ, ◌&&◌, ◌++◌, ◌==◌, ◌∷◌, ◌≡◌, ◌||◌, decimal, unwrap_or, bytes_eq}
use Rattle.zeb_query.specs.declared.plans.DistanceRelation.TheVariants.{Equal, Greater, GreaterOrEqual, Less, LessOrEqual, NotEqual}
use Rattle.zeb_query.specs.declared.plans.Relation.TheVariants as relation
use Rattle.zeb_query.specs.declared.plans.Operator.TheVariants as on_sets
use Rattle.zeb_query.specs.Grammar.{BooleanOf, ConnectiveValue, HeadValue, NamedValue, PairValue, ParametersValue, ProximityOf, TermValue, TreeValue, few, heads, is_number, kept_text, many, no_head, operator_word}
use Rattle.zeb_query.specs.Attributes.{HoldingValue, asks_number, completeness_of, holding_of, index_in, index_used, is_complete, is_equal, is_first, is_list, is_local, is_local_number, is_numeric, is_ordered, is_truncated, patterns_asked, position_of, register_of, relation_of, structure_of, truncation_of, values_held}

-- ---- diagnostics as values

-- a diagnostic's number, place and addinfo
pub record Refusal : Type 0 where
  pub number : ℕ
  pub place : ℕ
  pub addinfo : List ℕ

-- the definition refuses by the fault, or memory ran out
abbrev pub Fails : {Y : Type 0} → QueryFault → Result Y Refusal → Type 0
Fails Memory expected = Unit {0}
Fails (Diagnostic n p a) expected = expected ≡ Err (record { number = n; place = p; addinfo = string_bytes a })

-- a call returned what a definition says, its diagnostic with number, place and additional information, or want of
-- memory
abbrev pub Gives : {X Y : Type 0} → (X → Y) → Result X QueryFault → Result Y Refusal → Type 0
Gives view (Ok x) expected = expected ≡ Ok (view x)
Gives view (Err e) expected = Fails e expected

-- the diagnostic, if one applies
abbrev pub answered : {A : Type 0} → Option Refusal → A → Result A Refusal
answered None x = Ok x
answered (Some refusal) x = Err refusal

-- a diagnostic with its number, place and additional information, in place of a value
abbrev pub refused : {A : Type 0} → ℕ → ℕ → List ℕ → Result A Refusal
refused number place addinfo = Err (record { number = number; place = place; addinfo = addinfo })

-- ---- checks

-- where a diagnostic applies, and the diagnostic with its place and addinfo
pub record Check : Type 0 where
  pub applies : Bool
  pub refusal : Refusal

abbrev pub check : ℕ → ℕ → List ℕ → Bool → Check
check place number addinfo applies =
    record { applies = applies; refusal = record { number = number; place = place; addinfo = addinfo } }

-- the diagnostic of the first check in a list that applies
abbrev pub first_that_applies : List Check → Option Refusal
first_that_applies [] = None
first_that_applies (c ∷ checks) = if c.applies then Some c.refusal else first_that_applies checks

-- the diagnostic of the first of these checks that applies, or this value where none does
abbrev pub checked_by : {A : Type 0} → List Check → A → Result A Refusal
checked_by checks x = answered (first_that_applies checks) x

-- ---- the checks of a term

-- a value as written, or an empty text where none is
abbrev pub written : Option (List ℕ) → List ℕ
written text = unwrap_or text []

-- the check of the term's type: one is named that is neither `general` nor `string`
abbrev pub type_check : ℕ → Option (List ℕ) → Check
type_check place type =
    check place 229 (written type) (option_map_or (λ text. not (bytes_eq text (codes "general") || bytes_eq text (codes "string"))) type false)

-- the check of attribute sets: the leftmost that isn't Bib-1 is told, as by `kind_check` the leftmost attribute type
-- outside 1 to 6
abbrev pub set_check : ℕ → Option (List ℕ) → Check
set_check place set = check place 121 (written set) (is_some set)

abbrev pub kind_check : ℕ → Option ℕ → Check
kind_check place kind = check place 113 (option_map_or decimal kind []) (is_some kind)

-- the checks of the use attribute: one is written that names no index of the profile, or none is and the profile has
-- no index for the default, 1016; a local number needs none
abbrev pub use_checks : Profile → ℕ → Bool → Option (List ℕ) → List Check
use_checks profile place local text =
    check place 114 (written text) (not local && (is_some text && is_none (index_used profile text)))
    ∷ check place 116 [] (not local && (is_none text && is_none (index_used profile text)))
    ∷ []

-- the checks of the term's type, of the sets and types of the attributes over it, and of the values of the six attribute types
abbrev pub attribute_checks : Profile → ℕ → HoldingValue → List Check
attribute_checks profile place h =
    type_check place h.term_type
    ∷ set_check place h.other_set
    ∷ kind_check place h.other_kind
    ∷ (use_checks profile place (is_local_number h.structure) h.use_attribute
    ++ check place 117 (written h.relation) (is_none (relation_of h.relation))
    ∷ check place 119 (written h.position) (is_none (position_of h.position))
    ∷ check place 118 (written h.structure) (not (is_local_number h.structure) && is_none (structure_of h.structure))
    ∷ check place 120 (written h.truncation) (is_none (truncation_of h.truncation))
    ∷ check place 122 (written h.completeness) (is_none (completeness_of h.completeness))
    ∷ [])

-- a position, a truncation or a completeness is asked for
abbrev pub is_limited : Values → Bool
is_limited v = is_first v.position || (is_truncated v.truncation || is_complete v.completeness)

-- whether values aren't taken together with what the term asks for: a record, numbers, a phrase, or words without an order
abbrev pub clashes_with : Subject → Values → Bool
clashes_with Record v = is_limited v || not (is_equal v.relation)
clashes_with (Entries index Numeric) v = is_limited v
clashes_with (Entries index Phrase) v = false
clashes_with (Entries index WordList) v = is_first v.position || (is_complete v.completeness || is_ordered v.relation)
clashes_with (Entries index FreeForm) v = is_first v.position || (is_complete v.completeness || is_ordered v.relation)

-- whether a scan, or a word near another, doesn't take the values, though a find may
abbrev pub is_beyond : Purpose → Values → Bool
is_beyond Find v = false
is_beyond Scan v = not (is_equal v.relation) || (is_first v.position || (is_truncated v.truncation || is_list v.subject))
is_beyond Near v =
    not (is_equal v.relation) || (is_first v.position || (is_complete v.completeness || (is_list v.subject || is_numeric v.subject)))

-- values that aren't taken together for the purpose
abbrev pub clashes : Purpose → Values → Bool
clashes purpose v =
    clashes_with v.subject v || ((is_ordered v.relation && (is_first v.position || is_truncated v.truncation)) || is_beyond purpose v)

-- no line of the profile has the term's index with the searched register as a target; a local number needs none
abbrev pub lacks_register : Profile → Register → Subject → Bool
lacks_register profile r Record = false
lacks_register profile r (Entries index structure) = not (has_pair profile (index, r))

-- the check that at most 64 words are compared
abbrev pub words_check : ℕ → Values → List ℕ → Check
words_check place v text = check place 5 [] (nat_lt 64 (length (patterns_asked v text)))

-- the check of values that aren't taken together, and of an index without the searched register
abbrev pub clash_check : Purpose → Profile → ℕ → Values → Check
clash_check purpose profile place v = check place 123 [] (clashes purpose v || lacks_register profile (register_of v) v.subject)

-- the checks of a term for a purpose, in their order: of its attributes, of how many words are compared, and of values
-- that aren't taken together; those of numbers aren't among them
abbrev pub term_checks : Purpose → Profile → ℕ → HoldingValue → List ℕ → List Check
term_checks purpose profile place h text =
    let v : Values = values_held profile h in
    attribute_checks profile place h ++ words_check place v text ∷ clash_check purpose profile place v ∷ []

-- the check of a term that has to be a number of at most so many digits
abbrev pub number_check : ℕ → ℕ → List ℕ → Check
number_check most place text = check place 126 text (not (is_number most text))

-- the check that a local number has at most 9 digits, or a number that is compared at most 18; none of another term
abbrev pub number_checks : ℕ → List ℕ → Subject → Asked → List Check
number_checks place text Record relation = number_check few place text ∷ []
number_checks place text (Entries index structure) (Compared relation) = if asks_number structure then number_check many place text ∷ [] else []
number_checks place text (Entries index structure) Always = []

-- the check that the term is no local number, which has no index
abbrev pub index_check : ℕ → Subject → Check
index_check place subject = check place 123 [] (is_local subject)

-- the checks of a term in a find
abbrev pub find_checks : Profile → ℕ → HoldingValue → List ℕ → List Check
find_checks profile place h text =
    let v : Values = values_held profile h in
    term_checks Find profile place h text ++ number_checks place text v.subject v.relation

-- the checks of a term in a scan, whose relation is equality
abbrev pub scan_checks : Profile → ℕ → HoldingValue → List ℕ → List Check
scan_checks profile place h text =
    let v : Values = values_held profile h in
    term_checks Scan profile place h text ++ index_check place v.subject ∷ number_checks place text v.subject (Compared relation.Equal)

-- ---- proximity: the parameters

-- the values of the parameter ordered: whether the left word has to stand before the right one
abbrev pub orderings : List (List ℕ × Bool)
orderings = (codes "0", false) ∷ (codes "1", true) ∷ []

-- the values of the parameter relation: how the number of words from the one to the other stands to the distance
abbrev pub distance_relations : List (List ℕ × DistanceRelation)
distance_relations =
    (codes "1", Less) ∷ (codes "2", LessOrEqual) ∷ (codes "3", Equal) ∷ (codes "4", GreaterOrEqual) ∷ (codes "5", Greater)
    ∷ (codes "6", NotEqual) ∷ []

-- the checks of the parameters of `@prox`, from left to right: the first that isn't kept is told
abbrev pub parameter_checks : ℕ → ParametersValue → List Check
parameter_checks place p =
    check place 110 p.exclusion (not (bytes_eq p.exclusion (codes "0")))
    ∷ check place 110 p.distance (not (is_number few p.distance))
    ∷ check place 110 p.ordered (is_none (kept_text orderings p.ordered))
    ∷ check place 110 p.relation (is_none (kept_text distance_relations p.relation))
    ∷ check place 110 p.which_code (not (bytes_eq p.which_code (codes "k") || bytes_eq p.which_code (codes "known")))
    ∷ check place 110 p.unit_code (not (bytes_eq p.unit_code (codes "2")))
    ∷ []

-- what kept parameters of `@prox` ask for
abbrev pub separation_of : ParametersValue → Separation
separation_of p = record {
  distance = digits_value 10 p.distance;
  ordered = unwrap_or (kept_text orderings p.ordered) false;
  relation = unwrap_or (kept_text distance_relations p.relation) Equal;
}

-- ---- proximity: the operands, the left one first

-- a term, and what holds over it
pub record Operand : Type 0 where
  pub place : ℕ
  pub held : HoldingValue
  pub text : List ℕ

-- a structure as an operand, if it is a term: with what holds over it, by the set that the query names and what stands in front of it
abbrev pub operand_of : Option (List ℕ) → HeadValue → TreeValue → Option Operand
operand_of set outer (TermValue place head text) = Some (record { place = place; held = holding_of set (heads outer head); text = text })
operand_of set outer (NamedValue place head name) = None
operand_of set outer (PairValue place head connective left right) = None

-- the one element of a list, if it has just one
abbrev pub one_of : {A : Type 0} → List A → Option A
one_of (x ∷ []) = Some x
one_of other = None

-- the checks of a term near another term, last that it is no local number and has just one word
abbrev pub operand_checks : Profile → Operand → List Check
operand_checks profile o =
    let v : Values = values_held profile o.held in
    term_checks Near profile o.place o.held o.text
    ++ index_check o.place v.subject ∷ check o.place 123 [] (is_none (one_of (patterns_asked v o.text))) ∷ []

abbrev pub index_near : Profile → Operand → ℕ
index_near profile o = index_in (values_held profile o.held).subject

-- the check that the operands of `@prox` are terms, their checks, and the check that their indexes are one
abbrev pub operands_checks : Profile → ℕ → Option Operand → Option Operand → List Check
operands_checks profile place (Some left) (Some right) =
    operand_checks profile left
    ++ (operand_checks profile right
    ++ check place 123 [] (not (index_near profile left == index_near profile right)) ∷ [])
operands_checks profile place left right = check place 110 (operator_word Proximity) true ∷ []

abbrev pub proximity_checks : Profile → ℕ → ParametersValue → Option Operand → Option Operand → List Check
proximity_checks profile place parameters left right = parameter_checks place parameters ++ operands_checks profile place left right

-- ---- a whole query

-- the checks of a structure, for the set that the query names and what stands in front, in the order of its text:
-- those of the parameters of `@prox` before those of its operands, and behind these that their indexes are one; a
-- named result set is refused
abbrev pub checks_in : Profile → Option (List ℕ) → HeadValue → TreeValue → List Check
checks_in profile set outer (TermValue place head text) = find_checks profile place (holding_of set (heads outer head)) text
checks_in profile set outer (NamedValue place head name) = check place 18 name true ∷ []
checks_in profile set outer (PairValue place head (BooleanOf operator) left right) =
    checks_in profile set (heads outer head) left ++ checks_in profile set (heads outer head) right
checks_in profile set outer (PairValue place head (ProximityOf parameters) left right) =
    proximity_checks profile place parameters (operand_of set (heads outer head) left) (operand_of set (heads outer head) right)

-- ---- a scan, which takes a term alone

abbrev pub operator_named : ConnectiveValue → OperatorWord
operator_named (BooleanOf on_sets.And) = And
operator_named (BooleanOf on_sets.Or) = Or
operator_named (BooleanOf on_sets.Not) = Not
operator_named (ProximityOf parameters) = Proximity

-- the checks of a scan: those of its term; an operator or a named result set in place of one is refused
abbrev pub scan_checks_in : Profile → Option (List ℕ) → TreeValue → List Check
scan_checks_in profile set (TermValue place head text) = scan_checks profile place (holding_of set (heads no_head head)) text
scan_checks_in profile set (NamedValue place head name) = check place 18 name true ∷ []
scan_checks_in profile set (PairValue place head connective left right) =
    check place 110 (operator_word (operator_named connective)) true ∷ []
