-- The attributes that hold for a term (YAZ manual, Prefix Query Format), and what their values mean (ANSI/NISO Z39.50-2003, attribute
-- set Bib-1): types 1 use, 2 relation, 3 position, 4 structure, 5 truncation, 6 completeness. For each type the innermost attribute
-- holds. The numbers of types and of values are Bib-1's.
-- Own rules of this project: that all attributes over a term count for two faults, a set other than Bib-1 and a type outside 1 to 6,
-- of which the leftmost is told; that a value of more than nine digits is no number; that a use attribute that is no number is the
-- name of an index; which values are kept; what holds where there is no attribute of a type; that 1 and 2 are one for the position and
-- the structure, and 2 and 3 for the completeness; and that structure 107, a local number, is the record's system number.
use Rattle.zeb_query.specs.Cited.{to_ascii_lowercase, join_with_byte, option_map_or, index_by_name, index_by_use, Symbol, Always, Any, Asked, Compared, Complete, Completeness, Cut, Each, Ends, Entries, First, FreeForm, Incomplete, Numeric, Phrase, Position, Profile, Record, Register, Relation, Spread, Structure, Subject, Values, WordList}
use Rattle.std.specs.Prelude.{Bool, List, None, Option, Some, [], chars, codes, encode_utf8_all, false, if◌then◌else◌, map, nat_lt, not, option_and_then, true, ℕ, ◌&&◌, ◌++◌, ◌==◌, ◌∷◌, ◌||◌, find, option_to_list, unwrap_or, bytes_eq}
use Rattle.zeb_keys.specs.declared.Register.TheVariants as register
use Rattle.zeb_text.specs.Truncation.{patterns_of}
use Rattle.zeb_text.specs.Words.{words_of}
use Rattle.zeb_text.specs.declared.Cut.TheVariants as cut
use Rattle.zeb_query.specs.declared.plans.Relation.TheVariants.{Equal, Greater, GreaterOrEqual, Less, LessOrEqual}
use Rattle.zeb_query.specs.Grammar.{AttributeValue, HeadValue, few, number_of, or_else, row_for}

-- ---- the attributes over a term

-- the attribute set Bib-1, by its name or its object identifier
abbrev pub is_bib1 : List ℕ → Bool
is_bib1 set = bytes_eq (map to_ascii_lowercase set) (codes "bib-1") || bytes_eq set (codes "1.2.840.10003.3.1")

abbrev pub is_other_set : List ℕ → Bool
is_other_set set = not (is_bib1 set)

abbrev pub is_other_kind : ℕ → Bool
is_other_kind kind = not (nat_lt 0 kind && nat_lt kind 7)

-- the names of sets in attributes, from the left
abbrev pub sets_in : List AttributeValue → List (List ℕ)
sets_in [] = []
sets_in (attribute ∷ attributes) = option_to_list attribute.set ++ sets_in attributes

-- the value of the innermost attribute of a type
abbrev pub value_held : ℕ → List AttributeValue → Option (List ℕ)
value_held kind [] = None
value_held kind (attribute ∷ attributes) =
    or_else (value_held kind attributes) (if attribute.kind == kind then Some attribute.value else None)

-- the term type and the attributes that hold over a term, the leftmost attribute set that isn't Bib-1, and the
-- leftmost attribute type outside 1 to 6
pub record HoldingValue : Type 0 where
  pub other_set : Option (List ℕ)
  pub other_kind : Option ℕ
  pub term_type : Option (List ℕ)
  pub use_attribute : Option (List ℕ)
  pub relation : Option (List ℕ)
  pub position : Option (List ℕ)
  pub structure : Option (List ℕ)
  pub truncation : Option (List ℕ)
  pub completeness : Option (List ℕ)

-- what holds where a query names this set and the head stands over a term
unfoldable pub holding_of : Option (List ℕ) → HeadValue → HoldingValue
holding_of set head = record {
  other_set = find is_other_set (option_to_list set ++ sets_in head.attributes);
  other_kind = find is_other_kind (map (λ attribute. attribute.kind) head.attributes);
  term_type = head.term_type;
  use_attribute = value_held 1 head.attributes;
  relation = value_held 2 head.attributes;
  position = value_held 3 head.attributes;
  structure = value_held 4 head.attributes;
  truncation = value_held 5 head.attributes;
  completeness = value_held 6 head.attributes;
}

-- ---- the values that are kept: of each type the numbers, and what each stands for

-- the number of an attribute's value, or the default where there is no attribute
abbrev pub number_or : ℕ → Option (List ℕ) → Option ℕ
number_or default None = Some default
number_or default (Some text) = number_of few text

-- what a value stands for, if it is kept
abbrev pub value_of : {A : Type 0} → ℕ → List (ℕ × A) → Option (List ℕ) → Option A
value_of default table text = option_and_then (λ number. row_for (λ value. number == value) table) (number_or default text)

-- type 2, relation: the default is equal
abbrev pub relation_of : Option (List ℕ) → Option Asked
relation_of text =
    value_of 3
    ((1, Compared Less) ∷ (2, Compared LessOrEqual) ∷ (3, Compared Equal) ∷ (4, Compared GreaterOrEqual) ∷ (5, Compared Greater)
    ∷ (103, Always) ∷ []) text

-- type 3, position: first in field, first in subfield, any position, which is the default
abbrev pub position_of : Option (List ℕ) → Option Position
position_of text = value_of 3 ((1, First) ∷ (2, First) ∷ (3, Any) ∷ []) text

-- type 4, structure: phrase, which is the default, word, word list, free-form text, numeric string
abbrev pub structure_of : Option (List ℕ) → Option Structure
structure_of text = value_of 1 ((1, Phrase) ∷ (2, Phrase) ∷ (6, WordList) ∷ (105, FreeForm) ∷ (109, Numeric) ∷ []) text

-- local number
abbrev pub is_local_number : Option (List ℕ) → Bool
is_local_number text = option_map_or (λ number. number == 107) (number_or 1 text) false

-- type 5, truncation: right, left, both, none, which is the default, and each `#` of the term
abbrev pub truncation_of : Option (List ℕ) → Option Cut
truncation_of text = value_of 100 ((1, cut.Right) ∷ (2, cut.Left) ∷ (3, cut.Both) ∷ (100, cut.None) ∷ (101, cut.Hash) ∷ []) text

-- type 6, completeness: incomplete subfield, which is the default, complete subfield, complete field
abbrev pub completeness_of : Option (List ℕ) → Option Completeness
completeness_of text = value_of 1 ((1, Incomplete) ∷ (2, Complete) ∷ (3, Complete) ∷ []) text

-- ---- what a term names

-- type 1, use: its index, by its number, or by its name where it is none; the default is 1016, any
abbrev pub index_used : Profile → Option (List ℕ) → Option ℕ
index_used profile None = index_by_use profile 1016
index_used profile (Some text) = option_map_or (index_by_use profile) (number_of few text) (index_by_name profile text)

-- the values that hold over a term. Where a check refuses the term for a value that isn't kept, the default stands in its place, and
-- index 0 in place of the one that a use attribute hasn't got.
abbrev pub values_held : Profile → HoldingValue → Values
values_held profile h = record {
  subject = if is_local_number h.structure then Record else
      Entries (unwrap_or (index_used profile h.use_attribute) 0) (unwrap_or (structure_of h.structure) Phrase);
  relation = unwrap_or (relation_of h.relation) (Compared Equal);
  position = unwrap_or (position_of h.position) Any;
  truncation = unwrap_or (truncation_of h.truncation) cut.None;
  completeness = unwrap_or (completeness_of h.completeness) Incomplete;
}

-- the index in which it is looked up; a local number has none
abbrev pub index_in : Subject → ℕ
index_in Record = 0
index_in (Entries index structure) = index

-- ---- what the values say

abbrev pub is_first : Position → Bool
is_first First = true
is_first Any = false

abbrev pub is_complete : Completeness → Bool
is_complete Incomplete = false
is_complete Complete = true

abbrev pub is_truncated : Cut → Bool
is_truncated c = elim c [ cut.None ↦ false | cut.Right ↦ true | cut.Left ↦ true | cut.Both ↦ true | cut.Hash ↦ true ]

abbrev pub is_equality : Relation → Bool
is_equality r = elim r [ Less ↦ false | LessOrEqual ↦ false | Equal ↦ true | GreaterOrEqual ↦ false | Greater ↦ false ]

abbrev pub is_ordered : Asked → Bool
is_ordered (Compared relation) = not (is_equality relation)
is_ordered Always = false

abbrev pub is_equal : Asked → Bool
is_equal (Compared relation) = is_equality relation
is_equal Always = false

abbrev pub is_local : Subject → Bool
is_local Record = true
is_local (Entries index structure) = false

abbrev pub asks_number : Structure → Bool
asks_number s = elim s [ Phrase ↦ false | WordList ↦ false | FreeForm ↦ false | Numeric ↦ true ]

abbrev pub is_numeric : Subject → Bool
is_numeric Record = false
is_numeric (Entries index structure) = asks_number structure

-- words without an order
abbrev pub is_list : Subject → Bool
is_list Record = false
is_list (Entries index s) = elim s [ Phrase ↦ false | WordList ↦ true | FreeForm ↦ true | Numeric ↦ false ]

-- ---- what is compared

-- What is compared for a term: its register, and its words, by the values that hold over it. Which register is searched, and where a
-- truncation puts its stars, are this project's own rules.

-- the register that is searched: numbers for structure 109, else phrases for completeness 2 and 3, else words
abbrev pub register_of : Values → Register
register_of v =
    if is_numeric v.subject then register.Number else (
    if is_complete v.completeness then register.Phrase else register.Word)

-- the words of the term are compared: it is no number, and its relation isn't "always matches"
abbrev pub compares_words : Subject → Asked → Bool
compares_words (Entries index structure) (Compared relation) = not (asks_number structure)
compares_words (Entries index structure) Always = false
compares_words Record asked = false

-- a truncation puts stars on each word of a list, else at the ends
abbrev pub spread_of : Subject → Spread
spread_of subject = if is_list subject then Each else Ends

-- the patterns of the term's words, by its truncation and structure, where words are compared, and else none
abbrev pub patterns_asked : Values → List ℕ → List (List Symbol)
patterns_asked v text =
    if compares_words v.subject v.relation then patterns_of v.truncation (spread_of v.subject) (chars text) else []

-- the term's words with a space between
abbrev pub joined_words : List ℕ → List ℕ
joined_words text = join_with_byte 32 (map encode_utf8_all (words_of (chars text)))
