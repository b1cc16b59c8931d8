-- The grammar of queries (YAZ manual, Prefix Query Format):
--     query     = [ @attrset SET ] structure
--     structure = @attr [ SET ] SPEC structure | @term TYPE structure
--               | @and structure structure | @or structure structure | @not structure structure
--               | @prox W W W W W W structure structure | @set NAME | TERM
-- SET, TYPE, NAME and W are any words but bad ones; after @attr a word without `=` is the SET. SPEC is 1 to 9 digits, the
-- type, then `=`, then a value of at least one character. TERM is a word that is no keyword. @attr and @term hold for all
-- of the structure that follows; of several types the innermost holds.
-- Own rules of this project, which the manual leaves open or has otherwise: that a type is a number of at most nine digits; that a value
-- has at least one character; that keywords are in lower case and unquoted, and have no meaning where a SET, a TYPE, a NAME or a W is due;
-- that an unquoted word which begins with @ and is no keyword is a TERM; and that no query has a bad word.
use Rattle.zeb_query.specs.Cited.{is_ascii_digit, after_first, before_first, list_all, list_any, position_or_len, digits_value, Keyword, OperatorWord, And, Not, Or, Proximity, Spelling, Bad, Plain, Quoted}
use Rattle.zeb_query.specs.declared.keywords.Keyword.TheVariants.{Attribute, AttributeSet, Operator, ResultSet, TermType}
use Rattle.std.specs.Prelude.{Bool, List, None, Option, Some, [], chars, codes, false, if◌then◌else◌, length, map, nat_le, nat_lt, option_and_then, string_bytes, true, ℕ, ◌&&◌, ◌++◌, ◌==◌, ◌∷◌, ◌≡◌, option_map, bytes_eq}
use Rattle.zeb_query.specs.declared.queries.Attribute.{Attribute as AttributeOfQuery}
use Rattle.zeb_query.specs.declared.plans.Operator.{Operator as OperatorOnSets}
use Rattle.zeb_query.specs.declared.plans.Operator.TheVariants as on_sets
use Rattle.zeb_query.specs.declared.queries.Connective.{Connective}
use Rattle.zeb_query.specs.declared.queries.Connective.TheVariants as connective
use Rattle.zeb_query.specs.declared.queries.Parameters.{Parameters}
use Rattle.zeb_query.specs.declared.queries.Head.{Head}
use Rattle.zeb_query.specs.declared.queries.Query.{Query}
use Rattle.zeb_query.specs.declared.queries.Tree.{Named, Pair', Term, Tree}
use Rattle.zeb_query.specs.Words.{AreWords, Word}

-- ---- queries as values

-- A query in the Prefix Query Format as a value (YAZ manual, Prefix Query Format): what it says, without where it lies in memory.
-- Texts are in UTF-8. That a node has the place of its word is this project's own.

-- an attribute: its set, if one is named, its type and its value as written
pub record AttributeValue : Type 0 where
  pub set : Option (List ℕ)
  pub kind : ℕ
  pub value : List ℕ

-- the attributes that stand right before a structure, the outermost first, and the innermost term type
pub record HeadValue : Type 0 where
  pub attributes : List AttributeValue
  pub term_type : Option (List ℕ)

-- the six parameters of `@prox` as written
pub record ParametersValue : Type 0 where
  pub exclusion : List ℕ
  pub distance : List ℕ
  pub ordered : List ℕ
  pub relation : List ℕ
  pub which_code : List ℕ
  pub unit_code : List ℕ

-- an operator on sets of records, or `@prox`
pub data ConnectiveValue : Type 0 where
  BooleanOf : OperatorOnSets → ConnectiveValue
  ProximityOf : ParametersValue → ConnectiveValue

-- a term, a named result set, or an operator with its operands; each with its place and head
pub data TreeValue : Type 0 where
  TermValue : ℕ → HeadValue → List ℕ → TreeValue
  NamedValue : ℕ → HeadValue → List ℕ → TreeValue
  PairValue : ℕ → HeadValue → ConnectiveValue → TreeValue → TreeValue → TreeValue

-- a query as a value: the attribute set that it names, and its tree
pub record QueryValue : Type 0 where
  pub attrset : Option (List ℕ)
  pub tree : TreeValue

abbrev pub attribute_value : AttributeOfQuery → AttributeValue
attribute_value a = record { set = option_map string_bytes a.set; kind = a.kind; value = string_bytes a.value }

abbrev pub head_value : Head → HeadValue
head_value head = record { attributes = map attribute_value head.attributes.items; term_type = option_map string_bytes head.term_type }

abbrev pub parameters_value : Parameters → ParametersValue
parameters_value p = record {
  exclusion = string_bytes p.exclusion;
  distance = string_bytes p.distance;
  ordered = string_bytes p.ordered;
  relation = string_bytes p.relation;
  which_code = string_bytes p.which_code;
  unit_code = string_bytes p.unit_code;
}

abbrev pub connective_value : Connective → ConnectiveValue
connective_value (connective.Boolean operator) = BooleanOf operator
connective_value (connective.Proximity parameters) = ProximityOf (parameters_value parameters)

abbrev pub tree_value : Tree → TreeValue
tree_value (Term leaf) = TermValue leaf.place (head_value leaf.head) (string_bytes leaf.text)
tree_value (Named leaf) = NamedValue leaf.place (head_value leaf.head) (string_bytes leaf.text)
tree_value (Pair' place head connective p left q right) =
    PairValue place (head_value head) (connective_value connective) (tree_value left) (tree_value right)

-- what a query in memory is as a value
abbrev pub query_value : Query → QueryValue
query_value query = record { attrset = option_map string_bytes query.attrset; tree = tree_value query.tree }

-- ---- numbers

-- the most digits of an attribute's type and value, of a distance and of a system number, and those of another number: limits of
-- this project's own
abbrev pub few : ℕ
few = 9

abbrev pub many : ℕ
many = 18

-- whether a text has 1 to `most` digits and nothing else
abbrev pub is_number : ℕ → List ℕ → Bool
is_number most text = nat_lt 0 (length text) && (nat_le (length text) most && list_all is_ascii_digit text)

-- the number that such a text spells
abbrev pub number_of : ℕ → List ℕ → Option ℕ
number_of most text = if is_number most text then Some (digits_value 10 text) else None

-- ---- keywords

-- the word of an operator
abbrev pub operator_word : OperatorWord → List ℕ
operator_word And = codes "@and"
operator_word Or = codes "@or"
operator_word Not = codes "@not"
operator_word Proximity = codes "@prox"

-- what the first row of a table stands for whose entry is the one that is looked for, and of a table of texts that of a text
abbrev pub row_for : {K A : Type 0} → (K → Bool) → List (K × A) → Option A
row_for is_it [] = None
row_for is_it (row ∷ rows) = if is_it row.0 then Some row.1 else row_for is_it rows

abbrev pub kept_text : {A : Type 0} → List (List ℕ × A) → List ℕ → Option A
kept_text table text = row_for (bytes_eq text) table

-- the keyword of a text
abbrev pub keyword_spelled : List ℕ → Option Keyword
keyword_spelled text = kept_text (
    (codes "@attrset", AttributeSet) ∷ (codes "@attr", Attribute) ∷ (codes "@term", TermType) ∷ (codes "@set", ResultSet)
    ∷ map (λ word. (operator_word word, Operator word)) (And ∷ Or ∷ Not ∷ Proximity ∷ [])) text

-- the keyword that a word is, if it is one of the eight, unquoted and in lower case
abbrev pub keyword_of : Word → Option Keyword
keyword_of word = elim word.spelling [ Plain ↦ keyword_spelled word.text | Quoted ↦ None | Bad ↦ None ]

-- ---- structures and queries

abbrev pub is_good_spelling : Spelling → Bool
is_good_spelling Plain = true
is_good_spelling Quoted = true
is_good_spelling Bad = false

-- a word that isn't bad
abbrev pub is_good : Word → Bool
is_good word = is_good_spelling word.spelling

-- 61 is `=`
abbrev pub is_equals_sign : ℕ → Bool
is_equals_sign b = b == 61

abbrev pub has_equals : List ℕ → Bool
has_equals text = list_any is_equals_sign text

-- the type and the value of a SPEC
abbrev pub if_any : ℕ → List ℕ → Option (ℕ × List ℕ)
if_any kind [] = None
if_any kind (b ∷ bs) = Some (kind, b ∷ bs)

-- the type and the value of a text `TYPE=VALUE`, if its type is 1 to 9 digits and its value isn't empty
unfoldable pub kind_and_value : List ℕ → Option (ℕ × List ℕ)
kind_and_value text =
    if nat_lt (position_or_len is_equals_sign text) (length text)
    then option_and_then (λ kind. if_any kind (after_first is_equals_sign text)) (number_of few (before_first is_equals_sign text))
    else None

-- nothing stands right before a node: neither an attribute nor a term type
abbrev pub no_head : HeadValue
no_head = record { attributes = []; term_type = None }

abbrev pub or_else : {A : Type 0} → Option A → Option A → Option A
or_else (Some x) other = Some x
or_else None other = other

-- a head right before another, whose term type is the inner one, if there is one
abbrev pub heads : HeadValue → HeadValue → HeadValue
heads outer inner = record { attributes = outer.attributes ++ inner.attributes; term_type = or_else inner.term_type outer.term_type }

-- a structure with more attributes, or a term type, in front of it
abbrev pub under : HeadValue → TreeValue → TreeValue
under head (TermValue place inner text) = TermValue place (heads head inner) text
under head (NamedValue place inner name) = NamedValue place (heads head inner) name
under head (PairValue place inner connective left right) = PairValue place (heads head inner) connective left right

abbrev pub with_attribute : Option (List ℕ) → ℕ × List ℕ → HeadValue
with_attribute set spec = record { attributes = record { set = set; kind = spec.0; value = spec.1 } ∷ []; term_type = None }

abbrev pub with_type : List ℕ → HeadValue
with_type type = record { attributes = []; term_type = Some type }

-- the operator of this word with these parameters
abbrev pub connective_of : OperatorWord → List (List ℕ) → Option ConnectiveValue
connective_of And [] = Some (BooleanOf on_sets.And)
connective_of Or [] = Some (BooleanOf on_sets.Or)
connective_of Not [] = Some (BooleanOf on_sets.Not)
connective_of Proximity (exclusion ∷ distance ∷ ordered ∷ relation ∷ which_code ∷ unit_code ∷ []) = Some (ProximityOf (record {
  exclusion = exclusion;
  distance = distance;
  ordered = ordered;
  relation = relation;
  which_code = which_code;
  unit_code = unit_code;
}))
connective_of word parameters = None

abbrev pub text_of : Word → List ℕ
text_of word = word.text

-- the words spell the structure
pub data IsStructure : List Word → TreeValue → Type 0 where
  is_term : (term : Word) → is_good term ≡ true → keyword_of term ≡ None
      → IsStructure (term ∷ []) (TermValue term.place no_head term.text)
  is_named : (set name : Word) → keyword_of set ≡ Some ResultSet → is_good name ≡ true
      → IsStructure (set ∷ name ∷ []) (NamedValue set.place no_head name.text)
  is_attribute : (attr spec : Word) (words : List Word) (tree : TreeValue) (read : ℕ × List ℕ)
      → keyword_of attr ≡ Some Attribute → is_good spec ≡ true → kind_and_value spec.text ≡ Some read
      → IsStructure words tree
      → IsStructure (attr ∷ spec ∷ words) (under (with_attribute None read) tree)
  is_attribute_of_set : (attr set spec : Word) (words : List Word) (tree : TreeValue) (read : ℕ × List ℕ)
      → keyword_of attr ≡ Some Attribute → is_good set ≡ true → has_equals set.text ≡ false
      → is_good spec ≡ true → kind_and_value spec.text ≡ Some read
      → IsStructure words tree
      → IsStructure (attr ∷ set ∷ spec ∷ words) (under (with_attribute (Some set.text) read) tree)
  is_typed : (keyword type : Word) (words : List Word) (tree : TreeValue)
      → keyword_of keyword ≡ Some TermType → is_good type ≡ true
      → IsStructure words tree
      → IsStructure (keyword ∷ type ∷ words) (under (with_type type.text) tree)
  is_pair : (operator : Word) (word : OperatorWord) (connective : ConnectiveValue) (parameters left right : List Word) (x y : TreeValue)
      → keyword_of operator ≡ Some (Operator word)
      → connective_of word (map text_of parameters) ≡ Some connective → list_all is_good parameters ≡ true
      → IsStructure left x → IsStructure right y
      → IsStructure (operator ∷ (parameters ++ (left ++ right))) (PairValue operator.place no_head connective x y)

-- the words spell the query
pub data IsQuery : List Word → QueryValue → Type 0 where
  is_structure : (words : List Word) (tree : TreeValue) → IsStructure words tree
      → IsQuery words (record { attrset = None; tree = tree })
  is_structure_of_set : (keyword set : Word) (words : List Word) (tree : TreeValue)
      → keyword_of keyword ≡ Some AttributeSet → is_good set ≡ true → IsStructure words tree
      → IsQuery (keyword ∷ set ∷ words) (record { attrset = Some set.text; tree = tree })

-- ---- texts

-- the words of the text spell the query
pub record SpellsQuery (text : List ℕ) (query : QueryValue) : Type 0 where
  pub words : List Word
  pub are_words : AreWords (chars text) words
  pub spelled : IsQuery words query
