-- What only the contracts of private functions speak of; no public clause reaches it.
-- What the functions that read a text give, in the words of the grammar.
use Rattle.std.specs.Prelude.{ℕ, suc, List, ◌++◌, map, string_bytes, ◌≡◌, ◌≢◌, Result, MatchResult, [], ◌∷◌, true, Option, Some, None, ◌==◌, if◌then◌else◌, option_copied, find, option_to_list}
use Rattle.zeb_query.specs.Cited.{list_all, QueryFault, Diagnostic, Memory, OperatorWord, Keyword}
use Rattle.zeb_query.specs.declared.keywords.Keyword.TheVariants.{Attribute, Operator, TermType}
use Rattle.std.specs.Borrow.{Bor}
use Rattle.zeb_query.specs.declared.diagnostics.Condition.{Condition}
use Rattle.zeb_query.specs.declared.diagnostics.Condition.TheVariants as condition
use Rattle.zeb_query.specs.declared.words.Word.{Word as WordOfText}
use Rattle.zeb_query.specs.declared.words.Mode.{Mode}
use Rattle.zeb_query.specs.declared.words.Mode.TheVariants.{Between, Plain, Quoted, Escaped}
use Rattle.zeb_query.specs.declared.words.Cutter.{Cutter}
use Rattle.zeb_query.specs.declared.grammar.Rest.{Rest}
use Rattle.zeb_query.specs.declared.holding.Holding.{Holding}
use Rattle.zeb_query.specs.declared.queries.Query.{Query}
use Rattle.zeb_query.specs.Words.{Word}
use Rattle.zeb_query.specs.PrivateWalk.{words_at, in_word, in_quotes, escaped, plain_word, quoted_word, with_front, Due, Start, Structures, MoreWords, words_then, fault}
use Rattle.zeb_query.specs.Grammar.{keyword_of, query_value, IsStructure, IsQuery, heads, under, is_good, text_of, kind_and_value, connective_of, AttributeValue, ConnectiveValue, HeadValue, ParametersValue, TreeValue, or_else}
use Rattle.zeb_query.specs.Attributes.{HoldingValue, is_other_kind, is_other_set}

-- ---- faults

-- the number of a condition in the list Bib-1
abbrev pub condition_number : Condition → ℕ
condition_number condition.TooManyWords = 5
condition_number condition.TooManyOperators = 6
condition_number condition.TooManyCharacters = 11
condition_number condition.ResultSet = 18
condition_number condition.MalformedQuery = 108
condition_number condition.Operator = 110
condition_number condition.AttributeType = 113
condition_number condition.UseAttribute = 114
condition_number condition.NoUseAttribute = 116
condition_number condition.Relation = 117
condition_number condition.Structure = 118
condition_number condition.Position = 119
condition_number condition.Truncation = 120
condition_number condition.AttributeSet = 121
condition_number condition.Completeness = 122
condition_number condition.Combination = 123
condition_number condition.TermValue = 126
condition_number condition.TermType = 229

-- the fault is this diagnostic, or want of memory
abbrev pub IsDiagnostic : QueryFault → ℕ → ℕ → List ℕ → Type 0
IsDiagnostic Memory number place addinfo = Unit {0}
IsDiagnostic (Diagnostic n p a) number place addinfo = (n ≡ number) × (p ≡ place) × (string_bytes a ≡ addinfo)

-- the fault is the diagnostic with this number and place and without an addinfo, or want of memory
abbrev pub IsFault : QueryFault → Option (ℕ × ℕ) → Type 0
IsFault Memory expected = Unit {0}
IsFault (Diagnostic number place addinfo) expected = (expected ≡ Some (number, place)) × (string_bytes addinfo ≡ [])

-- ---- words

-- a word without where it lies in memory
abbrev pub word_of : WordOfText → Word
word_of word = record { place = word.place; spelling = word.spelling; text = string_bytes word.text }

-- the words from the one that is being read on, where it began at `start`, has `text` so far, and `cs` is left from `at`
abbrev pub words_left : Mode → ℕ → List ℕ → ℕ → List ℕ → List Word
words_left Between start text at cs = words_at at cs
words_left Plain start text at cs = plain_word start (with_front text (in_word at cs))
words_left Quoted start text at cs = quoted_word start (with_front text (in_quotes at cs))
words_left Escaped start text at cs = quoted_word start (with_front text (escaped at cs))

-- all words, where the characters `cs` are left from `at`
abbrev pub words_with : Cutter → ℕ → List ℕ → List Word
words_with cutter at cs = map word_of cutter.words.items ++ words_left cutter.mode cutter.start (string_bytes cutter.text) at cs

-- ---- the parts of a query

-- the words that are left
abbrev pub left : Rest → List Word
left rest = map word_of rest.words.now

-- their fault, where this is due
abbrev pub fault_of : Rest → Due → Option (ℕ × ℕ)
fault_of rest due = fault rest.end rest.room due (left rest)

-- the place of the first word, or the end
abbrev pub first_place : ℕ → List Word → ℕ
first_place end [] = end
first_place end (word ∷ words) = word.place

-- the keyword that the first word is
abbrev pub first_keyword : List Word → Option Keyword
first_keyword [] = None
first_keyword (word ∷ words) = keyword_of word

-- one word that isn't bad is read from a rest, and what follows is left
pub record ReadsWord (rest after : Rest) (word : Word) : Type 0 where
  pub good : is_good word ≡ true
  pub is : left rest ≡ word ∷ left after
  pub end : after.end ≡ rest.end
  pub room : after.room ≡ rest.room

-- one word is read, whose text this is; where it was due and others with it, these are due behind it
pub record ReadsText (rest after : Rest) (text : List ℕ) : Type 0 where
  pub word : Word
  pub reads : ReadsWord rest after word
  pub text_is : text ≡ word.text
  pub goes : (k n : ℕ) → fault_of rest (MoreWords k n) ≡ fault_of after (words_then k n)

-- a number and a text, without where the text lies in memory
abbrev pub pair_value : Option (ℕ × Bor (List ℕ)) → Option (ℕ × List ℕ)
pair_value None = None
pair_value (Some pair) = Some (pair.0, pair.1.now)

-- the word is the SPEC of the attribute, with this set
pub record IsSpec (word : Word) (set : Option (List ℕ)) (attribute : AttributeValue) : Type 0 where
  pub set_is : attribute.set ≡ set
  pub read : kind_and_value word.text ≡ Some (attribute.kind, attribute.value)

-- the words between are the attribute set, if one is named, and a structure is due after them
pub record SpellsSet (rest after : Rest) (set : Option (List ℕ)) : Type 0 where
  pub words : List Word
  pub is : left rest ≡ words ++ left after
  pub spells : (more : List Word) (tree : TreeValue) → IsStructure more tree → IsQuery (words ++ more) (record { attrset = set; tree = tree })

-- what follows @attr, up to the rest, spells the attribute
pub record SpellsAttribute (rest after : Rest) (attribute : AttributeValue) : Type 0 where
  pub words : List Word
  pub is : left rest ≡ words ++ left after
  pub spells : (attr : Word) (more : List Word) (tree : TreeValue)
      → keyword_of attr ≡ Some Attribute → IsStructure more tree
      → IsStructure (attr ∷ (words ++ more)) (under (record { attributes = attribute ∷ []; term_type = None }) tree)

-- the words between spell the head of a structure
pub record SpellsHead (rest after : Rest) (head : HeadValue) : Type 0 where
  pub words : List Word
  pub is : left rest ≡ words ++ left after
  pub spells : (more : List Word) (tree : TreeValue) → IsStructure more tree → IsStructure (words ++ more) (under head tree)

-- and after them neither an attribute nor a term type stands
pub record SpellsWholeHead (rest after : Rest) (head : HeadValue) : Type 0 where
  pub spelled : SpellsHead rest after head
  pub no_attribute : first_keyword (left after) ≢ Some Attribute
  pub no_term_type : first_keyword (left after) ≢ Some TermType

-- a keyword and the words after it put one more piece into a head, inside of all that stands there
pub record SpellsMore (rest after : Rest) (old new : HeadValue) : Type 0 where
  pub keyword : Word
  pub words : List Word
  pub piece : HeadValue
  pub is : left rest ≡ keyword ∷ (words ++ left after)
  pub new_is : new ≡ heads old piece
  pub spells : (more : List Word) (tree : TreeValue) → IsStructure more tree → IsStructure (keyword ∷ (words ++ more)) (under piece tree)

-- the words between are parameters
pub record SpellsParameters (rest after : Rest) (texts : List (List ℕ)) : Type 0 where
  pub words : List Word
  pub is : left rest ≡ words ++ left after
  pub good : list_all is_good words ≡ true
  pub texts_are : map text_of words ≡ texts

-- these six
abbrev pub SpellsProximity : Rest → Rest → ParametersValue → Type 0
SpellsProximity rest after p =
    SpellsParameters rest after (p.exclusion ∷ p.distance ∷ p.ordered ∷ p.relation ∷ p.which_code ∷ p.unit_code ∷ [])

-- the words between are the operator, which stands at the front, and its parameters
pub record SpellsOperator (rest after : Rest) (word : OperatorWord) (place : ℕ) (connective : ConnectiveValue) : Type 0 where
  pub operator : Word
  pub words : List Word
  pub is : left rest ≡ operator ∷ (words ++ left after)
  pub place_is : place ≡ operator.place
  pub keyword : keyword_of operator ≡ Some (Operator word)
  pub good : list_all is_good words ≡ true
  pub connective_is : connective_of word (map text_of words) ≡ Some connective

-- the words between spell the structure
pub record Spells (rest after : Rest) (tree : TreeValue) : Type 0 where
  pub words : List Word
  pub is : left rest ≡ words ++ left after
  pub spells : IsStructure words tree

-- the words between spell what is the tree under this head
pub record SpellsUnder (rest after : Rest) (head : HeadValue) (tree : TreeValue) : Type 0 where
  pub bare : TreeValue
  pub is_under : tree ≡ under head bare
  pub spelled : Spells rest after bare

-- ---- what a function gives that reads

-- where one of these was due in front of what was read, the next is due behind it, and it was spelled
pub record IsRead (due next : ℕ → Due) (rest after : Rest) (Spelled : Type 0) : Type 0 where
  pub goes : (n : ℕ) → fault_of rest (due n) ≡ fault_of after (next n)
  pub spelled : Spelled

-- something is read from the front of a rest, or the fault is that of its words, where one of these is due
abbrev pub Reads : {A : Type 0} → (due next : ℕ → Due) → Rest → (A → Rest) → (A → Type 0) → Result A QueryFault → Type 0
Reads due next rest after Spelled result = MatchResult result
    (λ read. IsRead due next rest (after read) (Spelled read))
    (λ e. (n : ℕ) → IsFault e (fault_of rest (due n)))

-- one structure, and so many more behind it
abbrev pub more_structures : ℕ → Due
more_structures n = Structures (suc n)

-- a structure is read
abbrev pub ReadsStructure : {A : Type 0} → Rest → (Rest → A → Type 0) → Result (A × Rest) QueryFault → Type 0
ReadsStructure rest Spelled result = Reads more_structures Structures rest (λ read. read.1) (λ read. Spelled read.1 read.0) result

-- of a structure's head something is read
abbrev pub ReadsHead : {A : Type 0} → Rest → (A → Rest) → (A → Type 0) → Result A QueryFault → Type 0
ReadsHead rest after Spelled result = Reads more_structures more_structures rest after Spelled result

-- a whole query of at most 100 operators is read, or its words have a fault
abbrev pub ReadsQuery : ℕ → List Word → Result Query QueryFault → Type 0
ReadsQuery end words result = MatchResult result
    (λ query. IsQuery words (query_value query) × (fault end 100 Start words ≡ None))
    (λ e. IsFault e (fault end 100 Start words))

-- ---- the attributes that hold, one after another

-- what a program keeps of it, without where the texts lie in memory
abbrev pub holding_value : Holding → HoldingValue
holding_value holding = record {
  other_set = option_copied holding.other_set;
  other_kind = holding.other_kind;
  term_type = option_copied holding.term_type;
  use_attribute = option_copied holding.use_attribute;
  relation = option_copied holding.relation;
  position = option_copied holding.position;
  structure = option_copied holding.structure;
  truncation = option_copied holding.truncation;
  completeness = option_copied holding.completeness;
}

-- a set that is named inside of all others, if one is
abbrev pub with_set : HoldingValue → Option (List ℕ) → HoldingValue
with_set holding set = record holding { other_set = or_else holding.other_set (find is_other_set (option_to_list set)) }

-- one more attribute inside of all others
abbrev pub held_with : HoldingValue → AttributeValue → HoldingValue
held_with holding a = record (with_set holding a.set) {
  other_kind = or_else holding.other_kind (if is_other_kind a.kind then Some a.kind else None);
  use_attribute = if a.kind == 1 then Some a.value else holding.use_attribute;
  relation = if a.kind == 2 then Some a.value else holding.relation;
  position = if a.kind == 3 then Some a.value else holding.position;
  structure = if a.kind == 4 then Some a.value else holding.structure;
  truncation = if a.kind == 5 then Some a.value else holding.truncation;
  completeness = if a.kind == 6 then Some a.value else holding.completeness;
}
