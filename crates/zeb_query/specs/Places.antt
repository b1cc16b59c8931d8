-- Which texts are read, and where the fault of another stands. All of it is this project's own rule, also the limits, and which
-- fault has which number of the list of diagnostics Bib-1 (ANSI/NISO Z39.50-2003, Appendix ERR): 108 where no query goes on, 6 for
-- an operator too many, 11 for a text too long.
-- The words of a text go from the left for as long as some query with no more operators than there is room for begins with
-- them. At the first word that none has, 6 stands where there are queries that begin so, each with more operators, and 108
-- where there is no query.
use Rattle.std.specs.Prelude.{List, Some, [], chars, length, slice_get, string_bytes, ℕ, ◌++◌, ◌<◌, ◌∷◌, ◌≡◌, ◌≤◌, ◌⊎◌}
use Rattle.zeb_query.specs.Cited.{QueryFault, Diagnostic, Memory, OperatorWord}
use Rattle.zeb_query.specs.declared.keywords.Keyword.TheVariants.{Operator}
use Rattle.zeb_query.specs.Words.{AreWords, Word}
use Rattle.zeb_query.specs.Grammar.{IsQuery, NamedValue, PairValue, QueryValue, SpellsQuery, TermValue, TreeValue, keyword_of}

-- ---- beginnings of queries

-- the places of a query's operators, in the order of the text
abbrev pub operators : TreeValue → List ℕ
operators (PairValue place head connective left right) = place ∷ (operators left ++ operators right)
operators (TermValue place head text) = []
operators (NamedValue place head name) = []

-- some query begins with the words
abbrev pub IsBeginning : List Word → Type 0
IsBeginning words = (more : List Word) × ((query : QueryValue) × IsQuery (words ++ more) query)

-- the words spell a query with at most so many operators
abbrev pub IsQueryWithin : ℕ → List Word → Type 0
IsQueryWithin room words = (query : QueryValue) × (IsQuery words query × (length (operators query.tree) ≤ room))

-- some query with at most so many operators begins with the words
abbrev pub IsBeginningWithin : ℕ → List Word → Type 0
IsBeginningWithin room words = (more : List Word) × IsQueryWithin room (words ++ more)

-- ---- places of faults

-- the place of the first word that no query has behind the words before it; some query within the limit on operators begins with these
pub record IsStrange (room : ℕ) (words : List Word) (place : ℕ) : Type 0 where
  pub front : List Word
  pub word : Word
  pub more : List Word
  pub is : words ≡ front ++ word ∷ more
  pub place_is : place ≡ word.place
  pub begins : IsBeginningWithin room front
  pub strange : ¬ IsBeginning (front ++ word ∷ [])

-- the text's end, where some query within the limit on operators begins with all its words, and they are no query themselves
pub record IsUnfinished (end room : ℕ) (words : List Word) (place : ℕ) : Type 0 where
  pub place_is : place ≡ end
  pub begins : IsBeginningWithin room words
  pub unfinished : (query : QueryValue) → ¬ IsQuery words query

-- the place of diagnostic 108: that of a word with which no query goes on (`IsStrange`), or the end of a text that is
-- only the beginning of a query (`IsUnfinished`)
abbrev pub IsUnspelled : ℕ → ℕ → List Word → ℕ → Type 0
IsUnspelled end room words place = IsStrange room words place ⊎ IsUnfinished end room words place

-- the place of diagnostic 6, that of an operator: some query within the limit on operators begins with the words
-- before it, some query begins with these and the operator, and in each that does just as many operators stand before
-- this one as the limit allows
pub record IsCrowded (room : ℕ) (words : List Word) (place : ℕ) : Type 0 where
  pub front : List Word
  pub word : Word
  pub more : List Word
  pub is : words ≡ front ++ word ∷ more
  pub place_is : place ≡ word.place
  pub operator : (operator : OperatorWord) × (keyword_of word ≡ Some (Operator operator))
  pub fits : IsBeginningWithin room front
  pub begins : IsBeginning (front ++ word ∷ [])
  pub crowded : (rest : List Word) (query : QueryValue) → IsQuery (front ++ word ∷ rest) query → slice_get (operators query.tree) room ≡ Some place

-- ---- what a text is

-- the text spells a query of at most 100 operators, in at most 65,535 bytes
pub record IsReadable (text : List ℕ) : Type 0 where
  pub short : length text ≤ 65535
  pub query : QueryValue
  pub spelled : SpellsQuery text query
  pub room : length (operators query.tree) ≤ 100

-- the text has this diagnostic at this place: 11, at 0, where it has more than 65,535 bytes; else 108 (`IsUnspelled`)
-- or 6 (`IsCrowded`), where at most 100 operators are allowed
pub data IsFaulty (text : List ℕ) : ℕ → ℕ → Type 0 where
  is_long : 65535 < length text → IsFaulty text 11 0
  is_unspelled : (words : List Word) (place : ℕ) → length text ≤ 65535 → AreWords (chars text) words
      → IsUnspelled (length text) 100 words place → IsFaulty text 108 place
  is_crowded : (words : List Word) (place : ℕ) → length text ≤ 65535 → AreWords (chars text) words
      → IsCrowded 100 words place → IsFaulty text 6 place

-- the error is the text's fault with its place, and without an addinfo; or want of memory
abbrev pub IsFaultOf : QueryFault → List ℕ → Type 0
IsFaultOf Memory text = Unit {0}
IsFaultOf (Diagnostic number place addinfo) text = IsFaulty text number place × (string_bytes addinfo ≡ [])
