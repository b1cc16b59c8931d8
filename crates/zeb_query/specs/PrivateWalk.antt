-- What only the contracts of private functions speak of; no public clause reaches it.
-- The words of a text and its fault as the functions that read it find them, from the left one after another. What is found
-- is proved to be just what `AreWords` and `IsFaulty` say.
use Rattle.zeb_query.specs.Cited.{len_utf8, is_some, Keyword, OperatorWord, And, Not, Or, Proximity, Spelling, Bad, Plain, Quoted}
use Rattle.zeb_query.specs.declared.keywords.Keyword.TheVariants.{Attribute, AttributeSet, Operator, ResultSet, TermType}
use Rattle.std.specs.Prelude.{Bool, List, None, Option, Some, [], encode_utf8, false, if◌then◌else◌, suc, true, zero, ℕ, ◌++◌, ◌+◌, ◌==◌, ◌∷◌}
use Rattle.zeb_query.specs.Words.{Word, is_blank}
use Rattle.zeb_query.specs.Grammar.{has_equals, is_good, keyword_of, kind_and_value}

-- ---- words

-- how an unquoted word of this text is spelled; 123 is `{`
abbrev pub unquoted : List ℕ → Spelling
unquoted [] = Plain
unquoted (b ∷ bs) = if b == 123 then Bad else Plain

-- the rest of a word that has begun, whether a quote ends it, and the words after it
pub record Begun : Type 0 where
  pub text : List ℕ
  pub ended : Bool
  pub words : List Word

abbrev pub plain_word : ℕ → Begun → List Word
plain_word place word = record { place = place; spelling = unquoted word.text; text = word.text } ∷ word.words

abbrev pub quoted_word : ℕ → Begun → List Word
quoted_word place word = record { place = place; spelling = if word.ended then Quoted else Bad; text = word.text } ∷ word.words

-- a word with more text in front
abbrev pub with_front : List ℕ → Begun → Begun
with_front front word = record word { text = front ++ word.text }

-- 34 is the double quote, 92 the backslash
abbrev mutual
  -- the words of a text that begins at a place
  pub words_at : ℕ → List ℕ → List Word
  words_at at [] = []
  words_at at (c ∷ cs) =
      if is_blank c then words_at (at + len_utf8 c) cs else (
      if c == 34 then quoted_word at (in_quotes (at + len_utf8 c) cs) else
      plain_word at (with_front (encode_utf8 c) (in_word (at + len_utf8 c) cs)))

  pub in_word : ℕ → List ℕ → Begun
  in_word at [] = record { text = []; ended = false; words = [] }
  in_word at (c ∷ cs) =
      if is_blank c then record { text = []; ended = false; words = words_at (at + len_utf8 c) cs } else
      with_front (encode_utf8 c) (in_word (at + len_utf8 c) cs)

  pub in_quotes : ℕ → List ℕ → Begun
  in_quotes at [] = record { text = []; ended = false; words = [] }
  in_quotes at (c ∷ cs) =
      if c == 34 then record { text = []; ended = true; words = words_at (at + len_utf8 c) cs } else (
      if c == 92 then escaped (at + len_utf8 c) cs else
      with_front (encode_utf8 c) (in_quotes (at + len_utf8 c) cs))

  pub escaped : ℕ → List ℕ → Begun
  escaped at [] = record { text = []; ended = false; words = [] }
  escaped at (c ∷ cs) = with_front (encode_utf8 c) (in_quotes (at + len_utf8 c) cs)

-- ---- the fault

-- The grammar needs no look ahead: each word is allowed or not by what is due at it. A fault is a diagnostic's number and
-- place: 108 at the first word that isn't allowed, or at the text's end where something is still due; 6 at an operator beyond
-- those that there is room for, where a structure is due.

-- what is due: a query; so many structures; a SET or a SPEC, or a SPEC, then a structure and n more; k + 1 words and then so
-- many structures
pub data Due : Type 0 where
  Start : Due
  Structures : ℕ → Due
  SetOrSpec : ℕ → Due
  Spec : ℕ → Due
  MoreWords : ℕ → ℕ → Due

-- a word is allowed, and then there is room for so many operators and this is due; or it is refused by a diagnostic
pub data Step : Type 0 where
  Allowed : ℕ → Due → Step
  Refused : ℕ → Step

abbrev pub words_then : ℕ → ℕ → Due
words_then zero n = Structures n
words_then (suc k) n = MoreWords k n

-- how many parameters an operator has
abbrev pub parameter_count : OperatorWord → ℕ
parameter_count word = elim word [ And ↦ 0 | Or ↦ 0 | Not ↦ 0 | Proximity ↦ 6 ]

abbrev pub operator_step : ℕ → OperatorWord → ℕ → Step
operator_step zero connective n = Refused 6
operator_step (suc room) connective n = Allowed room (words_then (parameter_count connective) (suc (suc n)))

-- the first word of a structure, n of which are due after it
abbrev pub structure_step : ℕ → Option Keyword → ℕ → Step
structure_step room None n = Allowed room (Structures n)
structure_step room (Some AttributeSet) n = Refused 108
structure_step room (Some Attribute) n = Allowed room (SetOrSpec n)
structure_step room (Some TermType) n = Allowed room (MoreWords 0 (suc n))
structure_step room (Some ResultSet) n = Allowed room (MoreWords 0 n)
structure_step room (Some (Operator connective)) n = operator_step room connective n

abbrev pub start_step : ℕ → Option Keyword → Step
start_step room (Some AttributeSet) = Allowed room (MoreWords 0 1)
start_step room keyword = structure_step room keyword 0

abbrev pub spec_step : ℕ → List ℕ → ℕ → Step
spec_step room text n = if is_some (kind_and_value text) then Allowed room (Structures (suc n)) else Refused 108

abbrev pub good_step : ℕ → Word → Due → Step
good_step room word Start = start_step room (keyword_of word)
good_step room word (Structures zero) = Refused 108
good_step room word (Structures (suc n)) = structure_step room (keyword_of word) n
good_step room word (SetOrSpec n) = if has_equals word.text then spec_step room word.text n else Allowed room (Spec n)
good_step room word (Spec n) = spec_step room word.text n
good_step room word (MoreWords k n) = Allowed room (words_then k n)

abbrev pub step : ℕ → Word → Due → Step
step room word due = if is_good word then good_step room word due else Refused 108

abbrev pub fault_at_end : ℕ → Due → Option (ℕ × ℕ)
fault_at_end end (Structures zero) = None
fault_at_end end due = Some (108, end)

-- the fault of the words, where there is room for so many operators and this is due, in a text of `end` bytes
abbrev pub fault : ℕ → ℕ → Due → List Word → Option (ℕ × ℕ)
fault end room due [] = fault_at_end end due
fault end room due (word ∷ words) =
    elim (step room word due) [
      | Allowed room_left due_next ↦ fault end room_left due_next words
      | Refused number ↦ Some (number, word.place)
    ]
