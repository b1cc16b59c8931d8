-- Zebra manual, "The Abstract Syntax (.abs) Files", `melm` and `all`, and "The Attribute Set (.att) Files", `att`: the directives
-- of a profile, one on a line. `store` names the file of
-- the register; `identifier` says where a record's identifier stands; `att` ties a use attribute to an index; `melm` gives the targets
-- of a field or subfield; `all` gives targets of every unit of a data field.
-- Own rules of this project, which the manual leaves open or has otherwise: the directives `store` and `identifier`; what `all` takes;
-- that one text has them all; and which fault a line has: how many words there are is asked first, and then they from left to right.
use Rattle.std.specs.Prelude.{ℕ, List, [], ◌∷◌, codes, Option, Some, None, Result, Ok, Err, if◌then◌else◌, ok_or, bytes_eq}
use Rattle.zeb_profile.specs.Cited.{Directive, Store, Identifier, Att, Melm, All, ProfileFaultKind}
use Rattle.zeb_profile.specs.declared.faults.ProfileFaultKind.TheVariants.{Directive as FaultyDirective}
use Rattle.zeb_profile.specs.Lines.{words_of, after_word, trimmed}
use Rattle.zeb_profile.specs.Outcomes.{◌>>=◌}
use Rattle.zeb_profile.specs.Words.{pattern_of, number_of, name_of, targets_of}

abbrev pub one_word : List (List ℕ) → Option (List ℕ)
one_word (word ∷ []) = Some word
one_word _ = None

abbrev pub two_words : List (List ℕ) → Option (List ℕ × List ℕ)
two_words (first ∷ second ∷ []) = Some (first, second)
two_words _ = None

-- PATH is the rest of the line, and there is at least one word of it
abbrev pub store_of : List (List ℕ) → List ℕ → Result Directive ProfileFaultKind
store_of [] rest = Err FaultyDirective
store_of (_ ∷ _) rest = Ok (Store rest)

abbrev pub identifier_of : List (List ℕ) → Result Directive ProfileFaultKind
identifier_of words = do
  word ← ok_or (one_word words) FaultyDirective
  pattern ← pattern_of word
  Ok (Identifier pattern)

abbrev pub att_of : List (List ℕ) → Result Directive ProfileFaultKind
att_of words = do
  both ← ok_or (two_words words) FaultyDirective
  number ← number_of both.0
  name ← name_of both.1
  Ok (Att number name)

abbrev pub melm_of : List (List ℕ) → Result Directive ProfileFaultKind
melm_of words = do
  both ← ok_or (two_words words) FaultyDirective
  pattern ← pattern_of both.0
  targets ← targets_of both.1
  Ok (Melm pattern targets)

abbrev pub all_of : List (List ℕ) → Result Directive ProfileFaultKind
all_of words = do
  word ← ok_or (one_word words) FaultyDirective
  targets ← targets_of word
  Ok (All targets)

-- the first word says which directive it is, the others are its own; `rest` is what follows the first word
abbrev pub directive_from : List (List ℕ) → List ℕ → Result Directive ProfileFaultKind
directive_from [] rest = Err FaultyDirective
directive_from (keyword ∷ words) rest =
    if bytes_eq keyword (codes "store") then store_of words rest
    else (if bytes_eq keyword (codes "identifier") then identifier_of words
    else (if bytes_eq keyword (codes "att") then att_of words
    else (if bytes_eq keyword (codes "melm") then melm_of words
    else (if bytes_eq keyword (codes "all") then all_of words
    else Err FaultyDirective))))

-- what a line read alone says, or its fault: how many words it has is asked first, and then they from left to right
abbrev pub directive_of : List ℕ → Result Directive ProfileFaultKind
directive_of line = directive_from (words_of line) (trimmed (after_word line))
