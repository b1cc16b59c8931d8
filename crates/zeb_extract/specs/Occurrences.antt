-- The occurrences of a record, by the Zebra manual ("melm", and the register types `w`, `p` and `n`): each unit adds terms
-- to the registers that are its targets, and each term has a number there. A word register has the words of the unit, a
-- phrase register the words joined by one space, where there is a word, and a number register the keys of the numbers.
-- A unit's bytes are read as UTF-8, with U+FFFD where they are not (The Unicode Standard, section 3.9).
-- This project's own rules: what words, joined words, numbers and keys are (see zeb_text), and that a unit is the text that is cut;
-- that terms are numbered from 1 in each unit, and a phrase stands at 1; that bytes are read as UTF-8, whatever the leader says of
-- them; and that what two targets or two lines add alike is there once.
use Rattle.std.specs.Prelude.{◌≡◌, ℕ, List, [], ◌∷◌, map, chars, encode_utf8_all, Option, Contains}
use Rattle.zeb_extract.specs.Cited.{enumerate_from, utf8_lossy, UnitText, Register, Occurrence}
use Rattle.zeb_text.specs.Words.{joined_text, words_of}
use Rattle.zeb_text.specs.Numbers.{numbers_of, number_key}
use Rattle.zeb_keys.specs.declared.registers.Register.TheVariants.{Word, Phrase, Number}

-- bytes read as UTF-8, with U+FFFD where they are not (the Unicode Standard)
abbrev pub text_of : List ℕ → List ℕ
text_of bytes = chars (utf8_lossy bytes)

-- the words of a text, as UTF-8
abbrev pub word_terms : List ℕ → List (List ℕ)
word_terms text = map encode_utf8_all (words_of text)

-- the joined words, where there is a word
abbrev pub joined : List (List ℕ) → List (List ℕ)
joined [] = []
joined (word ∷ words) = joined_text (word ∷ words) ∷ []

-- what a text adds to a register of words, of phrases or of numbers: its words; these joined by one space, where there
-- is a word; the keys of its numbers
abbrev pub terms_of : Register → List ℕ → List (List ℕ)
terms_of Word text = word_terms text
terms_of Phrase text = joined (word_terms text)
terms_of Number text = map number_key (numbers_of text)

-- the targets of a unit with this tag and code: pairs of an index and a register
abbrev pub Targets : Type 0
Targets = List ℕ → Option ℕ → List (ℕ × Register)

-- some unit of the record has the occurrence's index and register as a target, and adds its term there, at its number
-- counted from 1
pub record IsOccurrence (targets : Targets) (units : List UnitText) (o : Occurrence) : Type 0 where
  pub unit : UnitText
  pub in_record : Contains units unit
  pub same_seq : o.seq ≡ unit.seq
  pub in_target : Contains (targets unit.tag unit.code) (o.key.index, o.key.register)
  pub in_unit : Contains (enumerate_from 1 (terms_of o.key.register (text_of unit.text))) (o.pos, o.key.term)
