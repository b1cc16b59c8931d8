-- The words of a query's text (YAZ manual, Prefix Query Format), said of the whole text: blanks and words stand in it in
-- turn. A word's place is the number of bytes of UTF-8 that stand before it. Texts are lists of code points, and the text
-- of a word is in UTF-8.
-- Own rules of this project, which the manual leaves open or has otherwise: what is blank, how words are quoted and escaped, where a
-- quoted word ends, and that a word which begins with `{`, by which the manual quotes, is bad, as is a quoted one without end.
use Rattle.zeb_query.specs.Cited.{AllPass, Spelling, Bad, Plain, Quoted}
use Rattle.std.specs.Prelude.{Bool, List, [], encode_utf8_all, length, map, not, true, ℕ, ⊤, ◌++◌, ◌==◌, ◌∷◌, ◌≡◌, ◌≢◌, ◌⊎◌, ◌||◌, flat_map}
use Rattle.std.specs.Str.{NonePass}

-- a word of a text: its place, whether it is plain, quoted or bad, and its text
pub record Word : Type 0 where
  pub place : ℕ
  pub spelling : Spelling
  pub text : List ℕ

-- space, tab, CR and LF
abbrev pub is_blank : ℕ → Bool
is_blank c = c == 32 || (c == 9 || (c == 13 || c == 10))

-- what stands for one character between quotes: that character, or a backslash and that character
pub data Sign : Type 0 where
  Itself : ℕ → Sign
  Escaped : ℕ → Sign

-- the characters of a sign; 92 is the backslash
abbrev pub sign_text : Sign → List ℕ
sign_text (Itself c) = c ∷ []
sign_text (Escaped c) = 92 ∷ c ∷ []

-- the character that a sign stands for
abbrev pub meant : Sign → ℕ
meant (Itself c) = c
meant (Escaped c) = c

-- 34 is the double quote: a quote and a backslash stand for themselves after a backslash alone
abbrev pub is_sign : Sign → Bool
is_sign (Itself c) = not (c == 34 || c == 92)
is_sign (Escaped c) = true

-- the text is at its end, or goes on with a blank
abbrev pub IsCutOff : List ℕ → Type 0
IsCutOff [] = ⊤
IsCutOff (c ∷ rest) = is_blank c ≡ true

-- The characters are a word of this spelling and this text, where the rest follows them. An unquoted word goes to the next
-- blank or the end, and any character but a quote may begin it, `{` (123) a bad one. A quoted word goes to its closing quote,
-- whatever follows that. Without a closing quote it is bad and goes to the end; a backslash after which nothing stands
-- means nothing.
pub data IsWritten : List ℕ → List ℕ → Spelling → List ℕ → Type 0 where
  is_plain : (c : ℕ) (cs rest : List ℕ) → c ≢ 34 → c ≢ 123 → NonePass is_blank (c ∷ cs) → IsCutOff rest
      → IsWritten (c ∷ cs) rest Plain (encode_utf8_all (c ∷ cs))
  is_braced : (cs rest : List ℕ) → NonePass is_blank cs → IsCutOff rest
      → IsWritten (123 ∷ cs) rest Bad (encode_utf8_all (123 ∷ cs))
  is_quoted : (signs : List Sign) (rest : List ℕ) → AllPass is_sign signs
      → IsWritten (34 ∷ (flat_map sign_text signs ++ 34 ∷ [])) rest Quoted (encode_utf8_all (map meant signs))
  is_open : (signs : List Sign) (last : List ℕ) → AllPass is_sign signs → (last ≡ []) ⊎ (last ≡ 92 ∷ [])
      → IsWritten (34 ∷ (flat_map sign_text signs ++ last)) [] Bad (encode_utf8_all (map meant signs))

-- a stretch of a text: blanks, or none, and the characters of a word
pub record Stretch : Type 0 where
  pub blanks : List ℕ
  pub written : List ℕ
  pub word : Word

abbrev pub stretch_text : Stretch → List ℕ
stretch_text stretch = stretch.blanks ++ stretch.written

abbrev pub stretch_word : Stretch → Word
stretch_word stretch = stretch.word

-- a stretch of a text between what stands before it and what stands after it
pub record IsStretch (before : List ℕ) (stretch : Stretch) (after : List ℕ) : Type 0 where
  pub blank : AllPass is_blank stretch.blanks
  pub place : stretch.word.place ≡ length (encode_utf8_all (before ++ stretch.blanks))
  pub is_written : IsWritten stretch.written after stretch.word.spelling stretch.word.text

-- the text is blanks, or none, and words in turn, and blanks, or none, at the end; each word is written as it must be
-- before what follows it, and its place is the number of bytes of UTF-8 before it
pub record AreWords (text : List ℕ) (words : List Word) : Type 0 where
  pub stretches : List Stretch
  pub blanks : List ℕ
  pub text_is : text ≡ flat_map stretch_text stretches ++ blanks
  pub words_are : words ≡ map stretch_word stretches
  pub blank : AllPass is_blank blanks
  pub each : (before after : List Stretch) (stretch : Stretch) → stretches ≡ before ++ stretch ∷ after
      → IsStretch (flat_map stretch_text before) stretch (flat_map stretch_text after ++ blanks)
