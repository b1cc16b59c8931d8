-- What a pattern is made of.
use Rattle.std.specs.Prelude.{ℕ, List, [], ◌∷◌, ◌++◌, String, map, chars, string_bytes}

-- a character, or a star
pub data Symbol : Type 0 where
  Char : ℕ → Symbol
  Star : Symbol

-- a text without stars, as a pattern
abbrev pub literal : List ℕ → List Symbol
literal text = map Char text

-- texts that each have a star after them, and a last one
abbrev pub starred : List (List ℕ) → List ℕ → List Symbol
starred [] last = literal last
starred (text ∷ texts) last = literal text ++ Star ∷ starred texts last

-- the characters of each text
abbrev pub texts_of : {A : Type 0} → List (String A) → List (List ℕ)
texts_of texts = map (λ text. chars (string_bytes text)) texts
