-- The patterns of a search term (Z39.50, Bib-1 attribute type 5, truncation): its words, with stars where it is cut. That a term is
-- cut into words before, that under Hash a `#` belongs to a word, and that patterns are joined by one space, are this project's
-- own rules.
use Rattle.std.specs.Prelude.{ℕ, Bool, ◌||◌, ◌==◌, List, [], ◌∷◌, ◌++◌, map, if◌then◌else◌}
use Rattle.zeb_text.specs.declared.truncation.Cut.{Cut}
use Rattle.zeb_text.specs.declared.truncation.Cut.TheVariants.{None, Right, Left, Both, Hash}
use Rattle.zeb_text.specs.declared.truncation.Spread.{Spread}
use Rattle.zeb_text.specs.declared.truncation.Spread.TheVariants.{Ends, Each}
use Rattle.zeb_text.specs.Folding.{folded}
use Rattle.zeb_text.specs.Words.{is_word_character, runs_of}
use Rattle.zeb_text.specs.Symbols.{Symbol, Char, Star}

-- a character of a word; under Hash a `#` is one too
abbrev pub belongs_to_word : Cut → ℕ → Bool
belongs_to_word Hash c = is_word_character c || (c == 35)
belongs_to_word _ c = is_word_character c

-- a word's character in a pattern; under Hash a `#` is a star
abbrev pub symbol_of : Cut → ℕ → Symbol
symbol_of Hash c = if c == 35 then Star else Char c
symbol_of _ c = Char c

-- a star before the first pattern, and after the last
abbrev pub star_before_first : List (List Symbol) → List (List Symbol)
star_before_first [] = []
star_before_first (pattern ∷ patterns) = (Star ∷ pattern) ∷ patterns

abbrev pub star_after_last : List (List Symbol) → List (List Symbol)
star_after_last [] = []
star_after_last (pattern ∷ []) = (pattern ++ Star ∷ []) ∷ []
star_after_last (pattern ∷ next ∷ patterns) = pattern ∷ star_after_last (next ∷ patterns)

-- the patterns with the stars that a term is cut by
unfoldable pub truncated : Cut → Spread → List (List Symbol) → List (List Symbol)
truncated Right Ends patterns = star_after_last patterns
truncated Left Ends patterns = star_before_first patterns
truncated Both Ends patterns = star_before_first (star_after_last patterns)
truncated Right Each patterns = map (λ pattern. pattern ++ Star ∷ []) patterns
truncated Left Each patterns = map (λ pattern. Star ∷ pattern) patterns
truncated Both Each patterns = map (λ pattern. Star ∷ (pattern ++ Star ∷ [])) patterns
truncated None spread patterns = patterns
truncated Hash spread patterns = patterns

-- a term's words as patterns, with the stars that its truncation puts
abbrev pub patterns_of : Cut → Spread → List ℕ → List (List Symbol)
patterns_of cut spread term =
    truncated cut spread (map (map (symbol_of cut)) (runs_of (belongs_to_word cut) (folded term)))

-- patterns with one space between each two
abbrev pub joined_patterns : List (List Symbol) → List Symbol
joined_patterns [] = []
joined_patterns (pattern ∷ []) = pattern
joined_patterns (pattern ∷ next ∷ patterns) = pattern ++ Char 32 ∷ joined_patterns (next ∷ patterns)
