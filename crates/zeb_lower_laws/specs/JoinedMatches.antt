-- Texts that patterns match, each at its place (Z39.50, Bib-1 truncation attributes; that patterns are joined is this project's own rule).
use Rattle.std.specs.Prelude.{◌≡◌, ℕ, List, [], ◌∷◌}
use Rattle.zeb_text.specs.Symbols.{Symbol}
use Rattle.zeb_text.specs.Patterns.{Matches}

-- as many texts as patterns, each text matched by the pattern at its place
abbrev pub MatchEach : List (List Symbol) → List (List ℕ) → Type 0
MatchEach [] texts = texts ≡ []
MatchEach (pattern ∷ patterns) texts =
    (text : List ℕ) × (rest : List (List ℕ)) × (texts ≡ text ∷ rest) × Matches pattern text × MatchEach patterns rest
