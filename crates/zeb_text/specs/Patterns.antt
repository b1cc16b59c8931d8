-- Patterns (Z39.50, Bib-1 truncation attributes): texts in which stars may stand; a star stands for any text, the empty
-- one too. Texts are lists of code points.
use Rattle.std.specs.Prelude.{◌≡◌, ℕ, List, [], ◌∷◌, ◌++◌}
use Rattle.zeb_text.specs.Symbols.{Symbol, Char, Star}

-- the text is the pattern with some text in place of each star
abbrev pub Matches : List Symbol → List ℕ → Type 0
Matches [] text = text ≡ []
Matches (Char c ∷ pattern) text = (rest : List ℕ) × (text ≡ c ∷ rest) × Matches pattern rest
Matches (Star ∷ pattern) text = (gap rest : List ℕ) × (text ≡ gap ++ rest) × Matches pattern rest
