-- What is told below a diagnostic: its meaning, and its place in the query (ANSI/NISO Z39.50-2003, Appendix ERR, diagnostic set Bib-1).
use Rattle.std.specs.Prelude.{◌==◌, ◌||◌, ℕ, Bool, not, List, [], ◌∷◌, ◌++◌, Option, None, Some, codes, if◌then◌else◌}
use Rattle.std.specs.Fmt.{decimal}
use Rattle.std.specs.Option.{option_map_or}

-- the diagnostics that commands have, each with its meaning in the words of Bib-1
abbrev pub meanings : List (ℕ × List ℕ)
meanings =
    (5, codes "too many argument words") ∷ (6, codes "too many Boolean operators") ∷ (11, codes "too many characters in search statement")
    ∷ (13, codes "present request out of range") ∷ (18, codes "result set not supported as a search term") ∷ (108, codes "malformed query")
    ∷ (110, codes "operator unsupported") ∷ (113, codes "unsupported attribute type") ∷ (114, codes "unsupported use attribute")
    ∷ (116, codes "use attribute required but not supplied") ∷ (117, codes "unsupported relation attribute") ∷ (118, codes "unsupported structure attribute")
    ∷ (119, codes "unsupported position attribute") ∷ (120, codes "unsupported truncation attribute") ∷ (121, codes "unsupported attribute set")
    ∷ (122, codes "unsupported completeness attribute") ∷ (123, codes "unsupported attribute combination") ∷ (126, codes "illegal term value for attribute")
    ∷ (229, codes "term type not supported") ∷ (235, codes "database does not exist") ∷ []

-- what the first row with this number has
abbrev pub row_of : ℕ → List (ℕ × List ℕ) → Option (List ℕ)
row_of number [] = None
row_of number (row ∷ rows) = if number == row.0 then Some row.1 else row_of number rows

-- the meaning of the diagnostic that has this number
abbrev pub meaning_of : ℕ → Option (List ℕ)
meaning_of number = row_of number meanings

-- it is about a place in the query, and not about it as a whole, its hits or its database
abbrev pub is_placed : ℕ → Bool
is_placed number = not (number == 11 || number == 13 || number == 235)

-- the place, where the diagnostic of this number has one
abbrev pub place_words : ℕ → ℕ → List ℕ
place_words number place = if is_placed number then codes ", at byte " ++ decimal place ++ codes " of the query" else []

-- the line of the meaning of a diagnostic, with its place; none of a number that no command has
abbrev pub meaning_lines : ℕ → ℕ → List ℕ
meaning_lines number place = option_map_or (λ meaning. codes "zebraidx: cause: " ++ meaning ++ place_words number place ++ 10 ∷ []) (meaning_of number) []
