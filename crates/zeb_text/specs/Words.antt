-- Words: the maximal runs of letters, marks and numbers (The Unicode Standard, section 4.5, General_Category L, M, N)
-- in the folded text, in order. That these make up words, and that words are joined by one space, are this project's own
-- rules. Texts are lists of code points.
use Rattle.std.specs.Prelude.{◌≡◌, ◌≢◌, ℕ, Bool, true, false, ◌||◌, not, List, [], ◌∷◌, ◌++◌, filter, ⊤}
use Rattle.std.specs.List.{AllPass, join_with_byte, slice_split}
use Rattle.std.specs.Str.{NonePass}
use Rattle.ucd_category.specs.GeneralCategory.{general_category}
use Rattle.ucd_category.specs.GeneralCategoryGroup.{in_group}
use Rattle.ucd_category.specs.declared.GeneralCategoryGroup.TheVariants.{Letter, Mark, Number}
use Rattle.zeb_text.specs.Folding.{folded}

-- a character of General_Category L, M or N
unfoldable pub is_word_character : ℕ → Bool
is_word_character c =
    in_group Letter (general_category c) || in_group Mark (general_category c) || in_group Number (general_category c)

abbrev pub is_not_empty : List ℕ → Bool
is_not_empty [] = false
is_not_empty (c ∷ cs) = true

-- the runs of characters that pass a test: the text cut at every other character, without the empty parts
unfoldable pub runs_of : (ℕ → Bool) → List ℕ → List (List ℕ)
runs_of passes text = filter is_not_empty (slice_split (λ c. not (passes c)) text)

-- the text is nothing, or begins with a character that does not pass
abbrev pub IsCutOff : (ℕ → Bool) → List ℕ → Type 0
IsCutOff passes [] = ⊤
IsCutOff passes (c ∷ rest) = passes c ≡ false

-- The runs are the maximal ones of the text: separators and runs in turn, where a run has a character and only such that
-- pass, a separator has none that passes, and one stands between each two runs.
abbrev pub AreRuns : (ℕ → Bool) → List ℕ → List (List ℕ) → Type 0
AreRuns passes text [] = NonePass passes text
AreRuns passes text (run ∷ runs) = (gap rest : List ℕ) × (text ≡ gap ++ (run ++ rest))
    × NonePass passes gap × (run ≢ []) × AllPass passes run × IsCutOff passes rest × AreRuns passes rest runs

-- the runs of characters of General_Category L, M or N in the folded text
abbrev pub words_of : List ℕ → List (List ℕ)
words_of text = runs_of is_word_character (folded text)

-- Words joined: one space (32) between each two; of none, the empty text. The words are characters or UTF-8, where a space
-- is one byte.
abbrev pub joined_text : List (List ℕ) → List ℕ
joined_text words = join_with_byte 32 words
