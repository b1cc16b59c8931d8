-- Zebra manual, "The Abstract Syntax (.abs) Files" and "The Attribute Set (.att) Files": a profile is a text of lines, one directive on each.
-- The lines of a text, numbered from 1, without the blanks at their ends; the lines that say something; the
-- words of a line. Own rule of this project: blanks are space and tab alone.
use Rattle.std.specs.Prelude.{ℕ, ◌-◌, Bool, ◌||◌, not, List, length, take, drop, ◌==◌, nat_lt, slice_index, filter}
use Rattle.std.specs.List.{suffix_len, position_or_len, slice_split}

-- a space or a tab
abbrev pub is_blank : ℕ → Bool
is_blank byte = (byte == 32) || (byte == 9)

-- a byte that is no space and no tab
abbrev pub is_no_blank : ℕ → Bool
is_no_blank byte = not (is_blank byte)

abbrev pub without_leading_blanks : List ℕ → List ℕ
without_leading_blanks text = drop (position_or_len is_no_blank text) text

abbrev pub without_trailing_blanks : List ℕ → List ℕ
without_trailing_blanks text = take (length text - suffix_len is_blank text) text

-- a text without the blanks at its ends
abbrev pub trimmed : List ℕ → List ℕ
trimmed text = without_trailing_blanks (without_leading_blanks text)

-- the maximal runs of bytes that are no blanks
abbrev pub words_of : List ℕ → List (List ℕ)
words_of text = filter (λ word. nat_lt 0 (length word)) (slice_split is_blank text)

-- what follows the first word
abbrev pub after_word : List ℕ → List ℕ
after_word text = let start = without_leading_blanks text in drop (position_or_len is_blank start) start

-- an empty line, and one that begins with the number sign (35), say nothing
abbrev pub says_something : List ℕ → Bool
says_something line = not ((length line == 0) || (slice_index line 0 == 35))
