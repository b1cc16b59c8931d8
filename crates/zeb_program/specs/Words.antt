-- Words of a line (the Zebra manual's configuration files): they are separated by blanks, which are space and tab.
use Rattle.std.specs.Prelude.{ℕ, Bool, List, [], ◌∷◌, length, take, drop, ◌-◌}
use Rattle.std.specs.Char.{char_set_contains}
use Rattle.std.specs.List.{prefix_len, suffix_len, before_first, after_first}

abbrev pub is_blank : ℕ → Bool
is_blank byte = char_set_contains (32 ∷ 9 ∷ []) byte

-- a text without the blanks at its beginning
abbrev pub without_leading : List ℕ → List ℕ
without_leading text = drop (prefix_len is_blank text) text

-- a text without the blanks at its end
abbrev pub without_trailing : List ℕ → List ℕ
without_trailing text = take (length text - suffix_len is_blank text) text

-- a text without the blanks at both its ends
abbrev pub without_blanks : List ℕ → List ℕ
without_blanks text = without_trailing (without_leading text)

-- what stands before the first blank of a text
abbrev pub first_word : List ℕ → List ℕ
first_word text = before_first is_blank text

-- what stands after the blanks that follow the first word
abbrev pub after_first_word : List ℕ → List ℕ
after_first_word text = without_leading (after_first is_blank text)
