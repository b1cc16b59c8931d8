-- Numbers in a text: the maximal runs of ASCII digits, in order, of at most 18 digits; a longer run is passed over as a
-- whole. The key of a number is its decimal numeral with leading zeros to 18 digits. Both are this project's own rules.
use Rattle.std.specs.Prelude.{ℕ, ◌-◌, List, ◌++◌, filter, length, map, nat_le, replicate, decimal}
use Rattle.std.specs.Char.{is_ascii_digit}
use Rattle.std.specs.Str.Parse.{digits_value}
use Rattle.zeb_text.specs.Words.{runs_of}

-- the runs of digits that are short enough to be kept
unfoldable pub numerals_of : List ℕ → List (List ℕ)
numerals_of text = filter (λ digits. nat_le (length digits) 18) (runs_of is_ascii_digit text)

-- the numbers of a text
abbrev pub numbers_of : List ℕ → List ℕ
numbers_of text = map (digits_value 10) (numerals_of text)

-- a number's decimal numeral with leading zeros to 18 digits
unfoldable pub number_key : ℕ → List ℕ
number_key number = replicate (18 - length (decimal number)) 48 ++ decimal number
