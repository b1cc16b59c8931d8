-- The leader, by ISO 2709 ("Record label") and the MARC 21 Specifications for Record Structure ("Leader"): twenty-four
-- bytes at fixed positions from 0. 00-04 is the record's length and 12-16 the base address of data, each of five ASCII
-- digits. 10 and 11 count the bytes of indicators and of a subfield's code, and 20 to 22 the digits of a directory
-- entry's parts: they are `2`, `2`, `4`, `5` and `0`, and a byte there that is no digit is read as that value.
-- A check is a fact that a record has to meet, with the fault of bytes that don't; the first that fails counts.
-- This project's own rules: that other bytes than digits are taken there, that the other positions are not looked at, which
-- fault a check has, and the order of the checks.
use Rattle.std.specs.Prelude.{ℕ, ◌-◌, ◌%◌, Bool, not, ◌&&◌, ◌||◌, List, [], ◌∷◌, ◌++◌, length, take, Option, Some, None, nat_lt, nat_le, ◌==◌, if◌then◌else◌, slice_index, slice_range}
use Rattle.zeb_marc.specs.Cited.{list_all, is_ascii_digit, MarcFault, LengthDigits, LengthRange, Truncated, NoTerminator, LeaderCounts, BaseAddress, DirectoryLength}
use Rattle.std.specs.Str.Parse.{digits_value}

-- ---- checks

-- a fact that a record has to meet, with the fault of bytes that don't
pub record Check : Type 0 where
  pub passes : Bool
  pub fault : MarcFault

abbrev pub check : Bool → MarcFault → Check
check passes fault = record { passes = passes; fault = fault }

-- the fault of the first check in a list that fails
abbrev pub first_failing : List Check → Option MarcFault
first_failing [] = None
first_failing (c ∷ checks) = if c.passes then first_failing checks else Some c.fault

-- ---- numbers of ASCII digits

-- a text of ASCII digits only
unfoldable pub are_digits : List ℕ → Bool
are_digits text = list_all is_ascii_digit text

-- the number that digits spell in tens
unfoldable pub number_of : List ℕ → ℕ
number_of digits = digits_value 10 digits

-- ---- the leader's parts

abbrev pub last_byte : List ℕ → ℕ
last_byte text = slice_index text (length text - 1)

-- the number in leader 00-04, the record's length ("Leader")
abbrev pub record_length : List ℕ → ℕ
record_length text = number_of (take 5 text)

abbrev pub base_digits : List ℕ → List ℕ
base_digits text = slice_range text 12 17

-- the number in leader 12-16, where the data area begins ("Leader")
abbrev pub base_address : List ℕ → ℕ
base_address text = number_of (base_digits text)

-- whether a count in the leader is read as this digit
unfoldable pub counts : ℕ → ℕ → Bool
counts byte digit = not (is_ascii_digit byte) || byte == digit

-- leader 10, 11, 20, 21, 22 are `2`, `2`, `4`, `5`, `0`, where a byte that is no digit is read as that value
-- ("Leader")
unfoldable pub has_counts : List ℕ → Bool
has_counts text = counts (slice_index text 10) 50 && counts (slice_index text 11) 50 && counts (slice_index text 20) 52 && counts (slice_index text 21) 53 && counts (slice_index text 22) 48

-- the base address stands behind the leader and the directory's field terminator, and within the record
unfoldable pub ends_directory : List ℕ → ℕ → Bool
ends_directory text base = nat_lt 24 base && nat_lt base (length text) && slice_index text (base - 1) == 30

-- the base address is five digits, stands behind the leader and a field terminator (0x1E), and within the record
-- ("Leader")
unfoldable pub has_base_address : List ℕ → Bool
has_base_address text = are_digits (base_digits text) && ends_directory text (base_address text)

-- ---- what the leader has to say of the whole text

-- how long the record is, by its first five digits
abbrev pub announced_checks : List ℕ → List Check
announced_checks text = check (nat_le 5 (length text)) Truncated
    ∷ check (are_digits (take 5 text)) LengthDigits
    ∷ check (nat_le 26 (record_length text)) LengthRange
    ∷ []

-- that as many bytes are there
abbrev pub slice_checks : List ℕ → List Check
slice_checks text = announced_checks text ++ check (nat_le (record_length text) (length text)) Truncated ∷ []

-- that the record ends as one, and where its directory ends
abbrev pub layout_checks : List ℕ → List Check
layout_checks text = check (last_byte text == 29) NoTerminator
    ∷ check (has_counts text) LeaderCounts
    ∷ check (has_base_address text) BaseAddress
    ∷ check ((base_address text - 25) % 12 == 0) DirectoryLength
    ∷ []

-- what the leader has to say of the whole text, as a list of checks in their order, each with its fault ("Leader")
abbrev pub leader_checks : List ℕ → List Check
leader_checks text = slice_checks text ++ check (nat_le (length text) (record_length text)) LengthRange ∷ layout_checks text
