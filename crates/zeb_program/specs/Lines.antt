-- Lines of a text (the Zebra manual's configuration files, which are read line by line): a line ends at LF, and one CR right before the LF
-- is dropped with it.
-- A last line may lack its LF, and then keeps a CR.
use Rattle.std.specs.Prelude.{ℕ, Bool, ◌==◌, List, length, if◌then◌else◌, nat_lt}
use Rattle.std.specs.List.{position_or_len, before_first, after_first}
use Rattle.std.specs.Str.Lines.{strip_carriage_return}

abbrev pub is_lf : ℕ → Bool
is_lf byte = byte == 10

-- the first line of a text
abbrev pub first_line : List ℕ → List ℕ
first_line text = if nat_lt (position_or_len is_lf text) (length text) then strip_carriage_return (before_first is_lf text) else text

-- what stands after the first line
abbrev pub after_first_line : List ℕ → List ℕ
after_first_line text = after_first is_lf text
