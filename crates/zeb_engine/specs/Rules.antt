-- The rule for identifiers under which a register was initialised, as the canonical text tells that it keeps.
use Rattle.std.specs.Prelude.{ℕ, Bool, false, List, ◌==◌, codes, take, Option, Some, None}
use Rattle.std.specs.List.{find, slice_split}
use Rattle.std.specs.Str.{bytes_eq}

-- a line `identifier PATTERN`
abbrev pub is_rule_line : List ℕ → Bool
is_rule_line line = bytes_eq (take 11 line) (codes "identifier ")

-- the first such line of a text, whose lines end with LF (10)
abbrev pub rule_line : List ℕ → Option (List ℕ)
rule_line text = find is_rule_line (slice_split (λ byte. byte == 10) text)

abbrev pub are_same : Option (List ℕ) → Option (List ℕ) → Bool
are_same (Some one) (Some other) = bytes_eq one other
are_same (Some one) None = false
are_same None other = false

-- two texts each have a line that begins with `identifier `, and the first such lines are the same
abbrev pub same_rule : List ℕ → List ℕ → Bool
same_rule one other = are_same (rule_line one) (rule_line other)
