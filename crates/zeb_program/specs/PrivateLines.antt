-- What only the contracts of private functions speak of; no public clause reaches it.
-- The first line of a text, with the LF that ends it.
use Rattle.std.specs.Prelude.{◌≡◌, ℕ, ◌+◌, List, [], IfSome, Option, take}
use Rattle.std.specs.Io.KnownBytes.{Consumes, IsAtEnd}
use Rattle.std.specs.List.{position_or_len}
use Rattle.zeb_program.specs.Lines.{is_lf}

-- the first line with its LF, where it has one
abbrev pub whole_first_line : List ℕ → List ℕ
whole_first_line text = take (position_or_len is_lf text + 1) text

-- This line is read from a source: just it is taken, the first of what the source tells, and it is empty only at the end.
abbrev pub ReadsLine : Option (List ℕ) → Option (List ℕ) → List ℕ → Type 0
ReadsLine old new line = IfSome old (λ left. line ≡ whole_first_line left) × Consumes old new line × (line ≡ [] → IsAtEnd new)
