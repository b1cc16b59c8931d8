-- A script: the lines of a profile, and after the first line `.` those of a batch.
use Rattle.std.specs.Prelude.{◌≡◌, ℕ, zero, suc, ◌<◌, ◌-◌, List, ◌++◌, codes}
use Rattle.zeb_program.specs.Lines.{first_line, after_first_line}
use Rattle.zeb_program.specs.Words.{without_blanks}

-- what stands in a text after its first n lines
abbrev pub after_lines : ℕ → List ℕ → List ℕ
after_lines zero text = text
after_lines (suc n) text = after_first_line (after_lines n text)

-- the line of a text that n others stand before
abbrev pub line_at : ℕ → List ℕ → List ℕ
line_at n text = first_line (after_lines n text)

-- a line that divides a profile from a batch
abbrev pub IsDivider : List ℕ → Type 0
IsDivider line = without_blanks line ≡ codes "."

-- the first divider of a text is its n-th line, counted from 1; the profile stands before it, and the batch after it
pub record DividesAt (n : ℕ) (text profile batch : List ℕ) : Type 0 where
  pub counted : 0 < n
  pub first : (k : ℕ) → suc k < n → ¬ IsDivider (line_at k text)
  pub divider : IsDivider (line_at (n - 1) text)
  pub whole : text ≡ profile ++ after_lines (n - 1) text
  pub rest : batch ≡ after_lines n text

-- a text without a divider
abbrev pub HasNoDivider : List ℕ → Type 0
HasNoDivider text = (k : ℕ) → ¬ IsDivider (line_at k text)

-- a line of a batch asks that a register be begun
abbrev pub BeginsRegister : List ℕ → Type 0
BeginsRegister text = (n : ℕ) × (without_blanks (line_at n text) ≡ codes "init")
