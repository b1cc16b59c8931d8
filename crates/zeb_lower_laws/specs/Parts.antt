-- A part of a text: some bytes of it in a row.
use Rattle.std.specs.Prelude.{◌≡◌, ℕ, List, ◌++◌}

-- some bytes of a text that stand there in a row
pub record IsPart (text part : List ℕ) : Type 0 where
  pub before : List ℕ
  pub after : List ℕ
  pub whole : text ≡ before ++ (part ++ after)
