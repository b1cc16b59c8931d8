-- An input that is read whole: at most 16,777,216 bytes of UTF-8.
use Rattle.std.specs.Prelude.{ℕ, ◌≤◌, List, length, Option}
use Rattle.std.specs.List.{AllByRecursion}
use Rattle.std.specs.Str.{IsUtf8}
use Rattle.std.specs.Io.KnownBytes.{Consumes}

-- at most so many bytes of UTF-8
abbrev pub IsTextWithin : ℕ → List ℕ → Type 0
IsTextWithin most bytes = (length bytes ≤ most) × IsUtf8 bytes

-- at most 16,777,216 bytes of UTF-8
abbrev pub IsInput : List ℕ → Type 0
IsInput bytes = IsTextWithin 16777216 bytes

-- a file of at most 16,777,216 bytes
abbrev pub IsShort : List ℕ → Type 0
IsShort bytes = length bytes ≤ 16777216

-- so it is of each of these files
abbrev pub AreShort : List (List ℕ) → Type 0
AreShort = AllByRecursion IsShort

-- known bytes lose some off their front, and these are at most n
abbrev pub TakesAtMost : ℕ → Option (List ℕ) → Option (List ℕ) → Type 0
TakesAtMost n old new = (taken : List ℕ) × (length taken ≤ n) × Consumes old new taken
