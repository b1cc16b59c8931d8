-- A database as its users see it (Zebra manual, "Record and register storage"), and the records that are kept in it, by their system
-- numbers.
use Rattle.std.specs.Prelude.{ℕ, ◌+◌, Bool, not, List, [], ◌∷◌, ◌++◌, map, filter, find, Option, if◌then◌else◌}
use Rattle.std.specs.Str.{bytes_eq}

-- a record: its system number, its identifier, and its bytes as they came in
pub record Kept : Type 0 where
  pub sysno : ℕ
  pub ident : List ℕ
  pub bytes : List ℕ

-- a database: its name, the last system number that it gave (0 before the first), and its records by rising number
pub record Base : Type 0 where
  pub name : List ℕ
  pub last : ℕ
  pub records : List Kept

-- ---- records of a database

abbrev pub has_ident : List ℕ → Kept → Bool
has_ident ident kept = bytes_eq ident kept.ident

abbrev pub kept_as : List ℕ → Base → Option Kept
kept_as ident base = find (has_ident ident) base.records

-- the record under the number after the last
abbrev pub with_new : List ℕ → List ℕ → Base → Base
with_new ident bytes base =
    record base { last = base.last + 1; records = base.records ++ record { sysno = base.last + 1; ident = ident; bytes = bytes } ∷ [] }

-- the bytes in the place of those of the record with this identifier, which keeps its number
abbrev pub with_bytes : List ℕ → List ℕ → Base → Base
with_bytes ident bytes base = record base { records = map (λ kept. if has_ident ident kept then record kept { bytes = bytes } else kept) base.records }

-- without the record with this identifier
abbrev pub without_ident : List ℕ → Base → Base
without_ident ident base = record base { records = filter (λ kept. not (has_ident ident kept)) base.records }
