-- The records that the tables stand for.
use Rattle.std.specs.Prelude.{◌≡◌, ◌-◌, ◌^◌, ◌≤◌, ◌<◌, ◌↔◌, ℕ, ℤ, pos, List, [], ◌∷◌, length, min, Option, Some, None, String, string_bytes, IsUtf8}
use Rattle.std.specs.declared.alloc.Global.{Global}
use Rattle.std.specs.List.{IsDistinct}
use Rattle.std.specs.Ordering.{eq_by_cmp, int_cmp}
use Rattle.sqlite.specs.declared.types.Value.TheVariants.{Int, Text, Blob}
use Rattle.sqlite.specs.Order.{Row}
use Rattle.sqlite.specs.Tree.{Trees}
use Rattle.sqlite_rules.specs.Lists.{Has}
use Rattle.zeb_register.specs.declared.kept.Elder.{Elder}
use Rattle.zeb_register.specs.declared.kept.Record.{Record}
use Rattle.zeb_register.specs.Store.{HasRecord}

-- the record that the database keeps under this identifier, or none where it keeps none
abbrev pub IsElderOf : Trees → ℤ → List ℕ → Option Elder → Type 0
IsElderOf trees db ident None = (sysno : ℤ) (bytes : List ℕ) → ¬ HasRecord trees db sysno ident bytes
IsElderOf trees db ident (Some found) = HasRecord trees db (pos found.sysno) ident found.bytes.items

-- the identifier of the record with this number, or none where there is none
abbrev pub IsIdentOf : Trees → ℤ → ℤ → Option (String Global) → Type 0
IsIdentOf trees db sysno None = (ident bytes : List ℕ) → ¬ HasRecord trees db sysno ident bytes
IsIdentOf trees db sysno (Some found) = (bytes : List ℕ) × HasRecord trees db sysno (string_bytes found) bytes

-- the number of the record with this identifier is a number of 0 or more
abbrev pub AreNumbered : Trees → ℤ → List ℕ → Type 0
AreNumbered trees db ident = (sysno : ℤ) (bytes : List ℕ) → HasRecord trees db sysno ident bytes → (n : ℕ) × (sysno ≡ pos n)

-- the identifier of the record with this number is UTF-8
abbrev pub AreReadableIdents : Trees → ℤ → ℤ → Type 0
AreReadableIdents trees db sysno = (ident bytes : List ℕ) → HasRecord trees db sysno ident bytes → IsUtf8 ident

-- each record of the database has a number of 0 or more and an identifier of UTF-8
abbrev pub AreReadable : Trees → ℤ → Type 0
AreReadable trees db = (sysno : ℤ) (ident bytes : List ℕ) → HasRecord trees db sysno ident bytes → ((n : ℕ) × (sysno ≡ pos n)) × IsUtf8 ident

-- the columns of a record beside its database
abbrev pub record_shown : Record → Row
record_shown record' = Int (pos record'.sysno) ∷ Text (string_bytes record'.ident) ∷ Blob record'.bytes.items ∷ []

-- the database has a record with this number
abbrev pub IsNumberOf : Trees → ℤ → ℤ → Type 0
IsNumberOf trees db sysno = (ident : List ℕ) × (bytes : List ℕ) × HasRecord trees db sysno ident bytes

-- how many records the database has: as many as numbers have one, or the greatest number that a column stores where there are more
pub record IsRecordCount (trees : Trees) (db : ℤ) (count : ℕ) : Type 0 where
  pub numbers : List ℤ
  pub apart : IsDistinct (eq_by_cmp int_cmp) numbers
  pub each : (sysno : ℤ) → Has numbers sysno ↔ IsNumberOf trees db sysno
  pub count_is : count ≡ min (length numbers) (2 ^ 63 - 1)

-- the record with the least number that is not below the start, or none where there is none
abbrev pub IsFirstFrom : Trees → ℤ → ℕ → Option Record → Type 0
IsFirstFrom trees db start None = (n : ℕ) → IsNumberOf trees db (pos n) → n < start
IsFirstFrom trees db start (Some found) =
    HasRecord trees db (pos found.sysno) (string_bytes found.ident) found.bytes.items × (start ≤ found.sysno)
    × ((n : ℕ) → IsNumberOf trees db (pos n) → start ≤ n → found.sysno ≤ n)
