-- The set of occurrences that the kept records have by their bytes, read from nothing.
use Rattle.std.specs.Prelude.{◌≡◌, ◌↔◌, ℕ, List}
use Rattle.std.specs.List.{Contains}
use Rattle.zeb_marc.specs.Records.{fields_of}
use Rattle.zeb_marc.specs.Contents.{units_of}
use Rattle.zeb_profile.specs.declared.directives.Directive.{Directive}
use Rattle.zeb_profile.specs.Indexes.{unit_targets}
use Rattle.zeb_keys.specs.Order.{IsRising}
use Rattle.zeb_keys.specs.declared.keys.Occurrence.{Occurrence}
use Rattle.zeb_extract.specs.Occurrences.{IsOccurrence}
use Rattle.zeb_change.specs.Base.{Kept}

-- these are just the occurrences of the record with these bytes, rising
pub record AreOccurrencesOf (profile : List Directive) (bytes : List ℕ) (occurrences : List Occurrence) : Type 0 where
  pub rising : IsRising occurrences
  pub each : (o : Occurrence) → Contains occurrences o ↔ IsOccurrence (unit_targets profile) (units_of (fields_of bytes)) o

-- an occurrence of a kept record, from its bytes
abbrev pub OccursIn : List Directive → Kept → Occurrence → Type 0
OccursIn profile kept o = IsOccurrence (unit_targets profile) (units_of (fields_of kept.bytes)) o

-- the set of their occurrences: a kept record of this number has the occurrence
abbrev pub occurs : List Directive → List Kept → ℕ → Occurrence → Type 0
occurs profile records n o = (kept : Kept) × Contains records kept × (kept.sysno ≡ n) × OccursIn profile kept o
