-- What a change costs the registers: for each record, the keys whose places differ between the elder record and the newer one.
use Rattle.std.specs.Prelude.{◌≡◌, ◌↔◌, ◌+◌, ℕ, List, [], ◌∷◌, length, Option, Some, None, Ok}
use Rattle.std.specs.List.{Contains}
use Rattle.std.specs.List.Sorted.{IsStrictlySortedBy}
use Rattle.zeb_marc.specs.Records.{fields_of}
use Rattle.zeb_marc.specs.Contents.{units_of}
use Rattle.zeb_marc.specs.Splits.{Split}
use Rattle.zeb_profile.specs.declared.directives.Directive.{Directive}
use Rattle.zeb_profile.specs.Indexes.{unit_targets}
use Rattle.zeb_keys.specs.declared.keys.Key.{Key}
use Rattle.zeb_keys.specs.declared.keys.Occurrence.{Occurrence}
use Rattle.zeb_extract.specs.Occurrences.{IsOccurrence}
use Rattle.zeb_keys.specs.Order.{key_order}
use Rattle.zeb_change.specs.declared.settings.Kind.{Kind}
use Rattle.zeb_change.specs.declared.settings.Kind.TheVariants.{Update, Delete, Adelete}
use Rattle.zeb_change.specs.Base.{Base, Kept, kept_as}
use Rattle.zeb_change.specs.Conditions.{Conditions}
use Rattle.zeb_change.specs.Folding.{Progress, record_folded, file_folded, ident_in}

-- ---- one record

-- the occurrences of the record with these bytes, none where there is no record
abbrev pub occurs_by : List Directive → Option (List ℕ) → Occurrence → Type 0
occurs_by profile None o = ⊥
occurs_by profile (Some bytes) o = IsOccurrence (unit_targets profile) (units_of (fields_of bytes)) o

-- the places of the key are not the same in both
abbrev pub PlacesDiffer : (elder newer : Occurrence → Type 0) → Key → Type 0
PlacesDiffer elder newer key =
    ¬ ((seq pos : ℕ) → elder (record { key = key; seq = seq; pos = pos }) ↔ newer (record { key = key; seq = seq; pos = pos }))

-- just so many keys have places that differ between two records
pub record IsRecordCost (elder newer : Occurrence → Type 0) (n : ℕ) : Type 0 where
  pub keys : List Key
  pub once : IsStrictlySortedBy key_order keys
  pub each : (key : Key) → Contains keys key ↔ PlacesDiffer elder newer key
  pub many : n ≡ length keys

-- the bytes of a kept record
abbrev pub bytes_of : Option Kept → Option (List ℕ)
bytes_of None = None
bytes_of (Some kept) = Some kept.bytes

-- the bytes that are kept under a record's identifier once the record is taken
abbrev pub newer_of : Kind → List ℕ → Option (List ℕ)
newer_of Update bytes = Some bytes
newer_of Delete bytes = None
newer_of Adelete bytes = None

-- what a record costs a database: how many keys have other places in the record that is kept under its identifier than in what is kept
-- there once it is taken; where none is kept, there are no places
abbrev pub IsCostIn : List Directive → Kind → List ℕ → Base → ℕ → Type 0
IsCostIn profile kind bytes base n =
    (ident : List ℕ) × (ident_in profile bytes ≡ Ok ident)
    × IsRecordCost (occurs_by profile (bytes_of (kept_as ident base))) (occurs_by profile (newer_of kind bytes)) n

-- ---- files

-- what the slices of a file cost from the nth on: each is a record of the database that those before it leave
abbrev pub IsSlicesCost : Conditions → Kind → ℕ → ℕ → List (List ℕ) → Progress → ℕ → Type 0
IsSlicesCost c kind file nth [] p n = n ≡ 0
IsSlicesCost c kind file nth (slice ∷ slices) p n =
    (first : ℕ) × (rest : ℕ) × (next : Progress) × IsCostIn c.profile kind slice p.base first × (record_folded c kind file nth slice p ≡ Ok next)
    × IsSlicesCost c kind file (nth + 1) slices next rest × (n ≡ first + rest)

-- what the files cost from this one on
abbrev pub IsFilesCost : Conditions → Kind → ℕ → List Split → Progress → ℕ → Type 0
IsFilesCost c kind file [] p n = n ≡ 0
IsFilesCost c kind file (split ∷ splits) p n =
    (first : ℕ) × (rest : ℕ) × (next : Progress) × IsSlicesCost c kind file 1 split.slices p first × (file_folded c kind file split p ≡ Ok next)
    × IsFilesCost c kind (file + 1) splits next rest × (n ≡ first + rest)
