-- Why a change is refused by what stands in its files and by its limits, whatever rows the tables of the store have; and under which
-- identifiers an accepted one loses records.
use Rattle.std.specs.Prelude.{◌≡◌, ◌≢◌, ◌⊎◌, ◌+◌, ◌<◌, ◌≤◌, ℕ, ℤ, List, [], ◌∷◌, ◌++◌, length, Option, Some, None, Ok, Err}
use Rattle.std.specs.List.{AllByRecursion, flat_map}
use Rattle.sqlite.specs.Tree.{Trees}
use Rattle.sqlite_rules.specs.Lists.{Has}
use Rattle.zeb_marc.specs.declared.faults.MarcFault.{MarcFault}
use Rattle.zeb_marc.specs.Records.{first_fault}
use Rattle.zeb_marc.specs.Splits.{Split}
use Rattle.zeb_extract.specs.declared.naming.IdentFault.{IdentFault}
use Rattle.zeb_profile.specs.declared.directives.Directive.{Directive}
use Rattle.zeb_register.specs.Store.{HasRecord}
use Rattle.zeb_change.specs.declared.refusals.Refusal.{Refusal}
use Rattle.zeb_change.specs.declared.refusals.Refusal.TheVariants.{Damaged, DatabaseFull, TooManyRecords, Unknown}
use Rattle.zeb_change.specs.declared.settings.Kind.{Kind}
use Rattle.zeb_change.specs.declared.settings.Kind.TheVariants.{Delete, Update}
use Rattle.zeb_change.specs.declared.settings.Limits.{Limits}
use Rattle.zeb_change.specs.Elders.{AreWholeBefore, IsUpTo}
use Rattle.zeb_change.specs.Folding.{ident_in}
use Rattle.zeb_change.specs.Outcomes.{identifier_refusal, marc_refusal}
use Rattle.zeb_change.specs.Refused.{IsFailing, why_of}

-- ---- places in files

-- A place in files that are read in their order: the file and the place in it, both from 1; the records that stand before it, of all files,
-- where each file before it has no fault behind its records; and what stands from it on in its file, which are records and the fault behind
-- them, if there is one.
pub record IsPlaceIn (splits : List Split) (file nth : ℕ) (before : List (List ℕ)) (behind : List (List ℕ)) (fault : Option MarcFault) : Type 0 where
  pub files : List Split
  pub split : Split
  pub later : List Split
  pub read : List (List ℕ)
  pub splits_are : splits ≡ files ++ split ∷ later
  pub ended : AllByRecursion (λ (earlier : Split). earlier.fault ≡ None) files
  pub slices_are : split.slices ≡ read ++ behind
  pub fault_is : split.fault ≡ fault
  pub file_is : file ≡ length files + 1
  pub nth_is : nth ≡ length read + 1
  pub before_are : before ≡ flat_map (λ (earlier : Split). earlier.slices) files ++ read

-- the profile finds this identifier in a sound record
abbrev pub IsNamed : List Directive → (bytes ident : List ℕ) → Type 0
IsNamed profile bytes ident = (first_fault bytes ≡ None) × (ident_in profile bytes ≡ Ok ident)

-- it finds one in each of these, which are sound
abbrev pub AreNamed : List Directive → List (List ℕ) → Type 0
AreNamed profile slices = (slice : List ℕ) → Has slices slice → (ident : List ℕ) × IsNamed profile slice ident

-- it finds this one in one of these
abbrev pub NamesAny : List Directive → List (List ℕ) → List ℕ → Type 0
NamesAny profile slices ident = (slice : List ℕ) × Has slices slice × IsNamed profile slice ident

-- ---- reasons at a place

-- what stands there is a fault, or a record with a fault or without a sound identifier
abbrev pub IsAtFault : List Directive → (file nth : ℕ) → (behind : List (List ℕ)) → Option MarcFault → Refusal → Type 0
IsAtFault profile file nth [] None refusal = ⊥
IsAtFault profile file nth [] (Some fault) refusal = refusal ≡ marc_refusal file nth fault
IsAtFault profile file nth (bytes ∷ behind) last refusal =
    ((fault : MarcFault) × (first_fault bytes ≡ Some fault) × (refusal ≡ marc_refusal file nth fault))
    ⊎ ((fault : IdentFault) × (first_fault bytes ≡ None) × (ident_in profile bytes ≡ Err fault) × (refusal ≡ identifier_refusal file nth fault))

-- A sound record stands there, under whose identifier the database kept nothing up to its last number, unless a record before it has the
-- identifier too.
pub record IsNewAt (profile : List Directive) (last : ℕ) (trees : Trees) (db : ℤ) (before behind : List (List ℕ)) : Type 0 where
  pub bytes : List ℕ
  pub rest : List (List ℕ)
  pub ident : List ℕ
  pub there : behind ≡ bytes ∷ rest
  pub named : IsNamed profile bytes ident
  pub unkept : (sysno : ℤ) (kept : List ℕ) → HasRecord trees db sysno ident kept → IsUpTo last sysno → NamesAny profile before ident

-- a `Delete` meets such a record there
abbrev pub IsUnknown : List Directive → Kind → (last : ℕ) → Trees → ℤ → (file nth : ℕ) → (before behind : List (List ℕ)) → Refusal → Type 0
IsUnknown profile kind last trees db file nth before behind refusal =
    (kind ≡ Delete) × (refusal ≡ Unknown file nth) × IsNewAt profile last trees db before behind

-- an update meets one, and may have given the greatest system number, if each record before the place is a new one
abbrev pub MayBeFull : List Directive → Kind → Limits → (last : ℕ) → Trees → ℤ → (before behind : List (List ℕ)) → Refusal → Type 0
MayBeFull profile kind limits last trees db before behind refusal =
    (kind ≡ Update) × (refusal ≡ DatabaseFull) × (limits.numbers ≤ last + length before) × IsNewAt profile last trees db before behind

-- a record stands there, and those before it are as many as one command may have, with those that were taken already
abbrev pub AreTooMany : Limits → (taken : ℕ) → (before behind : List (List ℕ)) → Refusal → Type 0
AreTooMany limits taken before behind refusal = (refusal ≡ TooManyRecords) × (behind ≢ []) × (limits.records ≤ taken + length before)

-- the limit allows the record there, if one stands there
abbrev pub IsAllowed : Limits → (taken : ℕ) → (before behind : List (List ℕ)) → Type 0
IsAllowed limits taken before behind = (behind ≡ []) ⊎ (taken + length before < limits.records)

-- the refusal has a reason there: a record too many, or else one of the others
abbrev pub HasReasonAt : List Directive → Kind → Limits → (last taken : ℕ) → Trees → ℤ → (file nth : ℕ) → (before behind : List (List ℕ)) → Option MarcFault → Refusal → Type 0
HasReasonAt profile kind limits last taken trees db file nth before behind fault refusal =
    AreTooMany limits taken before behind refusal
    ⊎ (IsAllowed limits taken before behind × (IsAtFault profile file nth behind fault refusal
    ⊎ (IsUnknown profile kind last trees db file nth before behind refusal ⊎ MayBeFull profile kind limits last trees db before behind refusal)))

-- ---- a change

-- A change of a database with this last number, of which so many records were taken already, is refused at some place for a reason there,
-- and all records before it are sound and have an identifier, under which what was kept was whole.
pub record IsRefusedAt (profile : List Directive) (kind : Kind) (limits : Limits) (last taken : ℕ) (trees : Trees) (db : ℤ) (splits : List Split) (refusal : Refusal) : Type 0 where
  pub file : ℕ
  pub nth : ℕ
  pub before : List (List ℕ)
  pub behind : List (List ℕ)
  pub fault : Option MarcFault
  pub place : IsPlaceIn splits file nth before behind fault
  pub named : AreNamed profile before
  pub whole : AreWholeBefore profile last trees db before
  pub reason : HasReasonAt profile kind limits last taken trees db file nth before behind fault refusal

-- it is refused so, as damage, or because the store or the memory failed
abbrev pub IsRefusedFor : List Directive → Kind → Limits → (last taken : ℕ) → Trees → ℤ → List Split → Refusal → Type 0
IsRefusedFor profile kind limits last taken trees db splits refusal =
    IsRefusedAt profile kind limits last taken trees db splits refusal ⊎ ((refusal ≡ Damaged) ⊎ IsFailing (why_of refusal))

-- Each record that the database kept, with a number up to the last one, is kept after just as it was, or a record of the files has its
-- identifier.
abbrev pub LosesNamedAlone : List Directive → (last : ℕ) → ℤ → List Split → (old new : Trees) → Type 0
LosesNamedAlone profile last db splits old new = (sysno : ℤ) (ident bytes : List ℕ) → HasRecord old db sysno ident bytes → IsUpTo last sysno
    → HasRecord new db sysno ident bytes ⊎ NamesAny profile (flat_map (λ (split : Split). split.slices) splits) ident
