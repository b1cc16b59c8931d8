-- What a change finds kept under a record's identifier, whatever rows the tables of the store have.
use Rattle.std.specs.Prelude.{◌≡◌, ◌≢◌, ◌↔◌, ◌⊎◌, ◌≤◌, ℕ, ℤ, pos, List, [], ◌∷◌, Option, Some, None, Result, Ok, Err}
use Rattle.sqlite.specs.declared.types.Value.TheVariants.{Int}
use Rattle.sqlite.specs.State.{State}
use Rattle.sqlite.specs.Tree.{Trees}
use Rattle.sqlite_rules.specs.Lists.{Has}
use Rattle.zeb_marc.specs.declared.faults.MarcFault.{MarcFault}
use Rattle.zeb_marc.specs.Records.{first_fault}
use Rattle.zeb_marc.specs.Splits.{Split}
use Rattle.zeb_profile.specs.declared.directives.Directive.{Directive}
use Rattle.zeb_register.specs.Formats.{Format}
use Rattle.zeb_register.specs.Sound.{KeepsRowsBeside, keeps_malformed}
use Rattle.zeb_register.specs.Store.{HasRecord, IsStore}
use Rattle.zeb_change.specs.declared.refusals.Refusal.{Refusal}
use Rattle.zeb_change.specs.declared.refusals.Refusal.TheVariants.{Damaged}
use Rattle.zeb_change.specs.Refused.{why_of, IsFailing}
use Rattle.zeb_change.specs.Folding.{ident_in}
use Rattle.zeb_change.specs.Stored.{IsKept}
use Rattle.zeb_change.specs.UnderWay.{KeepsNames}

-- This has a number of 0 or more, and is a record of ISO 2709 in which the profile finds that identifier.
abbrev pub IsWhole : List Directive → (sysno : ℤ) → (ident bytes : List ℕ) → Type 0
IsWhole profile sysno ident bytes = (n : ℕ) × (sysno ≡ pos n) × IsKept profile (record { sysno = n; ident = ident; bytes = bytes })

-- What the database keeps under this identifier, if it keeps anything, is whole.
abbrev pub KeepsWhole : List Directive → Trees → ℤ → List ℕ → Type 0
KeepsWhole profile trees db ident = (sysno : ℤ) (bytes : List ℕ) → HasRecord trees db sysno ident bytes → IsWhole profile sysno ident bytes

-- this is so, or the change is refused: as damage, or because the store or the memory failed
abbrev pub IsSoOrDamaged : {T : Type 0} → Type 0 → Result T Refusal → Type 0
IsSoOrDamaged Said (Ok x) = Said
IsSoOrDamaged Said (Err refusal) = Said ⊎ ((refusal ≡ Damaged) ⊎ IsFailing (why_of refusal))

-- what the database keeps under the identifier of this record is whole, or the change is refused so
abbrev pub FindsWhole : {T : Type 0} → List Directive → Trees → ℤ → List ℕ → Result T Refusal → Type 0
FindsWhole profile trees db bytes result = (ident : List ℕ) → first_fault bytes ≡ None → ident_in profile bytes ≡ Ok ident
    → IsSoOrDamaged (KeepsWhole profile trees db ident) result

-- the first record of a file; a file with no record gives way to what comes later, but where a fault stands in it
abbrev pub first_in : List (List ℕ) → Option MarcFault → (later : Option (List ℕ)) → Option (List ℕ)
first_in (slice ∷ slices) fault later = Some slice
first_in [] None later = later
first_in [] (Some fault) later = None

-- the first record of all files: that of the first file with one, where no fault stands before it
abbrev pub first_record : List Split → Option (List ℕ)
first_record [] = None
first_record (split ∷ splits) = first_in split.slices split.fault (first_record splits)

-- what the database keeps under the identifier of the first record of all files is whole, or the change is refused so
abbrev pub FirstFindsWhole : {T : Type 0} → List Directive → Trees → ℤ → List Split → Result T Refusal → Type 0
FirstFindsWhole profile trees db splits result =
    (bytes : List ℕ) → first_record splits ≡ Some bytes → FindsWhole profile trees db bytes result

-- ---- of each record, where the change is accepted

-- this number isn't above the last one
abbrev pub IsUpTo : (last : ℕ) → ℤ → Type 0
IsUpTo last sysno = (n : ℕ) → sysno ≡ pos n → n ≤ last

-- What the database keeps under this identifier, with a number up to the last one, is whole. A row with a greater number is none of a
-- database's records, and the new record that gets this number takes its place unread.
abbrev pub KeepsWholeTo : List Directive → (last : ℕ) → Trees → ℤ → List ℕ → Type 0
KeepsWholeTo profile last trees db ident = (sysno : ℤ) (bytes : List ℕ) → HasRecord trees db sysno ident bytes → IsUpTo last sysno
    → IsWhole profile sysno ident bytes

-- what is kept so under the identifier of this record is whole
abbrev pub IsWholeBefore : List Directive → (last : ℕ) → Trees → ℤ → List ℕ → Type 0
IsWholeBefore profile last trees db bytes = (ident : List ℕ) → first_fault bytes ≡ None → ident_in profile bytes ≡ Ok ident
    → KeepsWholeTo profile last trees db ident

-- the same of each of these
abbrev pub AreWholeBefore : List Directive → (last : ℕ) → Trees → ℤ → List (List ℕ) → Type 0
AreWholeBefore profile last trees db slices = (slice : List ℕ) → Has slices slice → IsWholeBefore profile last trees db slice

-- and of each record of the files
abbrev pub AllFindWhole : List Directive → (last : ℕ) → Trees → ℤ → List Split → Type 0
AllFindWhole profile last trees db splits = (split : Split) → Has splits split → AreWholeBefore profile last trees db split.slices

-- ---- what is kept after, of any files, where the change is accepted

-- each record that the database kept, with a number up to the last one, was whole or is kept after just as it was
abbrev pub LosesWholeAlone : List Directive → (last : ℕ) → ℤ → (old new : Trees) → Type 0
LosesWholeAlone profile last db old new = (sysno : ℤ) (ident bytes : List ℕ) → HasRecord old db sysno ident bytes → IsUpTo last sysno
    → IsWhole profile sysno ident bytes ⊎ HasRecord new db sysno ident bytes

-- each other database keeps just the records that it kept
abbrev pub KeepsAside : ℤ → (old new : Trees) → Type 0
KeepsAside db old new = (other sysno : ℤ) (ident bytes : List ℕ) → other ≢ db
    → HasRecord new other sysno ident bytes ↔ HasRecord old other sysno ident bytes

-- What an accepted change of a database does to any tables, and each part of it: only whole records are lost up to the last number, which
-- doesn't fall; no record and no row of the registers is touched of another database, and no text and no row of the databases; and what is
-- malformed in the packed registers is so still, each such row as it was.
pub record PassesOn (format : Format) (profile : List Directive) (db : ℤ) (last after : ℕ) (old new : State) : Type 0 where
  pub store : IsStore new
  pub rises : last ≤ after
  pub each : LosesWholeAlone profile last db old.now.trees new.now.trees
  pub aside : KeepsAside db old.now.trees new.now.trees
  pub beside : KeepsRowsBeside (Int db ∷ []) old.now.trees new.now.trees
  pub names : KeepsNames old new
  pub malformed : keeps_malformed format old.now.trees new.now.trees
