-- What only the contracts of private functions speak of; no public clause reaches it.
-- One record of a change, beside what a database keeps.
use Rattle.std.specs.Prelude.{◌≡◌, ℕ, List, Option, Some, None, Result, Ok, Err, IsUtf8}
use Rattle.zeb_marc.specs.Records.{first_fault}
use Rattle.zeb_profile.specs.declared.directives.Directive.{Directive}
use Rattle.zeb_keys.specs.declared.keys.Occurrence.{Occurrence}
use Rattle.zeb_register.specs.declared.kept.Elder.{Elder}
use Rattle.zeb_change.specs.declared.refusals.Refusal.{Refusal}
use Rattle.zeb_change.specs.declared.refusals.Refusal.TheVariants.{Damaged}
use Rattle.zeb_change.specs.Folding.{ident_in}
use Rattle.zeb_change.specs.Base.{Base, Kept, kept_as}
use Rattle.zeb_change.specs.Elders.{IsSoOrDamaged}
use Rattle.zeb_change.specs.Occurs.{AreOccurrencesOf}
use Rattle.zeb_change.specs.Stored.{IsKept}

-- a record of ISO 2709 with its identifier and its occurrences
pub record IsNewer (profile : List Directive) (ident bytes : List ℕ) (occurrences : List Occurrence) : Type 0 where
  pub whole : first_fault bytes ≡ None
  pub named : ident_in profile bytes ≡ Ok ident
  pub text : IsUtf8 ident
  pub found : AreOccurrencesOf profile bytes occurrences

-- the record of this identifier in the database, if there is one
abbrev pub IsElderAs : List ℕ → Base → Option Elder → Type 0
IsElderAs ident base None = kept_as ident base ≡ None
IsElderAs ident base (Some elder) = (kept : Kept) × (kept_as ident base ≡ Some kept) × (elder.sysno ≡ kept.sysno) × (kept.bytes ≡ elder.bytes.items)

-- the bytes of the elder, if there is one
abbrev pub elder_bytes : Option Elder → Option (List ℕ)
elder_bytes None = None
elder_bytes (Some elder) = Some elder.bytes.items

-- ---- an elder, whatever its bytes are

-- the elder, if there is one, is a record of ISO 2709 with this identifier
abbrev pub IsWholeElder : List Directive → List ℕ → Option Elder → Type 0
IsWholeElder profile ident None = Unit {0}
IsWholeElder profile ident (Some elder) = IsKept profile (record { sysno = 0; ident = ident; bytes = elder.bytes.items })

-- this is so, or the call is refused as damage or by a failure; and damage is told only where it isn't so
abbrev pub GoesBy : {T : Type 0} → Type 0 → Result T Refusal → Type 0
GoesBy Said result = IsSoOrDamaged Said result × (result ≡ Err Damaged → ¬ Said)
