-- What a database can hold, and the tables of records and of registers as the image of what databases hold: they have the rows that
-- follow from it, and no others.
use Rattle.std.specs.Prelude.{◌≡◌, ◌↔◌, ◌≤◌, ℕ, ℤ, pos, List, None, Ok, IsUtf8}
use Rattle.std.specs.List.{Contains}
use Rattle.std.specs.Ordering.{nat_cmp}
use Rattle.std.specs.List.Sorted.{IsStrictlySortedBy}
use Rattle.sqlite.specs.Tree.{Trees}
use Rattle.zeb_marc.specs.Records.{first_fault}
use Rattle.zeb_profile.specs.declared.directives.Directive.{Directive}
use Rattle.zeb_keys.specs.declared.keys.Occurrence.{Occurrence}
use Rattle.zeb_register.specs.Content.{Content, HasRisingLists, posted}
use Rattle.zeb_register.specs.Formats.{Format, holds_in}
use Rattle.zeb_register.specs.Store.{HasRecord}
use Rattle.zeb_change.specs.Base.{Base, Kept}
use Rattle.zeb_change.specs.Folding.{ident_in}
use Rattle.zeb_change.specs.Occurs.{occurs}

-- ---- what can be held

-- a record of ISO 2709, kept under the identifier that the profile finds in it
pub record IsKept (profile : List Directive) (kept : Kept) : Type 0 where
  pub whole : first_fault kept.bytes ≡ None
  pub named : ident_in profile kept.bytes ≡ Ok kept.ident
  pub text : IsUtf8 kept.ident

-- system numbers rise from 1 to the last one given, and no identifier is kept twice
pub record IsBase (profile : List Directive) (base : Base) : Type 0 where
  pub rising : IsStrictlySortedBy (λ (a b : Kept). nat_cmp a.sysno b.sysno) base.records
  pub from_one : (kept : Kept) → Contains base.records kept → 1 ≤ kept.sysno
  pub to_last : (kept : Kept) → Contains base.records kept → kept.sysno ≤ base.last
  pub few : base.last ≤ 999999999
  pub single : (a b : Kept) → Contains base.records a → Contains base.records b → a.ident ≡ b.ident → a ≡ b
  pub sound : (kept : Kept) → Contains base.records kept → IsKept profile kept

-- ---- the tables of records and of registers, by the ids of databases

-- the postings are just those of the records' occurrences
pub record ArePosted (profile : List Directive) (records_of : ℤ → List Kept) (content : Content) : Type 0 where
  pub rising : HasRisingLists content
  pub each : (id : ℤ) (n : ℕ) (o : Occurrence) → posted content id n o ↔ occurs profile (records_of id) n o

abbrev pub AreKept : Trees → (ℤ → List Kept) → Type 0
AreKept trees records_of = (id sysno : ℤ) (ident bytes : List ℕ) → HasRecord trees id sysno ident bytes
    ↔ ((kept : Kept) × Contains (records_of id) kept × (sysno ≡ pos kept.sysno) × (ident ≡ kept.ident) × (bytes ≡ kept.bytes))

-- the table of records has these, and the registers have their postings in this format
pub record AreStored (format : Format) (profile : List Directive) (trees : Trees) (records_of : ℤ → List Kept) : Type 0 where
  pub kept : AreKept trees records_of
  pub content : Content
  pub held : holds_in format trees content
  pub posted : ArePosted profile records_of content
