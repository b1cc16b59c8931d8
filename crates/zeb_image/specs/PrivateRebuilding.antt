-- What only the contracts of private functions speak of; no public clause reaches it.
-- Registers on their way: which of the kept records have their postings in them.
use Rattle.std.specs.Prelude.{◌≡◌, ◌≢◌, ◌↔◌, ℕ, ℤ, pos, List, Result, Ok, Err}
use Rattle.sqlite.specs.State.{State}
use Rattle.sqlite.specs.Tree.{Trees}
use Rattle.zeb_profile.specs.declared.directives.Directive.{Directive}
use Rattle.zeb_keys.specs.declared.keys.Occurrence.{Occurrence}
use Rattle.zeb_register.specs.Content.{Content, IsStorable, posted}
use Rattle.zeb_register.specs.Formats.{Format, holds_in}
use Rattle.zeb_register.specs.Kept.{AreReadable}
use Rattle.zeb_register.specs.Store.{HasRecord, IsStore, KeepsLists}
use Rattle.zeb_register.specs.declared.RegFault.{RegFault}
use Rattle.zeb_register.specs.declared.RegFault.TheVariants.{Damaged}
use Rattle.zeb_change.specs.declared.pending.Pending.{Pending}
use Rattle.zeb_change.specs.Noted.{WillHold}
use Rattle.zeb_change.specs.Occurs.{OccursIn}
use Rattle.zeb_image.specs.Rebuilding.{AreSoundIn}

-- the database keeps a record of this number that has the occurrence
abbrev pub RowOccurs : List Directive → Trees → ℤ → ℕ → Occurrence → Type 0
RowOccurs profile lists id n o =
    (ident : List ℕ) × (bytes : List ℕ) × HasRecord lists id (pos n) ident bytes
    × OccursIn profile (record { sysno = n; ident = ident; bytes = bytes }) o

-- the registers hold a content of which this holds, and which every layout can store
pub record HoldsSuch (format : Format) (trees : Trees) (P : Content → Type 0) : Type 0 where
  pub content : Content
  pub held : holds_in format trees content
  pub storable : IsStorable content
  pub is : P content

-- the same, once the noted changes are written
pub record WillHoldSuch (format : Format) (trees : Trees) (id : ℤ) (pending : Pending) (P : Content → Type 0) : Type 0 where
  pub content : Content
  pub held : WillHold format trees id pending content
  pub storable : IsStorable content
  pub is : P content

-- a record of the database that had no posting has just these occurrences then; every other posting is as it was
pub record IsRecordPosted (id : ℤ) (sysno : ℕ) (Occurs : Occurrence → Type 0) (before after : Content) : Type 0 where
  pub part : (o : Occurrence) → posted after id sysno o ↔ Occurs o
  pub others : (d : ℤ) (n : ℕ) (o : Occurrence) → ¬ ((d ≡ id) × (n ≡ sysno)) → posted after d n o ↔ posted before d n o

-- the record of this number has no posting in the database
abbrev pub LacksRecord : ℤ → ℕ → Content → Type 0
LacksRecord id sysno content = (o : Occurrence) → ¬ posted content id sysno o

-- the database has no posting
abbrev pub LacksDatabase : ℤ → Content → Type 0
LacksDatabase id content = (n : ℕ) → LacksRecord id n content

-- all records of a database have their postings; those of each other database are as they were
pub record IsPosted (profile : List Directive) (lists : Trees) (id : ℤ) (before after : Content) : Type 0 where
  pub part : (n : ℕ) (o : Occurrence) → posted after id n o ↔ RowOccurs profile lists id n o
  pub others : (d : ℤ) (n : ℕ) (o : Occurrence) → d ≢ id → posted after d n o ↔ posted before d n o

-- The postings of a database's records are put in, which had none: its records are sound, and they are what is posted. Damage is told only where
-- one of them can't be read or isn't sound.
abbrev pub PostsDatabase : Format → List Directive → ℤ → (old new : State) → Result (Unit {0}) RegFault → Type 0
PostsDatabase format profile id old new (Ok done) =
    IsStore new × KeepsLists old.now.trees new.now.trees × AreSoundIn profile old.now.trees id
    × ((before : Content) → holds_in format old.now.trees before → IsStorable before → LacksDatabase id before
    → HoldsSuch format new.now.trees (IsPosted profile old.now.trees id before))
PostsDatabase format profile id old new (Err fault) =
    fault ≡ Damaged → (before : Content) → holds_in format old.now.trees before → IsStorable before → LacksDatabase id before
    → ¬ (AreReadable old.now.trees id × AreSoundIn profile old.now.trees id)
