-- What only the contracts of private functions speak of; no public clause reaches it.
-- Rows of databases and of records: whether they can be held, and what is then expected of whole tables.
use Rattle.std.specs.Prelude.{◌≡◌, ◌↔◌, ◌≤◌, ℕ, ℤ, pos, List, [], ◌∷◌, map, Option, Some, None, Vec, string_bytes}
use Rattle.std.specs.declared.alloc.Global.{Global}
use Rattle.std.specs.List.{AllZip, Contains}
use Rattle.std.specs.List.Sorted.{IsStrictlySortedBy}
use Rattle.std.specs.Option.{option_map}
use Rattle.sqlite.specs.declared.types.Value.TheVariants.{Int}
use Rattle.sqlite.specs.Tree.{Trees}
use Rattle.sqlite_rules.specs.Lists.{Has}
use Rattle.zeb_profile.specs.declared.directives.Directive.{Directive}
use Rattle.zeb_profile.specs.Canonical.{canonical_text, pattern_text}
use Rattle.zeb_profile.specs.Indexes.{identifier_pattern}
use Rattle.zeb_keys.specs.declared.keys.Occurrence.{Occurrence}
use Rattle.zeb_register.specs.declared.catalog.ListedDatabase.{ListedDatabase}
use Rattle.zeb_register.specs.declared.expected.Expected.{Expected}
use Rattle.zeb_register.specs.declared.expected.ExpectedDatabase.{ExpectedDatabase}
use Rattle.zeb_register.specs.declared.expected.KeyPosting.{KeyPosting}
use Rattle.zeb_register.specs.declared.kept.Record.{Record}
use Rattle.zeb_register.specs.Catalog.{AreDatabases, AreReadableDatabases}
use Rattle.zeb_register.specs.Expected.{key_posting_order}
use Rattle.zeb_register.specs.Formats.{Format, version_of}
use Rattle.zeb_register.specs.Kept.{record_shown}
use Rattle.zeb_register.specs.Sql.{IsListOf}
use Rattle.zeb_register.specs.Store.{HasDatabase, HasRecord, IsRest, records_tree}
use Rattle.zeb_change.specs.Base.{Kept}
use Rattle.zeb_change.specs.Occurs.{OccursIn, occurs}
use Rattle.zeb_change.specs.Stored.{IsKept}
use Rattle.zeb_image.specs.declared.fronted.Fronted.{Fronted}
use Rattle.zeb_image.specs.Names.{IsDatabaseName}

-- ---- one record

abbrev pub kept_of : Record → Kept
kept_of r = record { sysno = r.sysno; ident = string_bytes r.ident; bytes = r.bytes.items }

-- a database that has given this last number can keep the record
pub record CanKeep (profile : List Directive) (last : ℕ) (kept : Kept) : Type 0 where
  pub from_one : 1 ≤ kept.sysno
  pub to_last : kept.sysno ≤ last
  pub is : IsKept profile kept

-- the occurrences of the record, or none where it can't be kept
abbrev pub AreOccurrencesOrNone : List Directive → ℕ → Record → Option (Vec Occurrence Global) → Type 0
AreOccurrencesOrNone profile last r None = ¬ CanKeep profile last (kept_of r)
AreOccurrencesOrNone profile last r (Some found) =
    CanKeep profile last (kept_of r) × ((o : Occurrence) → Contains found.items o ↔ OccursIn profile (kept_of r) o)

-- ---- the records of a database

-- the posting of an occurrence, and the occurrence of a posting
abbrev pub posting_of : ℕ → Occurrence → KeyPosting
posting_of sysno o = record { key = o.key; posting = record { sysno = sysno; seq = o.seq; pos = o.pos } }

abbrev pub occurrence_of : KeyPosting → Occurrence
occurrence_of it = record { key = it.key; seq = it.posting.seq; pos = it.posting.pos }

-- a posting without the number of its term
abbrev pub bare : Fronted → KeyPosting
bare it = it.bare

-- the postings are just those of the records' occurrences
abbrev pub AreRecordsPostings : List Directive → List Record → List KeyPosting → Type 0
AreRecordsPostings profile records postings =
    (it : KeyPosting) → Has postings it ↔ occurs profile (map kept_of records) it.posting.sysno (occurrence_of it)

abbrev pub CanKeepAll : List Directive → ℕ → List Record → Type 0
CanKeepAll profile last records = (r : Record) → Has records r → CanKeep profile last (kept_of r)

-- the postings of the records, rising, or none where a record can't be kept
abbrev pub ArePostingsOrNone : List Directive → ℕ → List Record → Option (Vec KeyPosting Global) → Type 0
ArePostingsOrNone profile last records None = ¬ CanKeepAll profile last records
ArePostingsOrNone profile last records (Some postings) =
    CanKeepAll profile last records × IsStrictlySortedBy key_posting_order postings.items × AreRecordsPostings profile records postings.items

-- ---- one database

-- a database that is there can be held, with the records that it keeps
pub record CanBeHeld (profile : List Directive) (trees : Trees) (id : ℤ) (name : List ℕ) (last : ℕ) : Type 0 where
  pub named : IsDatabaseName name
  pub few : last ≤ 999999999
  pub records : (sysno : ℤ) (ident bytes : List ℕ) → HasRecord trees id sysno ident bytes
      → (n : ℕ) × (sysno ≡ pos n) × CanKeep profile last (record { sysno = n; ident = ident; bytes = bytes })

-- what is expected of a database that is there
pub record IsMadeOf (profile : List Directive) (trees : Trees) (listed : ListedDatabase) (made : ExpectedDatabase) : Type 0 where
  pub name : string_bytes made.name ≡ string_bytes listed.name
  pub last : made.last ≡ listed.last
  pub named : IsDatabaseName (string_bytes made.name)
  pub few : made.last ≤ 999999999
  pub records : IsListOf (IsRest records_tree (Int listed.id.0 ∷ []) trees) (map record_shown made.records.items)
  pub sound : CanKeepAll profile made.last made.records.items
  pub rising : IsStrictlySortedBy key_posting_order made.postings.items
  pub postings : AreRecordsPostings profile made.records.items made.postings.items

abbrev pub IsMadeOrNone : List Directive → Trees → ListedDatabase → Option ExpectedDatabase → Type 0
IsMadeOrNone profile trees listed None = ¬ CanBeHeld profile trees listed.id.0 (string_bytes listed.name) listed.last
IsMadeOrNone profile trees listed (Some made) = IsMadeOf profile trees listed made

-- ---- all databases

-- all that are there can be read and held
pub record CanAllBeHeld (profile : List Directive) (trees : Trees) : Type 0 where
  pub readable : AreReadableDatabases trees
  pub each : (id : ℤ) (name : List ℕ) (last : ℕ) → HasDatabase trees id name (pos last) → CanBeHeld profile trees id name last

-- what is expected of all databases that are there, in the order of their list
pub record AreMade (profile : List Directive) (trees : Trees) (made : List ExpectedDatabase) : Type 0 where
  pub listed : List ListedDatabase
  pub are : AreDatabases trees listed
  pub each : AllZip (IsMadeOf profile trees) listed made

abbrev pub AreMadeOrNone : List Directive → Trees → Option (Vec ExpectedDatabase Global) → Type 0
AreMadeOrNone profile trees None = ¬ CanAllBeHeld profile trees
AreMadeOrNone profile trees (Some made) = AreMade profile trees made.items

-- ---- whole tables

-- what is expected of the tables of a register of this format under this profile, with the databases that are there
pub record IsExpectation (format : Format) (profile : List Directive) (trees : Trees) (expected : Expected) : Type 0 where
  pub version : string_bytes expected.version ≡ version_of format
  pub text : string_bytes expected.profile ≡ canonical_text profile
  pub pattern : option_map pattern_text (identifier_pattern profile) ≡ Some (string_bytes expected.identifier)
  pub databases : AreMade profile trees expected.databases.items

abbrev pub IsExpectationOrNone : Format → List Directive → Trees → Option Expected → Type 0
IsExpectationOrNone format profile trees None = ¬ CanAllBeHeld profile trees
IsExpectationOrNone format profile trees (Some expected) = IsExpectation format profile trees expected
