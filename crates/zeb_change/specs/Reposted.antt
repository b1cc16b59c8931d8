-- What becomes of the registers when one record takes the place of another under its number.
use Rattle.std.specs.Prelude.{◌≡◌, ◌↔◌, ℕ, ℤ, List}
use Rattle.std.specs.List.{Contains}
use Rattle.sqlite_rules.specs.Lists.{Has}
use Rattle.zeb_keys.specs.declared.keys.Key.{Key}
use Rattle.zeb_keys.specs.declared.keys.Occurrence.{Occurrence}
use Rattle.zeb_register.specs.declared.registers.Place.{Place}
use Rattle.zeb_register.specs.Content.{Content, HasRisingLists, posting_at, Posting}

abbrev pub occurrence_at : Key → Place → Occurrence
occurrence_at key place = record { key = key; seq = place.seq; pos = place.pos }

-- two lists of the same occurrences
abbrev pub AreTheSame : List Occurrence → List Occurrence → Type 0
AreTheSame elder newer = (o : Occurrence) → Contains elder o ↔ Contains newer o

-- the lists of a database hold these occurrences of the record with this number, and no others of it
abbrev pub ArePostingsOf : ℕ → List Occurrence → (Key → List Posting) → Type 0
ArePostingsOf sysno occurrences lists = (key : Key) (place : Place) → Has (lists key) (posting_at sysno place) ↔ Contains occurrences (occurrence_at key place)

-- the record with this number has just these occurrences then, and each other record's postings are as they were
pub record IsReposted (db : ℤ) (sysno : ℕ) (newer : List Occurrence) (before after : Content) : Type 0 where
  pub rising : HasRisingLists after
  pub part : ArePostingsOf sysno newer (after db)
  pub others : (d : ℤ) (key : Key) (p : Posting) → ¬ ((d ≡ db) × (p.sysno ≡ sysno)) → Has (after d key) p ↔ Has (before d key) p
