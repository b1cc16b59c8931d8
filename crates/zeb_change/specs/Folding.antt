-- Updates and deletes (Zebra manual, zebraidx): the records of files are folded into a database one after the other. A
-- record that is refused refuses the whole.
use Rattle.std.specs.Prelude.{ℕ, ◌+◌, List, [], ◌∷◌, map, nat_le, Option, Some, None, Result, Ok, Err, if◌then◌else◌}
use Rattle.zeb_profile.specs.declared.directives.Directive.{Directive}
use Rattle.zeb_marc.specs.declared.faults.MarcFault.{MarcFault}
use Rattle.zeb_marc.specs.Records.{first_fault, fields_of}
use Rattle.zeb_marc.specs.Contents.{units_of}
use Rattle.zeb_marc.specs.Splits.{Split, split_of}
use Rattle.zeb_extract.specs.Identifier.{identifier_of}
use Rattle.zeb_extract.specs.declared.naming.IdentFault.{IdentFault}
use Rattle.zeb_change.specs.declared.settings.Kind.{Kind}
use Rattle.zeb_change.specs.declared.settings.Kind.TheVariants.{Update, Delete, Adelete}
use Rattle.zeb_change.specs.declared.tally.Fate.{Fate}
use Rattle.zeb_change.specs.declared.tally.Fate.TheVariants.{Inserted, Updated, Deleted, PassedOver}
use Rattle.zeb_change.specs.Outcomes.{marc_refusal, identifier_refusal}
use Rattle.zeb_change.specs.Refused.{Why, why_of, unknown, database_full, too_many_records}
use Rattle.zeb_change.specs.Base.{Base, Kept, kept_as, with_new, with_bytes, without_ident}
use Rattle.zeb_change.specs.Conditions.{Conditions}

-- ---- one record, whose identifier is known, and the kept record of that identifier, if there is one: the database then, and
-- what became of the record

abbrev pub Changed : Type 0
Changed = Base × Fate

abbrev pub updated : Conditions → List ℕ → List ℕ → Base → Option Kept → Result Changed Why
updated c ident bytes base (Some kept) = Ok (with_bytes ident bytes base, Updated)
updated c ident bytes base None = if nat_le c.limits.numbers base.last then Err database_full else Ok (with_new ident bytes base, Inserted)

abbrev pub deleted : Result Changed Why → List ℕ → Base → Option Kept → Result Changed Why
deleted absent ident base (Some kept) = Ok (without_ident ident base, Deleted)
deleted absent ident base None = absent

-- what becomes of a sound record by the kind of the change: an update puts it in its elder's place, or without one under the number
-- after the last, unless the database is full; a delete and an adelete take its elder out, and without one a delete refuses it and an
-- adelete passes over it
abbrev pub changed_by : Conditions → Kind → ℕ → ℕ → List ℕ → List ℕ → Base → Result Changed Why
changed_by c Update file nth bytes ident base = updated c ident bytes base (kept_as ident base)
changed_by c Delete file nth bytes ident base = deleted (Err (unknown file nth)) ident base (kept_as ident base)
changed_by c Adelete file nth bytes ident base = deleted (Ok (base, PassedOver)) ident base (kept_as ident base)

-- a record without a sound identifier is refused; what becomes of another goes by its identifier and the kind of the change
abbrev pub with_ident : Conditions → Kind → ℕ → ℕ → List ℕ → Base → Result (List ℕ) IdentFault → Result Changed Why
with_ident c kind file nth bytes base (Ok ident) = changed_by c kind file nth bytes ident base
with_ident c kind file nth bytes base (Err fault) = Err (why_of (identifier_refusal file nth fault))

abbrev pub ident_in : List Directive → List ℕ → Result (List ℕ) IdentFault
ident_in profile bytes = identifier_of profile (units_of (fields_of bytes))

-- a record with a fault is refused by it, and then one without a sound identifier; what becomes of another goes by that and the kind of
-- the change
abbrev pub with_record : Conditions → Kind → ℕ → ℕ → List ℕ → Base → Option MarcFault → Result Changed Why
with_record c kind file nth bytes base (Some fault) = Err (why_of (marc_refusal file nth fault))
with_record c kind file nth bytes base None = with_ident c kind file nth bytes base (ident_in c.profile bytes)

-- what becomes of one record: it is refused by its fault, by its identifier's, where the limits leave an update no number, or where a
-- delete doesn't know its identifier; else it is added under the number after the last, put in its elder's place, passed over, or its
-- elder is taken out
unfoldable pub changed_record : Conditions → Kind → ℕ → ℕ → List ℕ → Base → Result Changed Why
changed_record c kind file nth bytes base = with_record c kind file nth bytes base (first_fault bytes)

-- ---- a change on its way: the database, how many records were taken, and what became of them

-- a change on its way: the database, how many records were taken, and how many of them came in, took an elder's place
-- and took one away
pub record Progress : Type 0 where
  pub base : Base
  pub taken : ℕ
  pub inserted : ℕ
  pub updated : ℕ
  pub deleted : ℕ

abbrev pub at_first : Base → Progress
at_first base = record { base = base; taken = 0; inserted = 0; updated = 0; deleted = 0 }

abbrev pub counted : Base → Progress → Fate → Progress
counted base p Inserted = record { base = base; taken = p.taken + 1; inserted = p.inserted + 1; updated = p.updated; deleted = p.deleted }
counted base p Updated = record { base = base; taken = p.taken + 1; inserted = p.inserted; updated = p.updated + 1; deleted = p.deleted }
counted base p Deleted = record { base = base; taken = p.taken + 1; inserted = p.inserted; updated = p.updated; deleted = p.deleted + 1 }
counted base p PassedOver = record { base = base; taken = p.taken + 1; inserted = p.inserted; updated = p.updated; deleted = p.deleted }

infixl 10 ◌then◌
abbrev pub ◌then◌ : {A B : Type 0} → Result A Why → (A → Result B Why) → Result B Why
(Ok p) then f = f p
(Err why) then f = Err why

-- one slice of a file: more records than a command may have are refused before a record is looked at
unfoldable pub record_folded : Conditions → Kind → ℕ → ℕ → List ℕ → Progress → Result Progress Why
record_folded c kind file nth bytes p =
    if nat_le c.limits.records p.taken then Err too_many_records
    else changed_record c kind file nth bytes p.base then λ changed. Ok (counted changed.0 p changed.1)

-- ---- files

-- what a change's files are: slices, and the fault behind them, if there is one
abbrev pub splits_of : List (List ℕ) → List Split
splits_of files = map split_of files

abbrev pub at_end : ℕ → ℕ → Option MarcFault → Progress → Result Progress Why
at_end file nth None p = Ok p
at_end file nth (Some fault) p = Err (why_of (marc_refusal file nth fault))

-- the slices of a file from the nth on, and the fault that stands behind them, if one does
abbrev pub slices_folded : Conditions → Kind → ℕ → ℕ → List (List ℕ) → Option MarcFault → Progress → Result Progress Why
slices_folded c kind file nth [] last p = at_end file nth last p
slices_folded c kind file nth (slice ∷ slices) last p = record_folded c kind file nth slice p then slices_folded c kind file (nth + 1) slices last

-- the records of a file are folded in one after the other, and the first that is refused, or a fault behind the last, refuses the whole
unfoldable pub file_folded : Conditions → Kind → ℕ → Split → Progress → Result Progress Why
file_folded c kind file split p = slices_folded c kind file 1 split.slices split.fault p

-- the files from this one on
abbrev pub files_folded : Conditions → Kind → ℕ → List Split → Progress → Result Progress Why
files_folded c kind file [] p = Ok p
files_folded c kind file (split ∷ splits) p = file_folded c kind file split p then files_folded c kind (file + 1) splits
