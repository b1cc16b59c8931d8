-- What only the contracts of private functions speak of; no public clause reaches it.
-- What a change of a database does, in rows, on any tables of a store, whatever its readers tell; and what its transaction does to the connection.
use Rattle.std.specs.Prelude.{◌≡◌, ◌⊎◌, ℕ, ℤ, List, Option, Result, Ok, Err, OnOk}
use Rattle.sqlite.specs.Effect.{Database}
use Rattle.sqlite.specs.State.{HasCleanDisk, State, Survives}
use Rattle.sqlite.specs.Tree.{Trees}
use Rattle.zeb_register.specs.declared.catalog.Database as catalog
use Rattle.zeb_register.specs.declared.registers.Work.{Work}
use Rattle.zeb_register.specs.Formats.{Format}
use Rattle.zeb_register.specs.Store.{IsStore}
use Rattle.zeb_change.specs.declared.files.Fold.{Fold}
use Rattle.zeb_change.specs.declared.refusals.Refusal.{Refusal}
use Rattle.zeb_change.specs.declared.refusals.Refusal.TheVariants.{Damaged}
use Rattle.zeb_change.specs.declared.settings.Setting.{Setting}
use Rattle.zeb_change.specs.RecordFolds.{FoldsFiles, OfReaders}
use Rattle.zeb_change.specs.Refused.{IsFailing, why_of}
use Rattle.zeb_image.specs.declared.names.DbName.{DbName}
use Rattle.zeb_image.specs.NameOf.{name_bytes}
use Rattle.zeb_engine.specs.declared.replies.Reply.{Reply}
use Rattle.zeb_engine.specs.declared.replies.Reply.TheVariants as reply
use Rattle.zeb_engine.specs.Changing.{HasNumbersTo}
use Rattle.zeb_engine.specs.PrivateChanging.{BeginsWith, IsMissedFor, last_of}
use Rattle.zeb_engine.specs.PrivateNumbers.{IsMisnumbered, PutsRow}

-- what a change is given, its layout's format, what a row of that counts, and what its readers would tell
pub record Asked : Type 0 where
  pub setting : Setting
  pub format : Format
  pub row_work : ℕ
  pub name : DbName
  pub remains : List (Option (List ℕ))

abbrev pub asked : Setting → Format → (row_work : ℕ) → DbName → (remains : List (Option (List ℕ))) → Asked
asked setting format row_work name remains =
    record { setting = setting; format = format; row_work = row_work; name = name; remains = remains }

-- no record is taken yet: this is the last number, and what was counted before
pub record IsAtFirst (last : ℕ) (work : Work) (fold : Fold) : Type 0 where
  pub last_is : fold.progress.last ≡ last
  pub work_is : fold.progress.work ≡ work
  pub taken : fold.tally.records ≡ 0
  pub inserted : fold.tally.inserted ≡ 0
  pub updated : fold.tally.updated ≡ 0
  pub deleted : fold.tally.deleted ≡ 0

-- The row of the name is put, with its last number as it is; the records of its database had numbers that it can have given; and the files are
-- folded in. `Fine` says that no reader has failed.
pub record FoldsInto (Fine : Type 0) (a : Asked) (last : ℕ) (work : Work) (old : Database) (result : Result (Unit {0}) Refusal) : Type 0 where
  pub mid : Database
  pub now : Database
  pub first : Fold
  pub fold : Fold
  pub at_first : IsAtFirst last work first
  pub put : PutsRow first.progress.database.0 (name_bytes a.name) last old mid
  pub numbers : HasNumbersTo last old.trees first.progress.database.0
  pub folds : OfReaders Fine a.remains
      (λ splits. FoldsFiles a.setting a.format a.row_work first.progress.database.0 splits mid now first fold) result

-- accepted: the row is put again, with the last number then, and it is told what became of the records
pub record AcceptsChange (Fine : Type 0) (a : Asked) (last : ℕ) (work worked : Work) (old new : Database) (told : Reply) : Type 0 where
  pub folded : FoldsInto Fine a last work old (Ok tt)
  pub id : ℤ
  pub put : PutsRow id (name_bytes a.name) folded.fold.progress.last folded.now new
  pub told_is : told ≡ reply.Changed folded.fold.tally.inserted folded.fold.tally.updated folded.fold.tally.deleted
  pub work_is : worked ≡ folded.fold.progress.work

-- what a change does of a database with this last number, which is made where it is absent
abbrev pub AppliesChange : (Fine : Type 0) → Asked → (last : ℕ) → (work worked : Work) → (old new : Database) → Result Reply Refusal → Type 0
AppliesChange Fine a last work worked old new (Ok told) = AcceptsChange Fine a last work worked old new told
AppliesChange Fine a last work worked old new (Err refusal) =
    IsFailing (why_of refusal)
    ⊎ (((refusal ≡ Damaged) × IsMisnumbered (name_bytes a.name) last old) ⊎ FoldsInto Fine a last work old (Err refusal))

-- it does so of what the tables know of the name
pub record AppliesFound (Fine : Type 0) (a : Asked) (work worked : Work) (old new : Database) (result : Result Reply Refusal) : Type 0 where
  pub found : Option catalog.Database
  pub begins : BeginsWith a.setting.kind old.trees (name_bytes a.name) found
  pub applies : AppliesChange Fine a (last_of found) work worked old new result

-- what a change does, or the database isn't found
abbrev pub ChangesDatabase : (Fine : Type 0) → Asked → (work worked : Work) → (old new : Database) → Result Reply Refusal → Type 0
ChangesDatabase Fine a work worked old new (Ok told) = AppliesFound Fine a work worked old new (Ok told)
ChangesDatabase Fine a work worked old new (Err refusal) =
    IsMissedFor a.setting.kind old.trees (name_bytes a.name) refusal ⊎ AppliesFound Fine a work worked old new (Err refusal)

-- ---- in one transaction

-- the rows that this leaves of a store, accepted
abbrev pub CommitsRows : (Does : (old new : Database) → Result Reply Refusal → Type 0) → State → Trees → Type 0
CommitsRows Does old db = IsStore old → (told : Reply) × (new : Database) × (db ≡ new.trees) × Does old.now new (Ok told)

-- A command does this to the rows of a store: accepted, what is shown then is what was committed, and nothing else may be.
pub record Transacts (Does : (old new : Database) → Result Reply Refusal → Type 0) (old new : State) (result : Result Reply Refusal) : Type 0 where
  pub rows : HasCleanDisk new → IsStore old → Does old.now new.now result
  pub settled : HasCleanDisk new → OnOk result (new.committed ≡ new.now)
  pub survives : Survives old new (CommitsRows Does old)
