-- What the counts of a change say of its records, and what becomes of numbers.
use Rattle.std.specs.Prelude.{◌≡◌, ◌+◌, ℕ, List, length, Ok}
use Rattle.std.specs.List.{Contains, sum_by}
use Rattle.zeb_marc.specs.Splits.{Split}
use Rattle.zeb_change.specs.declared.settings.Kind.{Kind}
use Rattle.zeb_engine.specs.Answers.{changed}
use Rattle.zeb_change.specs.Conditions.{Conditions}
use Rattle.zeb_change.specs.Folding.{Progress, at_first, files_folded}
use Rattle.zeb_change.specs.Base.{Base, Kept}
use Rattle.zeb_image.specs.Holdings.{Holdings, base_named, with_base}
use Rattle.zeb_engine.specs.Steps.{Outcome, holding, ready, start_of}

-- all records of the files are folded into the database, with these counts
abbrev pub FoldsTo : Conditions → Kind → List Split → Base → Progress → Type 0
FoldsTo c kind files base p = files_folded c kind 1 files (at_first base) ≡ Ok p

-- an accepted change: the register is ready, the change begins with a database, and all records are folded into that; the
-- counts are the answer, and the database is put among the others
pub record IsAccepted (c : Conditions) (kind : Kind) (name : List ℕ) (files : List Split) (before : Holdings) (outcome : Outcome) : Type 0 where
  pub bases : List Base
  pub base : Base
  pub progress : Progress
  pub is_ready : ready c before ≡ Ok bases
  pub begun : start_of kind name (base_named name bases) ≡ Ok base
  pub folds : FoldsTo c kind files base progress
  pub is : outcome ≡ (changed progress.inserted progress.updated progress.deleted, holding c (with_base progress.base bases))

-- how many records the files have
abbrev pub records_in : List Split → ℕ
records_in files = sum_by (λ file. length file.slices) files

-- how many records an answer counts
abbrev pub told : Progress → ℕ
told p = p.inserted + p.updated + p.deleted

-- a record with this one's number and identifier is among these
abbrev pub HasNamesake : List Kept → Kept → Type 0
HasNamesake records kept = (other : Kept) × Contains records other × (other.sysno ≡ kept.sysno) × (other.ident ≡ kept.ident)
