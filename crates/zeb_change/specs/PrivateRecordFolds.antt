-- What only the contracts of private functions speak of; no public clause reaches it.
-- What a change does with readers, as they are read one behind the other.
use Rattle.std.specs.Prelude.{◌≡◌, ℕ, ℤ, Bool, false, List, map, Option, Some, Result}
use Rattle.sqlite.specs.State.{State}
use Rattle.zeb_marc.specs.Splits.{Split, split_of}
use Rattle.zeb_register.specs.Formats.{Format}
use Rattle.zeb_change.specs.declared.files.Fold.{Fold}
use Rattle.zeb_change.specs.declared.pending.Pending.{Pending}
use Rattle.zeb_change.specs.declared.refusals.Refusal.{Refusal}
use Rattle.zeb_change.specs.declared.settings.Setting.{Setting}
use Rattle.zeb_change.specs.Folding.{splits_of}
use Rattle.zeb_change.specs.RecordFolds.{At, TakesRest, TakesFiles}

-- how far a change is, of a connection; what is read of a reader is what its text is cut into, where it hasn't
-- failed; the same of readers; what is read so is taken in
abbrev pub at : State → Pending → Fold → At
at s pending fold = record { tables = s.now; pending = pending; fold = fold }

-- ---- what readers tell

-- What is read of a reader is what its text is cut into, where it hasn't failed and its text is known.
abbrev pub IsReadAs : (failed : Bool) → (remaining : Option (List ℕ)) → Split → Type 0
IsReadAs failed remaining split = failed ≡ false → (text : List ℕ) → remaining ≡ Some text → split ≡ split_of text

abbrev pub AreReadAs : (failed : Bool) → (remains : List (Option (List ℕ))) → List Split → Type 0
AreReadAs failed remains splits = failed ≡ false → (texts : List (List ℕ)) → remains ≡ map Some texts → splits ≡ splits_of texts

-- the rest of a file that is read so is taken in
abbrev pub TakesReader : Setting → Format → (row_work : ℕ) → ℤ → (failed : Bool) → (remaining : Option (List ℕ)) → (file nth : ℕ)
    → At → At → Result (Unit {0}) Refusal → Type 0
TakesReader setting format row_work db failed remaining file nth old new result =
    (split : Split) × IsReadAs failed remaining split × TakesRest setting format row_work db file nth split old new result

-- so are these files, from this one on
abbrev pub TakesReaders : Setting → Format → (row_work : ℕ) → ℤ → (failed : Bool) → (remains : List (Option (List ℕ))) → (file : ℕ)
    → At → At → Result (Unit {0}) Refusal → Type 0
TakesReaders setting format row_work db failed remains file old new result =
    (splits : List Split) × AreReadAs failed remains splits × TakesFiles setting format row_work db file splits old new result
