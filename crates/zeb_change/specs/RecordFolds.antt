-- What a change does with the records of files, one behind the other, in rows, on any tables of a store. This project's own rules.
use Rattle.std.specs.Prelude.{◌≡◌, ◌⊎◌, ◌+◌, ◌<◌, ◌≤◌, ℕ, ℤ, List, [], ◌∷◌, map, Option, Some, None, Result, Ok, Err, OnOk}
use Rattle.sqlite.specs.declared.types.Value.TheVariants.{Int}
use Rattle.sqlite.specs.Effect.{Database}
use Rattle.zeb_marc.specs.declared.faults.MarcFault.{MarcFault}
use Rattle.zeb_marc.specs.Splits.{Split}
use Rattle.zeb_register.specs.Content.{Content, IsStorable}
use Rattle.zeb_register.specs.Formats.{Format}
use Rattle.zeb_register.specs.Sound.{KeepsRowsBeside, keeps_malformed}
use Rattle.zeb_register.specs.Store.{KeepsLists}
use Rattle.zeb_change.specs.declared.files.Fold.{Fold}
use Rattle.zeb_change.specs.declared.pending.Pending.{Pending}
use Rattle.zeb_change.specs.declared.refusals.Refusal.{Refusal}
use Rattle.zeb_change.specs.declared.refusals.Refusal.TheVariants.{Damaged, TooManyRecords}
use Rattle.zeb_change.specs.declared.records.Progress.{Progress}
use Rattle.zeb_change.specs.declared.settings.Limits.{Limits}
use Rattle.zeb_change.specs.declared.settings.Setting.{Setting}
use Rattle.zeb_change.specs.declared.tally.Fate.{Fate}
use Rattle.zeb_change.specs.Folding.{splits_of}
use Rattle.zeb_change.specs.Noted.{IsDueFor, IsNothingNoted, WillHold}
use Rattle.zeb_change.specs.Outcomes.{marc_refusal}
use Rattle.zeb_register.specs.Tallies.{AreInRange, CountsNothing}
use Rattle.zeb_change.specs.Tallies.{IsTallied}
use Rattle.zeb_change.specs.RecordChanges.{Accepts, AreStores, ChangesRecord, Point}
use Rattle.zeb_change.specs.Refused.{IsFailing, why_of}

-- how far a change is with its files: the tables, the notes, and what became of the records so far
pub record At : Type 0 where
  pub tables : Database
  pub pending : Pending
  pub fold : Fold

abbrev pub point_in : At → Point
point_in a = record { tables = a.tables; pending = a.pending; last = a.fold.progress.last }

-- one record is taken in and counted; more than the limits allow are refused before a record is looked at
abbrev pub FoldsRecord : Setting → ℤ → (file nth : ℕ) → (bytes : List ℕ) → At → At → Result (Unit {0}) Refusal → Type 0
FoldsRecord setting db file nth bytes old new (Ok done) =
    (old.fold.tally.records < setting.limits.records)
    × ((fate : Fate) × Accepts setting db bytes (point_in old) (point_in new) fate × IsTallied fate old.fold.tally new.fold.tally
    × (new.fold.progress.work ≡ old.fold.progress.work))
FoldsRecord setting db file nth bytes old new (Err refusal) =
    ((refusal ≡ TooManyRecords) × (setting.limits.records ≤ old.fold.tally.records))
    ⊎ ((old.fold.tally.records < setting.limits.records) × ChangesRecord setting db file nth bytes (point_in old) (point_in new) (Err refusal))

-- ---- what is noted is written

-- Some of what is noted is written, and the rest is noted still: the registers will hold what they would have held. Beside them nothing of
-- the store is touched, and none of the registers' rows of other databases.
pub record SettlesNotes (format : Format) (row_work : ℕ) (db : ℤ) (old new : At) : Type 0 where
  pub store : AreStores new.tables
  pub lists : KeepsLists old.tables.trees new.tables.trees
  pub beside : KeepsRowsBeside (Int db ∷ []) old.tables.trees new.tables.trees
  pub malformed : keeps_malformed format old.tables.trees new.tables.trees
  pub holds : (ahead : Content) → IsStorable ahead → WillHold format old.tables.trees db old.pending ahead
      → WillHold format new.tables.trees db new.pending ahead
      × IsDueFor format row_work 0 old.tables.trees new.tables.trees old.fold.progress.work new.fold.progress.work old.pending new.pending
  pub counts : AreInRange new.fold.progress.work
  pub last : new.fold.progress.last ≡ old.fold.progress.last
  pub tally : new.fold.tally ≡ old.fold.tally

-- other places stand in the registers than what is noted says
abbrev pub IsUnsettled : Format → ℤ → At → Type 0
IsUnsettled format db a = (ahead : Content) → IsStorable ahead → ¬ WillHold format a.tables.trees db a.pending ahead

-- this is done, and then what is noted is written, or some of it
abbrev pub ThenSettles : Format → (row_work : ℕ) → ℤ → (Does : At → At → Result (Unit {0}) Refusal → Type 0)
    → At → At → Result (Unit {0}) Refusal → Type 0
ThenSettles format row_work db Does old new (Ok done) = (mid : At) × Does old mid (Ok done) × SettlesNotes format row_work db mid new
ThenSettles format row_work db Does old new (Err refusal) =
    IsFailing (why_of refusal) ⊎ (Does old new (Err refusal)
    ⊎ ((refusal ≡ Damaged) × ((mid : At) × Does old mid (Ok tt) × IsUnsettled format db mid)))

-- one record is taken in and counted, and then what is noted is written where that is much
abbrev pub TakesRecord : Setting → Format → (row_work : ℕ) → ℤ → (file nth : ℕ) → (bytes : List ℕ)
    → At → At → Result (Unit {0}) Refusal → Type 0
TakesRecord setting format row_work db file nth bytes = ThenSettles format row_work db (FoldsRecord setting db file nth bytes)

-- ---- one behind the other

-- a step is done for each of these, numbered from n on, up to the first that is refused, and then it ends so
abbrev pub Each : {X : Type 0} → (Step : ℕ → X → At → At → Result (Unit {0}) Refusal → Type 0) → (End : ℕ → At → At → Result (Unit {0}) Refusal → Type 0) → (n : ℕ) → List X
    → At → At → Result (Unit {0}) Refusal → Type 0
Each Step End n [] old new result = End n old new result
Each Step End n (x ∷ xs) old new result =
    ((refusal : Refusal) × (result ≡ Err refusal) × Step n x old new (Err refusal))
    ⊎ ((mid : At) × Step n x old mid (Ok tt) × Each Step End (n + 1) xs mid new result)

-- nothing is left, or a fault that is refused
abbrev pub EndsFile : (file : ℕ) → Option MarcFault → (nth : ℕ) → At → At → Result (Unit {0}) Refusal → Type 0
EndsFile file None nth old new result = (result ≡ Ok tt) × (new ≡ old)
EndsFile file (Some fault) nth old new result = (result ≡ Err (marc_refusal file nth fault)) × (new ≡ old)

-- the records of a file are taken in from the nth on
abbrev pub TakesRest : Setting → Format → (row_work : ℕ) → ℤ → (file nth : ℕ) → Split → At → At → Result (Unit {0}) Refusal → Type 0
TakesRest setting format row_work db file nth split =
    Each (λ n bytes. TakesRecord setting format row_work db file n bytes) (EndsFile file split.fault) nth split.slices

-- no file is left: it is accepted, and nothing changes
abbrev pub EndsAll : At → At → Result (Unit {0}) Refusal → Type 0
EndsAll old new result = (result ≡ Ok tt) × (new ≡ old)

-- the records of files are taken in, one file after the other, from this one on, up to the first that is refused
abbrev pub TakesFiles : Setting → Format → (row_work : ℕ) → ℤ → (file : ℕ) → List Split
    → At → At → Result (Unit {0}) Refusal → Type 0
TakesFiles setting format row_work db =
    Each (λ file split. TakesRest setting format row_work db file 1 split) (λ _. EndsAll)

-- What a change does with files, in rows: their records are taken in, one behind the other, and then all that is noted is written.
abbrev pub ChangesFiles : Setting → Format → (row_work : ℕ) → ℤ → List Split → At → At → Result (Unit {0}) Refusal → Type 0
ChangesFiles setting format row_work db splits old new result =
    ThenSettles format row_work db (TakesFiles setting format row_work db 1 splits) old new result × OnOk result (IsNothingNoted new.pending)

-- It does so from tables beside which nothing is noted yet.
pub record FoldsFiles (setting : Setting) (format : Format) (row_work : ℕ) (db : ℤ) (splits : List Split) (old new : Database) (first last : Fold)
    (result : Result (Unit {0}) Refusal) : Type 0 where
  pub none : Pending
  pub pending : Pending
  pub unnoted : IsNothingNoted none
  pub counts : AreInRange first.progress.work
  pub changes : ChangesFiles setting format row_work db splits (record { tables = old; pending = none; fold = first })
      (record { tables = new; pending = pending; fold = last }) result

-- ---- what readers tell

-- `Does` is said of the slices that are read of all readers; where `Fine` holds, or the call is accepted, these are what the texts are
-- cut into that the readers tell
abbrev pub OfReaders : (Fine : Type 0) → (remains : List (Option (List ℕ))) → (Does : List Split → Result (Unit {0}) Refusal → Type 0)
    → Result (Unit {0}) Refusal → Type 0
OfReaders Fine remains Does result = (splits : List Split)
    × (Fine ⊎ (result ≡ Ok tt) → (texts : List (List ℕ)) → remains ≡ map Some texts → splits ≡ splits_of texts) × Does splits result

-- ---- how far the last number and the counts of work go

-- The database stays, the last number rises no further than the limit, and over a layout that counts nothing the counts of work stay.
pub record Advances (limits : Limits) (format : Format) (row_work : ℕ) (old new : Progress) : Type 0 where
  pub database : new.database ≡ old.database
  pub most : (most : ℕ) → old.last ≤ most → limits.numbers ≤ most → new.last ≤ most
  pub work : CountsNothing format row_work → new.work ≡ old.work
