-- What only the contracts of private functions speak of; no public clause reaches it.
-- Why a file isn't opened of which SQLite's kit says no more than that it can't be, and whether a store may stand at a path (this program's own).
use Rattle.std.specs.Prelude.{◌≡◌, ◌≢◌, Bool, false, true, Result, Ok, Err}
use Rattle.std.specs.Fs.{IsDir, IsFile, file_type, metadata_len}
use Rattle.std.specs.IoError.{error_kind}
use Rattle.std.specs.Result.{IsOkAnd}
use Rattle.std.specs.declared.fs.attrs.Metadata.{Metadata}
use Rattle.std.specs.declared.io.Error.{Error}
use Rattle.std.specs.declared.io.ErrorKind.{ErrorKind}
use Rattle.std.specs.declared.io.ErrorKind.TheVariants as system
use Rattle.zeb_paths.specs.Causes.{path_cause_of, store_cause_of}
use Rattle.zeb_paths.specs.declared.causes.PathCause.{PathCause}
use Rattle.zeb_paths.specs.declared.causes.StoreCause.{StoreCause}
use Rattle.zeb_paths.specs.declared.causes.StoreCause.TheVariants as store

-- the cause that a look gives, or that of the call that fails in it
abbrev pub read_cause : Result PathCause Error → PathCause
read_cause (Ok cause) = cause
read_cause (Err error) = path_cause_of (error_kind error)

-- whether a look at what stands at its path, and beside it, may tell this
abbrev pub is_looked_up : StoreCause → Bool
is_looked_up store.Held = false
is_looked_up store.Foreign = false
is_looked_up store.Damaged = false
is_looked_up _ = true

-- why none can be made where nothing stands, where the system says this of its folder
abbrev pub folder_cause_of : ErrorKind → StoreCause
folder_cause_of system.NotFound = store.NoFolder
folder_cause_of other = store_cause_of other

-- none can be made in a folder of which this is found, for this cause
abbrev pub IsUnmade : Result Metadata Error → StoreCause → Type 0
IsUnmade (Ok found) cause = (IsDir (file_type found) → cause ≡ store.Forbidden) × (¬ IsDir (file_type found) → cause ≡ store.NoFolder)
IsUnmade (Err error) cause = cause ≡ folder_cause_of (error_kind error)

-- none stands at a path, where this is found if no link is followed: a link that leads nowhere, or nothing, in a folder where none can be made
abbrev pub IsMissed : Result Metadata Error → StoreCause → Type 0
IsMissed (Ok link) cause = cause ≡ store.LostLink
IsMissed (Err error) cause = (folder : Result Metadata Error) × IsUnmade folder cause

-- This is told of a store at a path where this is found: no file; nothing, or a link to nothing; or why the path can't be looked at.
abbrev pub IsLookedUp : Result Metadata Error → StoreCause → Type 0
IsLookedUp (Ok found) cause = ¬ IsFile (file_type found) → cause ≡ store.NoFile
IsLookedUp (Err error) cause =
    (error_kind error ≡ system.NotFound → (link : Result Metadata Error) × IsMissed link cause)
    × (error_kind error ≢ system.NotFound → cause ≡ store_cause_of (error_kind error))

-- what a look tells; where it meets nothing the system has failed a call before
abbrev pub told_by_look : Result (Unit {0}) StoreCause → StoreCause
told_by_look (Ok done) = store.Failed
told_by_look (Err cause) = cause

-- why one that is there isn't opened, where the system says this of its log, which can't be opened: one that isn't there could not be made
abbrev pub log_cause_of : ErrorKind → StoreCause
log_cause_of system.NotFound = store.Forbidden
log_cause_of other = store_cause_of other

-- No store stands at a path where this is found, but one could be made: the system says that nothing stands there, and a folder is found where its
-- folder is looked at; or a file of no bytes stands there, and nothing beside it.
abbrev pub IsFree : Result Metadata Error → Result Metadata Error → (alone : Bool) → Type 0
IsFree (Ok found) folder alone = IsFile (file_type found) × (metadata_len found ≡ 0) × (alone ≡ true)
IsFree (Err error) folder alone = (error_kind error ≡ system.NotFound) × IsOkAnd folder (λ metadata. IsDir (file_type metadata))
