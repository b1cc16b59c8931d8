-- The words for why a path isn't read, and why a register's store fails, and what the system says of each (this program's own).
use Rattle.std.specs.Prelude.{ℕ, List, codes}
use Rattle.std.specs.declared.io.ErrorKind.{ErrorKind}
use Rattle.std.specs.declared.io.ErrorKind.TheVariants as system
use Rattle.sqlite.specs.declared.error.Error.{Error}
use Rattle.sqlite.specs.declared.error.Error.TheVariants.{SqliteFailure}
use Rattle.sqlite.specs.declared.error.ErrorCode.TheVariants as code
use Rattle.zeb_paths.specs.declared.causes.PathCause.{PathCause}
use Rattle.zeb_paths.specs.declared.causes.PathCause.TheVariants as path
use Rattle.zeb_paths.specs.declared.causes.StoreCause.{StoreCause}
use Rattle.zeb_paths.specs.declared.causes.StoreCause.TheVariants as store

-- the words for why a path isn't read
abbrev pub path_cause_text : PathCause → List ℕ
path_cause_text path.Absent = codes "nothing stands there"
path_cause_text path.Forbidden = codes "no right to read it"
path_cause_text path.Neither = codes "neither a file nor a folder"
path_cause_text path.Folder = codes "a folder, where a file is asked for"
path_cause_text path.TooDeep = codes "a folder below the 32nd level"
path_cause_text path.TooLong = codes "too long"
path_cause_text path.NoText = codes "no UTF-8"
path_cause_text path.NoRecord = codes "no ISO 2709: yaz-marcdump makes it of MARCXML, gunzip unpacks a file"
path_cause_text path.Name = codes "a name that isn't UTF-8 or is too long"
path_cause_text path.Failed = codes "the system failed a call"
path_cause_text path.Memory = codes "out of memory"

-- the words for why a store fails
abbrev pub store_cause_text : StoreCause → List ℕ
store_cause_text store.Held = codes "held by another program"
store_cause_text store.NoFolder = codes "no such folder"
store_cause_text store.Forbidden = codes "no right to write the file, or in its folder"
store_cause_text store.NoFile = codes "no file stands there"
store_cause_text store.LostLink = codes "a link that leads nowhere"
store_cause_text store.Name = codes "a name that SQLite takes for no file's"
store_cause_text store.TwoNames = codes "a file with a second name"
store_cause_text store.Journal = codes "a journal of SQLite stands beside it"
store_cause_text store.Foreign = codes "no register of this program"
store_cause_text store.Full = codes "disk full"
store_cause_text store.Damaged = codes "damaged page"
store_cause_text store.Failed = codes "the system failed a call"
store_cause_text store.Memory = codes "out of memory"

-- why a path isn't read, where the system says this
abbrev pub path_cause_of : ErrorKind → PathCause
path_cause_of system.NotFound = path.Absent
path_cause_of system.NotADirectory = path.Absent
path_cause_of system.PermissionDenied = path.Forbidden
path_cause_of system.InvalidFilename = path.Name
path_cause_of system.OutOfMemory = path.Memory
path_cause_of _ = path.Failed

-- why a store fails, where the system says this of its file, which is there
abbrev pub store_cause_of : ErrorKind → StoreCause
store_cause_of system.NotADirectory = store.NoFolder
store_cause_of system.PermissionDenied = store.Forbidden
store_cause_of system.ReadOnlyFilesystem = store.Forbidden
store_cause_of system.StorageFull = store.Full
store_cause_of system.QuotaExceeded = store.Full
store_cause_of system.OutOfMemory = store.Memory
store_cause_of _ = store.Failed

-- why a store fails, where SQLite's kit says this of it
abbrev pub sqlite_cause_of : Error → StoreCause
sqlite_cause_of (SqliteFailure code.DatabaseBusy) = store.Held
sqlite_cause_of (SqliteFailure code.NotADatabase) = store.Foreign
sqlite_cause_of (SqliteFailure code.DatabaseCorrupt) = store.Damaged
sqlite_cause_of (SqliteFailure code.DiskFull) = store.Full
sqlite_cause_of (SqliteFailure code.OutOfMemory) = store.Memory
sqlite_cause_of _ = store.Failed
