-- What only the contracts of private functions speak of; no public clause reaches it.
-- What SQLite's kit says of a store whose files aren't opened (this program's own).
use Rattle.std.specs.IoError.{error_kind}
use Rattle.std.specs.declared.io.ErrorKind.{ErrorKind}
use Rattle.std.specs.declared.io.ErrorKind.TheVariants as system
use Rattle.sqlite.specs.declared.error.Error.{Error}
use Rattle.sqlite.specs.declared.error.Error.TheVariants.{SqliteFailure}
use Rattle.sqlite.specs.declared.error.ErrorCode.TheVariants as code
use Rattle.sqlite_std_file.specs.declared.pair.OpenError.{OpenError}
use Rattle.sqlite_std_file.specs.declared.pair.OpenError.TheVariants as files

-- what it says where the system says this of the files
abbrev pub system_error_of : ErrorKind → Error
system_error_of system.OutOfMemory = SqliteFailure code.OutOfMemory
system_error_of _ = SqliteFailure code.CannotOpen

-- what it says of a store whose files aren't opened for this cause
abbrev pub sqlite_error_of : OpenError → Error
sqlite_error_of files.Busy = SqliteFailure code.DatabaseBusy
sqlite_error_of files.OutOfMemory = SqliteFailure code.OutOfMemory
sqlite_error_of (files.Io error) = system_error_of (error_kind error)
sqlite_error_of files.HotJournal = SqliteFailure code.CannotOpen
