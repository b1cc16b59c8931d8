-- Why a path isn't read, by what is found there (this program's own).
use Rattle.std.specs.Prelude.{◌≡◌, ◌⊎◌, ℕ, Result, Ok, Err, if◌then◌else◌, nat_lt}
use Rattle.std.specs.Fs.{IsDir, IsFile, file_type, metadata_len}
use Rattle.std.specs.IoError.{error_kind}
use Rattle.std.specs.declared.fs.attrs.Metadata.{Metadata}
use Rattle.std.specs.declared.io.Error.{Error}
use Rattle.zeb_paths.specs.Causes.{path_cause_of}
use Rattle.zeb_paths.specs.declared.causes.PathCause.{PathCause}
use Rattle.zeb_paths.specs.declared.causes.PathCause.TheVariants as path
use Rattle.zeb_paths.specs.declared.paths.Asked.{Asked}
use Rattle.zeb_paths.specs.declared.paths.Asked.TheVariants as asked

-- why a folder isn't read that can be
abbrev pub readable_folder : Asked → PathCause
readable_folder asked.Step = path.TooDeep
readable_folder other = path.Folder

-- Why a file of so many bytes isn't read that can be: it is too long, or no text. One that is neither could not be read before.
abbrev pub readable_file : Asked → ℕ → PathCause
readable_file asked.Text n = if nat_lt 1048576 n then path.TooLong else path.NoText
readable_file asked.Step n = if nat_lt 16777216 n then path.TooLong else path.Failed
readable_file asked.Bytes n = path.Failed

-- This is told of a path that isn't read, where this is found there: why it can't be looked at; or why what stands there can't be read; or else
-- what it is.
abbrev pub IsUnreadBy : Asked → Result Metadata Error → PathCause → Type 0
IsUnreadBy wanted (Err error) cause = cause ≡ path_cause_of (error_kind error)
IsUnreadBy wanted (Ok found) cause =
    ((error : Error) × (cause ≡ path_cause_of (error_kind error)))
    ⊎ ((IsDir (file_type found) → cause ≡ readable_folder wanted) × (IsFile (file_type found) → cause ≡ readable_file wanted (metadata_len found))
    × (¬ IsDir (file_type found) → ¬ IsFile (file_type found) → cause ≡ path.Neither))
