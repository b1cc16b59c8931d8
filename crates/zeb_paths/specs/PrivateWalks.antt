-- What only the contracts of private functions speak of; no public clause reaches it.
-- What a walk sees.
use Rattle.std.specs.Prelude.{◌≡◌, ◌++◌, ℕ, List, Result, Ok, Err}
use Rattle.zeb_paths.specs.Walks.{Due, IsEntered, IsRefused, MayStand, Tells, dues_in}
use Rattle.zeb_paths.specs.declared.causes.PathCause.{PathCause}
use Rattle.zeb_paths.specs.declared.paths.PathKind.{PathKind}
use Rattle.zeb_paths.specs.declared.paths.PathKind.TheVariants.{File, Folder}

-- What is seen at a path that was taken off, where these are left then: a file, a folder in whose place its names are put, or why it isn't read.
abbrev pub Sees : Tells → Due → Result PathKind PathCause → List Due → List Due → Type 0
Sees at here (Ok File) left later = MayStand at here.path (Ok File) × (later ≡ left)
Sees at here (Ok Folder) left later = (names : List (List ℕ)) × IsEntered at here names × (later ≡ dues_in here names ++ left)
Sees at here (Err why) left later = IsRefused at here why
