-- What only the contracts of private functions speak of; no public clause reaches it.
-- How a store is closed, by what its log's copy into its file was answered.
use Rattle.std.specs.Prelude.{◌≡◌, false, true, Result, Ok, Err}
use Rattle.sqlite_disk.specs.declared.tally.Tally.{Tally}
use Rattle.sqlite_trees.specs.declared.error.StoreError.{StoreError}
use Rattle.sqlite_trees.specs.declared.error.StoreError.TheVariants.{OutOfMemory}
use Rattle.zeb_paths.specs.Closing.{IsCauseMet, IsStarved}
use Rattle.zeb_paths.specs.declared.causes.Closed.{Closed}

-- whole where it was copied; else not, and want of memory is told as such
abbrev pub IsClosedBy : Result (Unit {0}) StoreError → Tally → Closed → Type 0
IsClosedBy (Ok done) met closed = (closed.is_whole ≡ true) × IsCauseMet met closed.cause
IsClosedBy (Err OutOfMemory) met closed = IsStarved closed
IsClosedBy (Err other) met closed = (closed.is_whole ≡ false) × IsCauseMet met closed.cause
