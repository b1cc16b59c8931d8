-- How the store of a register is left once it is closed.
use Rattle.std.specs.Prelude.{◌≡◌, ◌≢◌, ◌⊎◌, ℕ, IsTrue, false, true, Option, None, Some}
use Rattle.sqlite_disk.specs.declared.Disk.{Ghosts}
use Rattle.sqlite_disk.specs.Disk.{MoreFaults}
use Rattle.sqlite_store.specs.declared.store.FileStore.{FileStore}
use Rattle.sqlite_store.specs.FileStore.{log_frames, tally, view}
use Rattle.sqlite_trees.specs.View.{IsClean, View}
use Rattle.sqlite_disk.specs.declared.tally.Tally.{Tally}
use Rattle.zeb_paths.specs.declared.causes.Closed.{Closed}
use Rattle.zeb_paths.specs.declared.causes.StoreCause.{StoreCause}
use Rattle.zeb_paths.specs.declared.causes.StoreCause.TheVariants.{Damaged, Full, Memory}

-- Where it was closed whole, nothing of it stands in its log, if the disk has given back what was written.
abbrev pub IsOneFile : {D : Type 0} {g : Ghosts D} → Closed → FileStore D g → Type 0
IsOneFile closed left = closed.is_whole ≡ true → IsClean (view left) → log_frames left ≡ 0

-- This may be why a store has failed that has met this: a page wasn't as it was written; or else there was no room; or nothing is known.
pub record IsCauseMet (met : Tally) (cause : Option StoreCause) : Type 0 where
  pub damaged : met.caught ≢ 0 → cause ≡ Some Damaged
  pub full : met.caught ≡ 0 → met.refused ≢ 0 → cause ≡ Some Full
  pub none : met.caught ≡ 0 → met.refused ≡ 0 → cause ≡ None

-- it wasn't closed whole for want of memory
abbrev pub IsStarved : Closed → Type 0
IsStarved closed = (closed.is_whole ≡ false) × (closed.cause ≡ Some Memory)

-- How a store is left that was closed so: the cause is that of what its files have met since it was opened, or want of memory.
abbrev pub IsLeft : {D : Type 0} {g : Ghosts D} → Closed → FileStore D g → Type 0
IsLeft closed left = IsOneFile closed left × (IsStarved closed ⊎ IsCauseMet (tally left) closed.cause)

-- Where a store that was open wasn't closed whole, memory ran out, or a call on its files failed or was refused meanwhile, if the disk has given
-- back what was written.
abbrev pub HasReason : {S : Type 0} → (S → View) → (S → ℕ) → S → S → Closed → Type 0
HasReason view faults store left closed =
    closed.is_whole ≡ false → IsClean (view left) → IsTrue (view store).is_open → (closed.cause ≡ Some Memory) ⊎ MoreFaults (faults store) (faults left)
