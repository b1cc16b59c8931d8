-- What a call on a store that is closed has given.
use Rattle.std.proofs.Common.{◌≡◌, ◌≤◌, ◌⊎◌, ℕ, true, false, arith, inl, inr}
use Rattle.std.specs.Prelude.{IfErr, IsTrue, Result, Ok, Err, OnOk, Some}
use Rattle.sqlite_disk.specs.Disk.{MoreFaults}
use Rattle.sqlite_disk.specs.declared.tally.Tally.{Tally}
use Rattle.sqlite_trees.specs.View.{HasCause, View}
use Rattle.sqlite_trees.specs.declared.error.StoreError.{StoreError}
use Rattle.sqlite_trees.specs.declared.error.StoreError.TheVariants.{OutOfMemory, Io, Corrupt, Full, Broken, Unstorable}
use Rattle.zeb_paths.specs.Closing.{IsCauseMet, IsStarved}
use Rattle.zeb_paths.specs.PrivateClosings.{IsClosedBy}
use Rattle.zeb_paths.specs.declared.causes.Closed.{Closed}
use Rattle.zeb_paths.specs.declared.causes.StoreCause.TheVariants as cause

-- what is said of an accepted call is so where the store was closed whole
pub on_whole : (copied : Result (Unit {0}) StoreError) (met : Tally) (closed : Closed) (P : Type 0) → IsClosedBy copied met closed → closed.is_whole ≡ true → OnOk copied P → P
on_whole (Ok done) met closed P by whole h = h
on_whole (Err OutOfMemory) met closed P by whole h = absurd (let part = by.0 in cc)
on_whole (Err Io) met closed P by whole h = absurd (let part = by.0 in cc)
on_whole (Err Corrupt) met closed P by whole h = absurd (let part = by.0 in cc)
on_whole (Err Full) met closed P by whole h = absurd (let part = by.0 in cc)
on_whole (Err Broken) met closed P by whole h = absurd (let part = by.0 in cc)
on_whole (Err Unstorable) met closed P by whole h = absurd (let part = by.0 in cc)

pub cause_by : (copied : Result (Unit {0}) StoreError) (met : Tally) (closed : Closed) → IsClosedBy copied met closed → IsStarved closed ⊎ IsCauseMet met closed.cause
cause_by (Ok done) met closed by = inr by.1
cause_by (Err OutOfMemory) met closed by = inl by
cause_by (Err Io) met closed by = inr by.1
cause_by (Err Corrupt) met closed by = inr by.1
cause_by (Err Full) met closed by = inr by.1
cause_by (Err Broken) met closed by = inr by.1
cause_by (Err Unstorable) met closed by = inr by.1

-- Why a store wasn't closed whole, by why its log wasn't copied: it had counted so many faults at first, and so many before the copy.
pub reason_by : (copied : Result (Unit {0}) StoreError) (met : Tally) (closed : Closed) (before : View) (first mid last : ℕ) → IsClosedBy copied met closed → closed.is_whole ≡ false → first ≤ mid → mid ≤ last
    → IfErr copied (HasCause before (MoreFaults mid last) ⊥) → (IsTrue before.is_broken → MoreFaults first mid) → (closed.cause ≡ Some cause.Memory) ⊎ MoreFaults first last
reason_by (Ok done) met closed before first mid last by part low high why broken = absurd (let whole = by.0 in cc)
reason_by (Err OutOfMemory) met closed before first mid last by part low high why broken = inl by.1
reason_by (Err Io) met closed before first mid last by part low high why broken = inr (omega arith)
reason_by (Err Corrupt) met closed before first mid last by part low high why broken = inr (omega arith)
reason_by (Err Full) met closed before first mid last by part low high why broken = inr (omega arith)
reason_by (Err Broken) met closed before first mid last by part low high why broken = let more = broken why in inr (omega arith)
reason_by (Err Unstorable) met closed before first mid last by part low high why broken = absurd why
