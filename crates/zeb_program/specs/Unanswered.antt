-- What is told where nothing is answered (this program's own): why, and how the store of a register was closed, if it was open.
use Rattle.std.specs.Prelude.{◌≡◌, ◌++◌, ℕ, false, List, Option, String}
use Rattle.std.specs.declared.alloc.Global.{Global}
use Rattle.std.specs.Io.KnownBytes.{Appends}
use Rattle.zeb_paths.specs.declared.causes.Closed.{Closed}
use Rattle.zeb_program.specs.Closings.{leaving_lines}
use Rattle.zeb_program.specs.Explanations.{NamesRegister}
use Rattle.zeb_program.specs.FaultLines.{TellsFault, TellsPlaced}
use Rattle.zeb_program.specs.Sinks.{KnownSink}
use Rattle.zeb_program.specs.Statuses.{IsFaultStatus, closing_status, greater}
use Rattle.zeb_program.specs.declared.failures.Cause.{Cause}
use Rattle.zeb_program.specs.declared.faults.Fault.{Fault}
use Rattle.zeb_program.specs.declared.statuses.Status.{Status}

-- this line is among what was sent since, unless a write has failed
abbrev pub IsToldSince : {W : Type 0} → KnownSink W → KnownSink W → List ℕ → Type 0
IsToldSince old new line = new.failed ≡ false → (before : List ℕ) × (after : List ℕ) × Appends old.known new.known (before ++ (line ++ after))

-- the line of this fault is told; for want of memory in the program itself there is none
abbrev pub TellsLineOf : (Told : List ℕ → Type 0) → Fault → Type 0
TellsLineOf Told fault = (line : List ℕ) × (status : Status) × TellsFault fault line status × Told line

-- The lines of a fault and its cause, and of one about the register its path, by the profile in this file, of which these bytes are told.
abbrev pub TellsNamed : Option (List ℕ) → String Global → Fault → Option Cause → List ℕ → Status → Type 0
TellsNamed file config fault cause told status =
    (register : Option (String Global)) × NamesRegister file config fault register × TellsPlaced fault cause register told status

-- Those lines, and below them that the register's file needs its log, where it wasn't closed whole. The status is the greater of both.
abbrev pub TellsUnanswered : Option (List ℕ) → String Global → Fault → Option Cause → Closed → List ℕ → Status → Type 0
TellsUnanswered file config fault cause closed told status =
    (first : Status) × (lines : List ℕ) × IsFaultStatus first × (status ≡ greater first (closing_status closed))
    × TellsNamed file config fault cause lines first × (told ≡ lines ++ leaving_lines closed)
