-- What only the contracts of private functions speak of; no public clause reaches it.
-- What the next line of a shell comes to (this program's own).
use Rattle.std.specs.Prelude.{◌≡◌, ◌<◌, ◌⊎◌, ◌↔◌, ℕ, Bool, false, true, List, [], length, Option, Some, None, IfOk, IfSome, IsErr, Result, Ok, Err}
use Rattle.std.specs.declared.alloc.AllocError.{AllocError}
use Rattle.std.specs.Io.KnownBytes.{Consumes, IsAtEnd}
use Rattle.sqlite.specs.Held.{Held, state}
use Rattle.sqlite.specs.State.{HasCleanDisk}
use Rattle.sqlite.specs.Store.{Ghosts}
use Rattle.zeb_change.specs.Conditions.{Conditions}
use Rattle.zeb_register.specs.Formats.{Format}
use Rattle.zeb_paths.specs.Walks.{Tells}
use Rattle.zeb_program.specs.Doing.{KeepsUnread}
use Rattle.zeb_program.specs.FaultLines.{unread_lines}
use Rattle.zeb_program.specs.InputCauses.{EndsInLine}
use Rattle.zeb_program.specs.Lines.{first_line}
use Rattle.zeb_program.specs.OverTables.{LineOver}
use Rattle.zeb_program.specs.PrivateLines.{whole_first_line}
use Rattle.zeb_program.specs.Sinks.{KnownSink}
use Rattle.zeb_program.specs.PrivateSinks.{Sends}
use Rattle.zeb_program.specs.declared.line_input.InputCause.TheVariants.{FailedRead}
use Rattle.zeb_program.specs.declared.line_input.LineFault.{LineFault}
use Rattle.zeb_program.specs.declared.line_input.LineFault.TheVariants.{Unreadable, Memory}
use Rattle.zeb_program.specs.declared.statuses.Status.{Status}
use Rattle.zeb_program.specs.declared.statuses.Status.TheVariants.{Failed}

-- what comes of the next line: it is answered, with this status; there is none; or it can't be read, or isn't answered
abbrev pub ComesTo : (Status → Type 0) → Type 0 → (LineFault → Type 0) → Result (Option Status) LineFault → Type 0
ComesTo Line End Stop (Ok (Some status)) = Line status
ComesTo Line End Stop (Ok None) = End
ComesTo Line End Stop (Err fault) = Stop fault

-- Just the next line is taken from what is left of an input, whatever that tells. It is answered so, also where a write fails; and unless a write has failed,
-- nothing of the answer is held back.
pub record AnswersNextLine {S W : Type 0} (g : Ghosts S) (at : Tells) (format : Format) (c : Conditions) (number : ℕ) (left later : Option (List ℕ)) (held_back : List ℕ) (wrote writes : KnownSink W) (old new : Held S) (status : Status) : Type 0 where
  pub some : IfSome left (λ l. 0 < length l)
  pub taken : IfSome left (λ l. Consumes (Some l) later (whole_first_line l))
  pub passed : writes.failed ≡ false → held_back ≡ []
  pub line : Sends wrote writes (λ bytes. HasCleanDisk (state g new) → IfSome left (λ l. LineOver g at format c number (first_line l) old bytes status new))

-- the next line can't be read, or isn't answered, for this reason, and this is left of the input; on a clean disk nothing is written for it, where the input
-- tells its bytes
abbrev pub StopsAtLine : {S W : Type 0} → Ghosts S → Tells → Format → Conditions → Option (List ℕ) → Option (List ℕ) → KnownSink W → KnownSink W → Held S → Held S → LineFault → Type 0
StopsAtLine g at format c left later wrote writes old new fault =
    Sends wrote writes (λ bytes. HasCleanDisk (state g new) → IfSome left (λ l. (bytes ≡ []) × KeepsUnread g at format c fault l old new))
    × IfSome left (λ l. EndsInLine 16777216 fault l later)

-- How the lines of a shell end shows how far its input was read: one failed to be read just where they end by that, and with a status the input is at
-- its end, or a write has failed, which is `Failed`.
abbrev pub EndsInput : (read_failed failed : Bool) → (left : Option (List ℕ)) → Result Status LineFault → Type 0
EndsInput read_failed failed left result =
    ((result ≡ Err (Unreadable FailedRead)) ↔ (read_failed ≡ true)) × IfOk result (λ status. ((status ≡ Failed) × (failed ≡ true)) ⊎ IsAtEnd left)

-- What is told on the fault output of how the lines of a shell ended: nothing of a status. Of an input that can't be read on the fault, with its cause, and
-- the status is then `Failed`. Nothing where memory ran out.
abbrev pub TellsInput : Result Status LineFault → (told : List ℕ) → Result Status AllocError → Type 0
TellsInput (Ok status) told result = (result ≡ Ok status) × (told ≡ [])
TellsInput (Err (Unreadable cause)) told result = (result ≡ Ok Failed) × (told ≡ unread_lines cause)
TellsInput (Err Memory) told result = IsErr result × (told ≡ [])
