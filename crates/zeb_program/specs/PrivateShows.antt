-- What only the contracts of private functions speak of; no public clause reaches it.
-- What is to be written of commands and lines as they are done, whatever the writer does (this program's own).
use Rattle.std.specs.Prelude.{◌≡◌, ◌<◌, ◌⊎◌, ℕ, Bool, false, List, [], length, MatchResult, Option, Result, Ok, Err}
use Rattle.std.specs.declared.alloc.AllocError.{AllocError}
use Rattle.sqlite.specs.Held.{Held, state}
use Rattle.sqlite.specs.Store.{Ghosts}
use Rattle.zeb_change.specs.Conditions.{Conditions}
use Rattle.zeb_engine.specs.declared.commands.Command.{Command}
use Rattle.zeb_paths.specs.Walks.{Tells}
use Rattle.zeb_register.specs.Formats.{Format}
use Rattle.zeb_program.specs.declared.line_input.LineFault.{LineFault}
use Rattle.zeb_program.specs.declared.path_changes.PathChange.{PathChange}
use Rattle.zeb_program.specs.declared.statuses.Status.{Status}
use Rattle.zeb_program.specs.Answers.{EachLine}
use Rattle.zeb_program.specs.Doing.{KeepsUnread, StopsLine}
use Rattle.zeb_program.specs.InputCauses.{EndsInLine}
use Rattle.zeb_program.specs.Lines.{first_line}
use Rattle.zeb_program.specs.OverTables.{CommandOver, LineOver, LinesOver, PathOver}

-- what is written of a step, and its status, are so; and where memory runs out for that, nothing is written, and Stops is so
abbrev pub Shows : (List ℕ → Status → Type 0) → Type 0 → List ℕ → Result Status AllocError → Type 0
Shows Over Stops bytes result = MatchResult result (Over bytes) (λ error. (bytes ≡ []) × Stops)

-- the step is done, whatever is written of it
abbrev pub IsDone : (List ℕ → Status → Type 0) → Type 0
IsDone Over = (bytes : List ℕ) × (status : Status) × Over bytes status

-- a command is answered so, also where memory runs out for what is written
abbrev pub ShowsCommand : {S : Type 0} → Ghosts S → Format → Conditions → Command → (old new : Held S) → List ℕ → Result Status AllocError → Type 0
ShowsCommand g format c command old new =
    Shows (λ bytes status. CommandOver format c command (state g old) bytes status (state g new))
    (IsDone (λ bytes status. CommandOver format c command (state g old) bytes status (state g new)))

-- so is a change by a path; and where memory runs out it is done all the same, or nothing is
abbrev pub ShowsPath : {S : Type 0} → Ghosts S → Tells → Format → Conditions → PathChange → (old new : Held S) → List ℕ → Result Status AllocError → Type 0
ShowsPath g at format c change old new =
    Shows (λ bytes status. PathOver at format c change (state g old) bytes status (state g new))
    ((new ≡ old) ⊎ IsDone (λ bytes status. PathOver at format c change (state g old) bytes status (state g new)))

-- and a line, by its number and its text
abbrev pub ShowsLine : {S : Type 0} → Ghosts S → Tells → Format → Conditions → ℕ → List ℕ → (old new : Held S) → List ℕ → Result Status AllocError → Type 0
ShowsLine g at format c number text old new =
    Shows (λ bytes status. LineOver g at format c number text old bytes status new) (StopsLine g at format c text old new)

-- Of a text, which n lines stand before, the first lines are answered so, maybe none. At the next one memory runs out, and
-- at most that one is done.
pub record BreaksOff {S : Type 0} (g : Ghosts S) (at : Tells) (format : Format) (c : Conditions) (n : ℕ) (text : List ℕ) (old new : Held S) (bytes : List ℕ) : Type 0 where
  pub rest : List ℕ
  pub last : Held S
  pub status : Status
  pub some : 0 < length rest
  pub first : EachLine (LineOver g at format c) n text old bytes status rest last
  pub stops : StopsLine g at format c (first_line rest) last new

-- the lines of a batch are answered so, or it breaks off
abbrev pub ShowsBatch : {S : Type 0} → Ghosts S → Tells → Format → Conditions → ℕ → List ℕ → (old new : Held S) → List ℕ → Result Status AllocError → Type 0
ShowsBatch g at format c n text old new bytes (Ok status) = LinesOver g at format c n text old bytes status new
ShowsBatch g at format c n text old new bytes (Err error) = BreaksOff g at format c n text old new bytes

-- How a shell ends behind the lines that are answered. With a status nothing more is done; unless a write has failed, no
-- line is left, and the status is the greatest. Or the next line can't be read, or isn't answered, and this is left of the
-- input.
abbrev pub EndsShell : {S : Type 0} → Ghosts S → Tells → Format → Conditions → (left : Option (List ℕ)) → Bool → (rest : List ℕ) → (greatest : Status) → (last new : Held S) → Result Status LineFault → Type 0
EndsShell g at format c left failed rest greatest last new (Ok status) = (new ≡ last) × (failed ≡ false → (rest ≡ []) × (greatest ≡ status))
EndsShell g at format c left failed rest greatest last new (Err why) = EndsInLine 16777216 why rest left × KeepsUnread g at format c why rest last new

-- the first lines of a shell, maybe all or none, are answered so, and it ends behind them
pub record ShowsShell {S : Type 0} (g : Ghosts S) (at : Tells) (format : Format) (c : Conditions) (text : List ℕ) (left : Option (List ℕ)) (failed : Bool) (old new : Held S) (bytes : List ℕ) (result : Result Status LineFault) : Type 0 where
  pub rest : List ℕ
  pub last : Held S
  pub greatest : Status
  pub first : EachLine (LineOver g at format c) 0 text old bytes greatest rest last
  pub ends : EndsShell g at format c left failed rest greatest last new result
