-- What a task, the lines of a batch and those of a shell do over a store, and what is written (this program's own): on any tables, whatever
-- files there are, and on tables that keep what a register holds, where the bytes of a task's files are told, and of lines as far as they are.
use Rattle.std.specs.Prelude.{◌≡◌, ◌⊎◌, ◌<◌, ℕ, Bool, false, length, List, [], Option, IfSome, Result, Ok, Err}
use Rattle.std.specs.declared.alloc.AllocError.{AllocError}
use Rattle.std.specs.Io.KnownBytes.{IsAtEnd}
use Rattle.sqlite.specs.Held.{Held, state}
use Rattle.sqlite.specs.Store.{Ghosts}
use Rattle.zeb_register.specs.Formats.{Format}
use Rattle.zeb_change.specs.Conditions.{Conditions}
use Rattle.zeb_image.specs.Holdings.{Holdings, nothing_yet}
use Rattle.zeb_engine.specs.declared.replies.Reply.{Reply}
use Rattle.zeb_paths.specs.Walks.{Tells}
use Rattle.zeb_program.specs.declared.faults.Fault.{Fault}
use Rattle.zeb_program.specs.declared.line_input.InputCause.{InputCause}
use Rattle.zeb_program.specs.declared.line_input.LineFault.{LineFault}
use Rattle.zeb_program.specs.declared.line_input.LineFault.TheVariants.{Unreadable, Memory}
use Rattle.zeb_program.specs.declared.tasks.Task.{Task}
use Rattle.zeb_program.specs.Answers.{AnswersBatch, AnswersLines, EachLine}
use Rattle.zeb_program.specs.FaultAnswers.{Reaches}
use Rattle.zeb_program.specs.FaultLines.{unread_lines}
use Rattle.zeb_program.specs.Lines.{first_line}
use Rattle.zeb_program.specs.InputCauses.{EndsInLine, is_failed_read}
use Rattle.zeb_program.specs.OverTables.{LineOver, LinesOver, OverNothing, TaskOver}
use Rattle.zeb_program.specs.Serving.{LeadsOn, ServesTask, Stops}
use Rattle.zeb_program.specs.TaskAnswers.{AnswersOn, ReadsWhole, paths_of}
use Rattle.zeb_program.specs.declared.statuses.Status.{Status}
use Rattle.zeb_program.specs.declared.statuses.Status.TheVariants.{Failed}

-- a task is answered over a store: on any tables as the engine says of it (`TaskOver`); accepted only where all files
-- at and below its paths are found, and a path that can't be read is one that a walk over these comes to; and where
-- the bytes of the files at its paths are told, from tables that keep what a register holds to such that keep what it
-- holds then, unless memory ran out in the program, or an analysis can't read a file whole
pub record DoesTask {S : Type 0} (g : Ghosts S) (told : List ℕ → Option (List ℕ)) (at : Tells) (format : Format) (c : Conditions) (task : Task) (result : Result Reply Fault) (old new : Held S) : Type 0 where
  -- as the engine says of it on any tables
  pub over : TaskOver at format c task (state g old) (state g new) result
  -- it is accepted only where all files at and below its paths are found, and a path that can't be read is one that a walk over these comes to
  pub reaches : Reaches at (ReadsWhole task) (paths_of task) result
  -- from tables that keep what a register holds to such that keep what it holds then
  pub serves : ServesTask told c task (state g old) (state g new) result

-- a task is answered on a register in memory that holds nothing yet: of a change a path can't be read, or it is refused
-- as of a register that isn't initialised or by a failure, and an accepted analysis is that of the files which a walk
-- gives; what is accepted has found all files at and below its paths, and a path
-- that can't be read is one that a walk over these comes to; and where the bytes of the files at its paths are told it
-- is the answer by these, unless memory ran out in the program, or an analysis can't read a file whole
pub record DoesOnNothing (told : List ℕ → Option (List ℕ)) (at : Tells) (c : Conditions) (task : Task) (result : Result Reply Fault) : Type 0 where
  -- whatever stands at its paths: a change is refused as of a register that isn't initialised or by a failure, and an analysis is that of the files which a
  -- walk gives, unless a path can't be read, or memory ran out
  pub over : OverNothing at c task result
  -- it is accepted only where all files at and below its paths are found, and a path that can't be read is one that a walk over these comes to
  pub reaches : Reaches at (ReadsWhole task) (paths_of task) result
  -- and where the bytes of the files at its paths are told it is the answer by these, unless memory ran out, or an analysis can't read one whole
  pub answers : AnswersOn told c task result nothing_yet

-- these bytes are the answers to the lines of a text, which n others stand before, each on the tables that the one before it left
pub record RunsText {S : Type 0} (g : Ghosts S) (at : Tells) (format : Format) (c : Conditions) (n : ℕ) (text bytes : List ℕ) (status : Status) (old new : Held S) : Type 0 where
  -- as the engine says of each on any tables
  pub over : LinesOver g at format c n text old bytes status new
  -- from tables that keep what a register holds to such that keep what it holds then
  pub answers : LeadsOn (state g old) (state g new) (λ before later. AnswersBatch at.bytes c n text before bytes status later)

-- these are the answers to the lines of a text, which n others stand before, up to the rest, maybe none, and to no other
pub record RunsFirst {S : Type 0} (g : Ghosts S) (at : Tells) (format : Format) (c : Conditions) (n : ℕ) (text rest bytes : List ℕ) (old last : Held S) : Type 0 where
  pub over : (status : Status) × EachLine (LineOver g at format c) n text old bytes status rest last
  pub answers : Stops (state g old) (λ before. (status : Status) × (last : Option Holdings) × AnswersLines at.bytes c n text before bytes status rest last)

-- the line of this number is done as `LineOver` says of it on any tables, whatever is written of its answer
abbrev pub DoesLine : {S : Type 0} → Ghosts S → Tells → Format → Conditions → ℕ → List ℕ → Held S → Held S → Type 0
DoesLine g at format c number line old new = (bytes : List ℕ) × (status : Status) × LineOver g at format c number line old bytes status new

-- for this line nothing is done, or it is done, under some number, as is said of it on any tables (`DoesLine`)
abbrev pub StopsLine : {S : Type 0} → Ghosts S → Tells → Format → Conditions → List ℕ → Held S → Held S → Type 0
StopsLine g at format c line old new = (new ≡ old) ⊎ ((number : ℕ) × DoesLine g at format c number line old new)

-- the lines of a text, which n others stand before, are done up to the rest, and no other, as `LineOver` says of each,
-- each on the tables that the one before it left
abbrev pub DoesLines : {S : Type 0} → Ghosts S → Tells → Format → Conditions → ℕ → List ℕ → List ℕ → Held S → Held S → Type 0
DoesLines g at format c n text rest old last = (bytes : List ℕ) × (status : Status) × EachLine (LineOver g at format c) n text old bytes status rest last

-- the first lines of a text, which n others stand before, are done, maybe all or none (`DoesLines`), and of those
-- behind them at most the next one (`StopsLine`)
pub record DoesPart {S : Type 0} (g : Ghosts S) (at : Tells) (format : Format) (c : Conditions) (n : ℕ) (text : List ℕ) (old new : Held S) : Type 0 where
  pub rest : List ℕ
  pub last : Held S
  pub first : DoesLines g at format c n text rest old last
  pub next : StopsLine g at format c (first_line rest) last new

-- of the lines of a batch, which n others stand before, all are done where it ends with a status (`DoesLines`),
-- whatever is written of them, and only the first ones where memory ran out for the program itself (`DoesPart`)
abbrev pub DoesBatch : {S : Type 0} → Ghosts S → Tells → Format → Conditions → ℕ → List ℕ → Result Status AllocError → Held S → Held S → Type 0
DoesBatch g at format c n text (Ok status) old new = DoesLines g at format c n text [] old new
DoesBatch g at format c n text (Err error) old new = DoesPart g at format c n text old new

-- of a shell the first lines are done, maybe all or none (`DoesPart`), where its input tells its bytes
abbrev pub DoesShell : {S : Type 0} → Ghosts S → Tells → Format → Conditions → Option (List ℕ) → Held S → Held S → Type 0
DoesShell g at format c given old new = IfSome given (λ text. DoesPart g at format c 0 text old new)

-- these are the answers to the lines of a text, which n others stand before, up to one at which memory ran out
pub record StopsPart {S : Type 0} (g : Ghosts S) (at : Tells) (format : Format) (c : Conditions) (n : ℕ) (text bytes : List ℕ) (old new : Held S) : Type 0 where
  pub rest : List ℕ
  pub last : Held S
  pub some : 0 < length rest
  pub first : RunsFirst g at format c n text rest bytes old last
  pub stops : StopsLine g at format c (first_line rest) last new

-- where the next line of a text can't be read nothing is done for it; where memory runs out at it, it may be done
-- (`StopsLine`)
abbrev pub KeepsUnread : {S : Type 0} → Ghosts S → Tells → Format → Conditions → LineFault → List ℕ → Held S → Held S → Type 0
KeepsUnread g at format c (Unreadable cause) text old new = new ≡ old
KeepsUnread g at format c Memory text old new = StopsLine g at format c (first_line text) old new

-- A shell of these lines ends early, for this reason, and this is left of its input: these are the answers to the lines before the one at which it
-- ends, and of no line but that one a byte is gone that isn't answered.
pub record StopsText {S : Type 0} (g : Ghosts S) (at : Tells) (format : Format) (c : Conditions) (why : LineFault) (text : List ℕ) (left : Option (List ℕ)) (bytes : List ℕ) (old new : Held S) : Type 0 where
  pub rest : List ℕ
  pub last : Held S
  pub first : RunsFirst g at format c 0 text rest bytes old last
  pub ends : EndsInLine 16777216 why rest left
  pub keeps : KeepsUnread g at format c why rest last new

-- of a shell all lines are answered, up to the input's end, and nothing goes to the fault output; or those before a
-- line that can't be read are answered, and the fault output says with its cause that it can't be, with status 3
pub data ServesText {S : Type 0} (g : Ghosts S) (at : Tells) (format : Format) (c : Conditions) (text : List ℕ) (left : Option (List ℕ)) (failed : Bool) (bytes told : List ℕ) (status : Status) (old new : Held S) : Type 0 where
  -- all are answered so, up to the input's end, and nothing goes to the fault output
  all_served : RunsText g at format c 0 text bytes status old new → IsAtEnd left → failed ≡ false → told ≡ []
      → ServesText g at format c text left failed bytes told status old new
  -- or the line behind those that are can't be read, which is told there with its cause
  first_served : (cause : InputCause) → StopsText g at format c (Unreadable cause) text left bytes old new → failed ≡ is_failed_read cause
      → told ≡ unread_lines cause → status ≡ Failed → ServesText g at format c text left failed bytes told status old new
