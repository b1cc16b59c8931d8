-- What only the contracts of private functions speak of; no public clause reaches it.
use Rattle.std.specs.Prelude.{◌≡◌, ℕ, length, IfErr, Result, Ok, Err, string_bytes}
use Rattle.sqlite.specs.Held.{Held, state}
use Rattle.sqlite.specs.State.{HasCleanDisk, State}
use Rattle.sqlite.specs.Store.{Ghosts}
use Rattle.zeb_change.specs.Conditions.{Conditions}
use Rattle.zeb_engine.specs.Replies.{reply_text}
use Rattle.zeb_engine.specs.declared.replies.Reply.{Reply}
use Rattle.zeb_engine.specs.declared.replies.Reply.TheVariants.{Analysed}
use Rattle.zeb_program.specs.declared.faults.Fault.{Fault}
use Rattle.zeb_program.specs.declared.tasks.Served.{Served}
use Rattle.zeb_program.specs.declared.tasks.Served.TheVariants.{Replied, Shown}
use Rattle.zeb_program.specs.declared.tasks.Task.{Task}
use Rattle.zeb_program.specs.FaultAnswers.{Reaches}
use Rattle.zeb_program.specs.OverTables.{TaskOver}
use Rattle.zeb_program.specs.PrivateFaults.{IsUnread}
use Rattle.zeb_program.specs.TaskAnswers.{ReadsWhole, paths_of}
use Rattle.zeb_paths.specs.Walks.{Tells}
use Rattle.zeb_register.specs.Formats.{Format}

-- how many records a reply has analysed
abbrev pub analyses_in : Reply → ℕ
analyses_in (Analysed names analyses) = length analyses.items
analyses_in other = 0

-- What a task is answered stands for this answer of a register: a reply, or the lines of one, and how many records it has analysed.
abbrev pub StandsFor : Result Served Fault → Result Reply Fault → Type 0
StandsFor (Ok (Replied reply)) answer = answer ≡ Ok reply
StandsFor (Ok (Shown lines unmarked)) answer =
    (reply : Reply) × (answer ≡ Ok reply) × (string_bytes lines.text ≡ reply_text reply) × (lines.records ≡ analyses_in reply)
StandsFor (Err fault) answer = answer ≡ Err fault

-- what is answered so is what is said of a task, from these tables to those
pub record CarriesOut (at : Tells) (format : Format) (c : Conditions) (task : Task) (old new : State) (answer : Result Reply Fault) : Type 0 where
  -- as the engine says of it on any tables, and refused it changes nothing
  pub over : HasCleanDisk new → TaskOver at format c task old new answer
  -- it is accepted only where all files at and below its paths are found, and a path that can't be read is one that a walk over these comes to
  pub reaches : Reaches at (ReadsWhole task) (paths_of task) answer

-- Whatever the disk does, an analysis leaves the connection as it is, and where something couldn't be read the whole session is the same; and the disk was
-- clean where it is.
abbrev pub KeepsStill : {S : Type 0} → Ghosts S → Task → Result Served Fault → (old new : Held S) → Type 0 → Type 0
KeepsStill g task result old new Same =
    (HasCleanDisk (state g new) → HasCleanDisk (state g old)) × (ReadsWhole task → new ≡ old) × IfErr result (λ fault. IsUnread fault → Same)
