-- A batch as one run: the commands that its lines name, in their order, with the answer to each; and what is written without the tables (this
-- program's own).
use Rattle.std.specs.Prelude.{◌≡◌, ◌⊎◌, ◌↔◌, ◌<◌, ◌+◌, ◌^◌, ℕ, map, IsSome, Option, Some, Result, List, [], ◌∷◌, ◌++◌, length, String, string_bytes}
use Rattle.std.specs.declared.alloc.Global.{Global}
use Rattle.sqlite.specs.Files.{over_files}
use Rattle.zeb_change.specs.Conditions.{Conditions}
use Rattle.zeb_change.specs.declared.refusals.Refusal.{Refusal}
use Rattle.zeb_engine.specs.Answers.{answer_of}
use Rattle.zeb_engine.specs.Steps.{Run}
use Rattle.zeb_engine.specs.declared.commands.Command.{Command}
use Rattle.zeb_engine.specs.declared.replies.Reply.{Reply}
use Rattle.zeb_image.specs.Holdings.{Holdings}
use Rattle.zeb_image.specs.NameOf.{name_bytes}
use Rattle.zeb_paths.specs.Walks.{Tells}
use Rattle.zeb_register.specs.Formats.{packed_blocks}
use Rattle.zeb_program.specs.Answers.{AnswersBatch, EachLine, answer_status, answer_text, bad_line, mark_line}
use Rattle.zeb_program.specs.Batches.{IsChangeOf}
use Rattle.zeb_program.specs.Lines.{first_line, after_first_line}
use Rattle.zeb_program.specs.OverTables.{LineOver, LinesWritten}
use Rattle.zeb_program.specs.PathChanges.{AreFilesTold}
use Rattle.zeb_program.specs.Says.{Says}
use Rattle.zeb_program.specs.ScriptAnswers.{MemoryConnection}
use Rattle.zeb_program.specs.Statuses.{greater}
use Rattle.zeb_program.specs.declared.statuses.Status.{Status}
use Rattle.zeb_program.specs.declared.statuses.Status.TheVariants.{Answered, Misused}
use Rattle.zeb_program.specs.declared.lines.Line.TheVariants.{Remark, Command as Order, Path, Mark, Bad}
use Rattle.zeb_program.specs.declared.path_changes.PathChange.{PathChange}

-- the command makes that change by one file of these bytes
abbrev pub MakesChange : PathChange → List ℕ → Command → Type 0
MakesChange change file = IsChangeOf (λ kind database files. (kind ≡ change.kind) × (name_bytes database ≡ name_bytes change.database) × (files ≡ file ∷ []))

-- the line names a change by a path, and these are the bytes of the file there
abbrev pub NamesFile : (List ℕ → Option (List ℕ)) → List ℕ → PathChange → List ℕ → Type 0
NamesFile told line change file = Says line (Path change) × (told (string_bytes change.path) ≡ Some file)

-- the line names this command, or this change by the bytes of a file at a path
abbrev pub NamesCommand : (List ℕ → Option (List ℕ)) → List ℕ → Command → Type 0
NamesCommand told line command =
    Says line (Order command) ⊎ ((change : PathChange) × (file : List ℕ) × NamesFile told line change file × MakesChange change file command)

-- The lines of a text, which n lines of the input stand before: the commands that they name, an answer to each, what is written for the
-- lines, and the greatest status.
pub data TellsLines : (List ℕ → Option (List ℕ)) → ℕ → List ℕ → List Command → List (Result Reply Refusal) → List ℕ → Status → Type 0 where
  none : {told : List ℕ → Option (List ℕ)} {n : ℕ} → TellsLines told n [] [] [] [] Answered
  remark : {told : List ℕ → Option (List ℕ)} {n : ℕ} {text : List ℕ} {commands : List Command} {answers : List (Result Reply Refusal)} {bytes : List ℕ} {status : Status}
      → 0 < length text → Says (first_line text) Remark → TellsLines told (n + 1) (after_first_line text) commands answers bytes status
      → TellsLines told n text commands answers bytes status
  mark : {told : List ℕ → Option (List ℕ)} {n : ℕ} {text : List ℕ} {commands : List Command} {answers : List (Result Reply Refusal)} {bytes : List ℕ} {status : Status}
      → (marked : String Global) → 0 < length text → Says (first_line text) (Mark marked) → TellsLines told (n + 1) (after_first_line text) commands answers bytes status
      → TellsLines told n text commands answers (mark_line (string_bytes marked) ++ bytes) status
  bad : {told : List ℕ → Option (List ℕ)} {n : ℕ} {text : List ℕ} {commands : List Command} {answers : List (Result Reply Refusal)} {bytes : List ℕ} {status : Status}
      → 0 < length text → Says (first_line text) Bad → TellsLines told (n + 1) (after_first_line text) commands answers bytes status
      → TellsLines told n text commands answers (bad_line (n + 1) ++ bytes) (greater Misused status)
  command : {told : List ℕ → Option (List ℕ)} {n : ℕ} {text : List ℕ} {commands : List Command} {answers : List (Result Reply Refusal)} {bytes : List ℕ} {status : Status}
      → (command : Command) → (answer : Result Reply Refusal) → 0 < length text → NamesCommand told (first_line text) command
      → TellsLines told (n + 1) (after_first_line text) commands answers bytes status
      → TellsLines told n text (command ∷ commands) (answer ∷ answers) (answer_text answer ++ bytes) (greater (answer_status answer) status)

-- what is written for a text's lines is the answers of one run of the commands that they name
abbrev pub IsOneRun : (List ℕ → Option (List ℕ)) → Conditions → ℕ → List ℕ → Holdings → List ℕ → Status → Holdings → Type 0
IsOneRun told c n text before bytes status last =
    (commands : List Command) × (answers : List (Result Reply Refusal)) × TellsLines told n text commands answers bytes status
    × Run c before commands (map answer_of answers) last

-- each file has fewer than 2^63 bytes, as a file that is held has
abbrev pub AreFilesShort : (List ℕ → Option (List ℕ)) → Type 0
AreFilesShort told = (path file : List ℕ) → told path ≡ Some file → length file < 2 ^ 63

-- a batch is answered just as one run of the commands that its lines name
abbrev pub BatchIsOneRun : Type 0
BatchIsOneRun = (told : List ℕ → Option (List ℕ)) (c : Conditions) (n : ℕ) (text : List ℕ) (before : Holdings) (bytes : List ℕ) (status : Status) (last : Holdings)
    → AreFilesShort told → AnswersBatch told c n text (Some before) bytes status (Some last) ↔ IsOneRun told c n text before bytes status last

-- where the bytes of the file are told that each line names, it is known behind every line what the register holds
abbrev pub ToldIsKnown : Type 0
ToldIsKnown = (told : List ℕ → Option (List ℕ)) (c : Conditions) (n : ℕ) (text : List ℕ) (before : Holdings) (bytes : List ℕ) (status : Status) (last : Option Holdings)
    → AreFilesTold told text → AnswersBatch told c n text (Some before) bytes status last → IsSome last

-- What is written for lines on a register in memory, which are answered as on any tables, is what is written for such lines without the tables.
abbrev pub OverIsWritten : Type 0
OverIsWritten = (at : Tells) (c : Conditions) (n : ℕ) (text : List ℕ) (first last : MemoryConnection) (bytes : List ℕ) (status : Status) (rest : List ℕ)
    → EachLine (LineOver over_files at packed_blocks c) n text first bytes status rest last → LinesWritten at n text bytes status rest
