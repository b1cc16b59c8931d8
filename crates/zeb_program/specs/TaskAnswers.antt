-- What a register answers to a task that words name (this program's own).
use Rattle.std.specs.Prelude.{◌≡◌, ◌⊎◌, ⊤, ℕ, Option, Some, Result, List, [], ◌∷◌, map, string_bytes}
use Rattle.zeb_change.specs.Conditions.{Conditions}
use Rattle.zeb_change.specs.declared.refusals.Refusal.{Refusal}
use Rattle.zeb_engine.specs.Analysed.{IsAnalysed}
use Rattle.zeb_engine.specs.Answers.{answer_of}
use Rattle.zeb_engine.specs.Steps.{TellsOrFails, OnlyAnswers, Run}
use Rattle.zeb_engine.specs.declared.commands.Command.{Command}
use Rattle.zeb_engine.specs.declared.replies.Reply.{Reply}
use Rattle.zeb_image.specs.Holdings.{Holdings}
use Rattle.zeb_image.specs.NameOf.{name_bytes}
use Rattle.zeb_program.specs.declared.tasks.Task.{Task}
use Rattle.zeb_program.specs.declared.tasks.Task.TheVariants.{Ask, Change, Analyse}
use Rattle.zeb_program.specs.declared.faults.Fault.{Fault}
use Rattle.zeb_program.specs.Answers.{ChangesBy}
use Rattle.zeb_program.specs.FaultAnswers.{GivesAnswer, IsUnreadWhole}

-- the task has its files read whole, not record by record
abbrev pub ReadsWhole : Task → Type 0
ReadsWhole (Ask command) = ⊥
ReadsWhole (Change kind database paths) = ⊥
ReadsWhole (Analyse paths) = ⊤

-- the paths that a task names
abbrev pub paths_of : Task → List (List ℕ)
paths_of (Ask command) = []
paths_of (Change kind database paths) = map string_bytes paths.items
paths_of (Analyse paths) = map string_bytes paths.items

-- these are the bytes of the files at these paths, one file at each
abbrev pub AreTold : (List ℕ → Option (List ℕ)) → List (List ℕ) → List (List ℕ) → Type 0
AreTold told paths files = map told paths ≡ map Some files

-- the answer to a command is that of a run of it
abbrev pub AnswersCommand : Conditions → Command → Holdings → Result Reply Refusal → Holdings → Type 0
AnswersCommand c command before answer later = Run c before (command ∷ []) (answer_of answer ∷ []) later

-- the answer to an analysis of files of these bytes
abbrev pub AnalysesFiles : Conditions → List (List ℕ) → Holdings → Result Reply Refusal → Holdings → Type 0
AnalysesFiles c files before answer later = TellsOrFails (OnlyAnswers (IsAnalysed c.profile c.limits.records files)) before (answer_of answer) later

-- the answer to a task, where these are the bytes of the files at its paths, and what the register holds then
abbrev pub AnswersTask : Conditions → Task → List (List ℕ) → Holdings → Result Reply Refusal → Holdings → Type 0
AnswersTask c (Ask command) files = AnswersCommand c command
AnswersTask c (Change kind database paths) files = ChangesBy c kind (name_bytes database) files
AnswersTask c (Analyse paths) files = AnalysesFiles c files

-- This is answered to a task on what a register holds, where the bytes of a file at each of its paths are told: the answer to it, or that one of
-- these can't be read, where they are read whole, and may have too many bytes.
abbrev pub AnswersOn : (List ℕ → Option (List ℕ)) → Conditions → Task → Result Reply Fault → Holdings → Type 0
AnswersOn told c task result before = (files : List (List ℕ)) → AreTold told (paths_of task) files
    → GivesAnswer (λ answer. (later : Holdings) × AnswersTask c task files before answer later) result ⊎ (ReadsWhole task × IsUnreadWhole told result)
