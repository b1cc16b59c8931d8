-- What becomes of the register's store for words, whatever is written, and whatever fails (this program's own).
use Rattle.std.specs.Prelude.{◌≡◌, ◌⊎◌, ⊤, ℕ, Bool, IsErr, List, Option, Result, Ok, Err, OnErr, String}
use Rattle.std.specs.declared.alloc.AllocError.{AllocError}
use Rattle.std.specs.declared.alloc.Global.{Global}
use Rattle.sqlite.specs.Held.{Held}
use Rattle.zeb_change.specs.Conditions.{Conditions}
use Rattle.zeb_change.specs.declared.refusals.Refusal.{Refusal}
use Rattle.zeb_engine.specs.declared.commands.Command.TheVariants.{Init}
use Rattle.zeb_engine.specs.declared.replies.Reply.{Reply}
use Rattle.zeb_paths.specs.declared.causes.Closed.{Closed}
use Rattle.zeb_profile.specs.declared.directives.Directive.{Directive}
use Rattle.zeb_register.specs.Formats.{Format}
use Rattle.zeb_words.specs.Names.{NamesNone, NamesWords}
use Rattle.zeb_words.specs.declared.words.Act.TheVariants.{Batch, Shell}
use Rattle.zeb_words.specs.declared.words.LayoutChoice.{LayoutChoice}
use Rattle.zeb_words.specs.declared.words.LayoutChoice.TheVariants.{Unsaid}
use Rattle.zeb_words.specs.declared.words.Usage.{Usage}
use Rattle.zeb_words.specs.declared.words.Usage.TheVariants.{Memory}
use Rattle.zeb_words.specs.declared.words.Words.{Words}
use Rattle.zeb_program.specs.Doing.{DoesBatch, DoesShell, DoesTask}
use Rattle.zeb_program.specs.Errands.{IsTaskOf, choice_of}
use Rattle.zeb_program.specs.FixedLines.{starved_line}
use Rattle.zeb_program.specs.Registers.{FailsOpening, FromStore, HasStore, LacksStore, Places}
use Rattle.zeb_program.specs.ScriptAnswers.{AreConditionsIn}
use Rattle.zeb_program.specs.Scripts.{BeginsRegister}
use Rattle.zeb_program.specs.WordRuns.{IsText, ReadsAt, StopsReading}
use Rattle.zeb_program.specs.Statuses.{status_code}
use Rattle.zeb_program.specs.Unanswered.{TellsLineOf}
use Rattle.zeb_program.specs.declared.failures.Cause.{Cause}
use Rattle.zeb_program.specs.declared.faults.Fault.{Fault}
use Rattle.zeb_program.specs.declared.faults.Fault.TheVariants.{Refused}
use Rattle.zeb_program.specs.declared.statuses.Status.{Status}
use Rattle.zeb_program.specs.declared.statuses.Status.TheVariants.{Failed}
use Rattle.zeb_program.specs.declared.tasks.Task.{Task}
use Rattle.zeb_program.specs.declared.tasks.Task.TheVariants.{Ask}

-- the line of this fault is told, or memory ran out for the program itself
abbrev pub TellsOrStarves : Result Status AllocError → (Told : List ℕ → Type 0) → Fault → Type 0
TellsOrStarves ended Told fault = IsErr ended ⊎ TellsLineOf Told fault

-- so it is of the fault of a task that isn't answered
abbrev pub TellsRefused : Result Status AllocError → (Told : List ℕ → Type 0) → Result Reply Fault → Type 0
TellsRefused ended Told (Ok reply) = ⊤
TellsRefused ended Told (Err fault) = TellsOrStarves ended Told fault

-- what becomes of the store at a profile's path, on which this is to be done: none is opened, where none may stand
-- there and none is to be made; else no register is opened in it (`FailsOpening`), which is told, or memory ran out for
-- the program itself; or it is opened, this is done from the connection that took it over to the last, if the disk has
-- given back what was written, and just the last is closed
pub data LeavesAt {S : Type 0} (at : Places S) (choice : LayoutChoice) (profile : List Directive) (ended : Result Status AllocError) (Told : List ℕ → Type 0) (Makes : Type 0) (Does : Format → Conditions → Held S → Held S → Type 0) : Type 0 where
  unused : at.untouched → LacksStore at profile → ¬ Makes → LeavesAt at choice profile ended Told Makes Does
  failed : {why : Refusal} → {closed : Closed} → HasStore at profile ⊎ Makes → FailsOpening at profile why closed → TellsOrStarves ended Told (Refused why) → LeavesAt at choice profile ended Told Makes Does
  used : (format : Format) → (c : Conditions) → (closed : Closed) → HasStore at profile ⊎ Makes → AreConditionsIn format profile c → FromStore at choice format profile closed (Does format c)
      → LeavesAt at choice profile ended Told Makes Does

-- no store is opened, for a fault of which this is so and whose line is told, or since memory ran out for the program
-- itself
abbrev pub OpensNone : {S : Type 0} → Places S → Result Status AllocError → (Told : List ℕ → Type 0) → (Why : Fault → Type 0) → Type 0
OpensNone at ended Told Why = at.untouched × (IsErr ended ⊎ ((fault : Fault) × Why fault × TellsLineOf Told fault))

-- no store is opened, since the profile in this file isn't read, which is told, or memory ran out for the program
-- itself; or the profile is read, and the store at its path is left as `LeavesAt` says
abbrev pub LeavesUnder : {S : Type 0} → Places S → LayoutChoice → String Global → Result Status AllocError → (Told : List ℕ → Type 0) → (Makes : Type 0) → (Format → Conditions → Held S → Held S → Type 0) → Type 0
LeavesUnder at choice config ended Told Makes Does =
    OpensNone at ended Told (λ fault. ReadsAt at config (Err fault)) ⊎ ((profile : List Directive) × ReadsAt at config (Ok profile) × LeavesAt at choice profile ended Told Makes Does)

-- what becomes of the store for a task under the profile in this file (`LeavesUnder`): where it is used, the task is
-- done on it as is said of one of its answers (`DoesTask`), and where that is a fault its line is told, or memory ran
-- out for the program itself; and only `init` has one made
abbrev pub LeavesByTask : {S : Type 0} → Places S → LayoutChoice → String Global → Task → Result Status AllocError → (Told : List ℕ → Type 0) → Type 0
LeavesByTask at choice config task ended Told =
    LeavesUnder at choice config ended Told (task ≡ Ask Init)
    (λ format c first last. (own : Result Reply Fault) × TellsRefused ended Told own × DoesTask at.store at.tells at.sees format c task own first last)

-- no store is opened, since the profile or the input isn't read, which is told, or memory ran out for the program
-- itself; or both are read, and where the store at the profile's path is used, the lines of the input are done on it
-- (`DoesBatch`), and only a line `init` has one made
abbrev pub LeavesByBatch : {S : Type 0} → Places S → String Global → Option (List ℕ) → Result Status AllocError → (Told : List ℕ → Type 0) → Type 0
LeavesByBatch at config given ended Told =
    OpensNone at ended Told (λ fault. (failed : Bool) × (cause : Option Cause) × StopsReading at config given failed fault cause)
    ⊎ ((text : List ℕ) × IsText given text × (profile : List Directive) × ReadsAt at config (Ok profile)
    × LeavesAt at Unsaid profile ended Told (BeginsRegister text) (λ format c. DoesBatch at.store at.sees format c 0 text ended))

-- what becomes of the store for a shell under the profile in this file (`LeavesUnder`): where it is used, the lines
-- are done on it (`DoesShell`), and one is made where none stands, since a shell never does without
abbrev pub LeavesByShell : {S : Type 0} → Places S → String Global → Option (List ℕ) → Result Status AllocError → (Told : List ℕ → Type 0) → Type 0
LeavesByShell at config given ended Told = LeavesUnder at Unsaid config ended Told ⊤ (λ format c. DoesShell at.store at.sees format c given)

-- what becomes of the register's store for these words, with this input, where it tells its bytes, in a run that ends
-- so, where `Told` says which lines are told: none is opened for words of which no command is read, and else it is left
-- so by the task, the batch or the shell that they name
pub data LeavesStore {S : Type 0} (at : Places S) (words : List (List ℕ)) (given : Option (List ℕ)) (ended : Result Status AllocError) (Told : List ℕ → Type 0) : Type 0 where
  -- none is opened for words of which no command is read; where that is since memory ran out, it is told
  left_alone : (usage : Usage) → NamesNone words usage → (usage ≡ Memory → Told starved_line) → at.untouched → LeavesStore at words given ended Told
  left_by_task : (named : Words) → (task : Task) → NamesWords words named → IsTaskOf named.database named.act task → LeavesByTask at (choice_of named.act) named.config task ended Told
      → LeavesStore at words given ended Told
  left_by_batch : (named : Words) → NamesWords words named → named.act ≡ Batch → LeavesByBatch at named.config given ended Told → LeavesStore at words given ended Told
  left_by_shell : (named : Words) → NamesWords words named → named.act ≡ Shell → LeavesByShell at named.config given ended Told → LeavesStore at words given ended Told

-- what becomes of the register's store in a run that ends with this number (`LeavesStore`): where memory ran out for the
-- program itself, the number is that of `Failed`, and that is told
abbrev pub EndsLeaving : {S : Type 0} → Places S → List (List ℕ) → Option (List ℕ) → (code : ℕ) → (Told : List ℕ → Type 0) → Type 0
EndsLeaving at words given code Told =
    (ended : Result Status AllocError) × LeavesStore at words given ended Told × OnErr ended ((code ≡ status_code Failed) × Told starved_line)
