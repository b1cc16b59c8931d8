-- What comes of words that name a task, a batch or a shell (this program's own): under the profile in the file that they name, and on the register
-- that it names.
use Rattle.std.specs.Prelude.{◌≡◌, ◌⊎◌, ◌++◌, ℕ, Bool, codes, Option, None, Some, IfSome, Result, Ok, Err, List, [], String, string_bytes}
use Rattle.std.specs.declared.alloc.Global.{Global}
use Rattle.zeb_change.specs.Conditions.{Conditions}
use Rattle.zeb_change.specs.declared.refusals.Refusal.{Refusal}
use Rattle.zeb_engine.specs.declared.commands.Command.TheVariants.{Init}
use Rattle.zeb_engine.specs.declared.replies.Reply.{Reply}
use Rattle.zeb_engine.specs.Replies.{reply_text}
use Rattle.zeb_profile.specs.declared.directives.Directive.{Directive}
use Rattle.zeb_register.specs.Formats.{Format}
use Rattle.zeb_paths.specs.declared.causes.Closed.{Closed}
use Rattle.zeb_paths.specs.declared.causes.StoreCause.{StoreCause}
use Rattle.zeb_paths.specs.declared.paths.Asked.TheVariants.{Text}
use Rattle.zeb_words.specs.declared.words.LayoutChoice.{LayoutChoice}
use Rattle.zeb_words.specs.declared.words.LayoutChoice.TheVariants.{Unsaid}
use Rattle.zeb_program.specs.Explanations.{Explains, ExplainsUnread, refusal_cause}
use Rattle.zeb_program.specs.declared.failures.Cause.{Cause}
use Rattle.zeb_program.specs.declared.faults.Fault.{Fault}
use Rattle.zeb_program.specs.declared.faults.Fault.TheVariants.{Unreadable, Refused, Memory}
use Rattle.zeb_program.specs.declared.line_input.LineFault.TheVariants.{Memory as Starved}
use Rattle.zeb_program.specs.declared.tasks.Task.{Task}
use Rattle.zeb_program.specs.declared.tasks.Task.TheVariants.{Ask}
use Rattle.zeb_program.specs.Doing.{DoesOnNothing, DoesTask, RunsText, ServesText, StopsPart, StopsText}
use Rattle.zeb_program.specs.FaultAnswers.{IsOpeningFailure}
use Rattle.zeb_program.specs.FaultLines.{TellsCaused}
use Rattle.zeb_program.specs.Inputs.{IsInput}
use Rattle.zeb_program.specs.ProfileFiles.{ReadsProfile}
use Rattle.zeb_program.specs.Registers.{FailsOpening, FromStore, HasStore, LacksStore, OnRegister, Places, nothing_met}
use Rattle.zeb_program.specs.Closings.{closing_lines, leaving_lines}
use Rattle.zeb_program.specs.InputCauses.{IsTextCause}
use Rattle.zeb_program.specs.Unanswered.{TellsUnanswered}
use Rattle.zeb_program.specs.declared.failures.Cause.TheVariants.{Text as TextOf}
use Rattle.zeb_program.specs.declared.input.TextCause.{TextCause}
use Rattle.zeb_program.specs.ScriptAnswers.{AnswersStopped, AreConditionsIn, RunsFromNothing}
use Rattle.zeb_program.specs.Scripts.{BeginsRegister}
use Rattle.zeb_program.specs.Statuses.{closing_status, greater}
use Rattle.zeb_program.specs.TaskAnswers.{paths_of}
use Rattle.zeb_program.specs.declared.statuses.Status.{Status}

-- this is read of the profile's file
abbrev pub ReadsAt : {S : Type 0} → Places S → String Global → Result (List Directive) Fault → Type 0
ReadsAt at config read = ReadsProfile (at.tells (string_bytes config)) config read

-- ---- a task

-- this is answered, or memory ran out in the program itself behind it
abbrev pub IsOwnOr : Result Reply Fault → Result Reply Fault → Type 0
IsOwnOr answer own = (answer ≡ own) ⊎ (answer ≡ Err Memory)

-- What comes of a task under a profile, where this layout was asked for and its register was closed so; where none was opened, this is known of why.
pub data ServesUnder {S : Type 0} (at : Places S) (choice : LayoutChoice) (profile : List Directive) (task : Task) (closed : Closed) : Result Reply Fault → Type 0 where
  -- The answer of the register, or that one of the task's paths can't be read, or one below them. Or memory ran out for the program itself behind that:
  -- then it is done all the same.
  answered : {result : Result Reply Fault} → (own : Result Reply Fault) → IsOwnOr result own → (format : Format) → (c : Conditions) → AreConditionsIn format profile c
      → OnRegister at choice format profile closed (task ≡ Ask Init) (DoesTask at.store at.tells at.sees format c task own)
      (DoesOnNothing at.tells at.sees c task own) → ServesUnder at choice profile task closed result
  -- or why none is opened
  unopened : {why : Refusal} → HasStore at profile ⊎ (task ≡ Ask Init) → FailsOpening at profile why closed → ServesUnder at choice profile task closed (Err (Refused why))
  -- or why none is made in memory, where none stands there and none is to be made
  none_made : {why : Refusal} → LacksStore at profile → ¬ (task ≡ Ask Init) → at.untouched → IsOpeningFailure why → closed ≡ nothing_met → ServesUnder at choice profile task closed (Err (Refused why))

-- what comes of a task by the profile in this file: no more than its fault, where it isn't read, and then no store is opened, so
-- none fails
pub data Performs {S : Type 0} (at : Places S) (choice : LayoutChoice) (config : String Global) (task : Task) (closed : Closed) : Result Reply Fault → Type 0 where
  unread : {fault : Fault} → at.untouched → ReadsAt at config (Err fault) → closed ≡ nothing_met → Performs at choice config task closed (Err fault)
  performed : {result : Result Reply Fault} → (profile : List Directive) → ReadsAt at config (Ok profile) → ServesUnder at choice profile task closed result
      → Performs at choice config task closed result

-- this is the text of a reply that comes of the task
abbrev pub WritesReply : {S : Type 0} → Places S → LayoutChoice → String Global → Task → Closed → List ℕ → Type 0
WritesReply at choice config task closed bytes = (reply : Reply) × Performs at choice config task closed (Ok reply) × (bytes ≡ reply_text reply)

-- this is told of a profile that isn't read; or, where one was read, of a fault of the task, where this is known of why a store failed
abbrev pub ExplainsTask : {S : Type 0} → Places S → String Global → Task → Option StoreCause → Fault → Option Cause → Type 0
ExplainsTask at config task met fault cause =
    (ReadsAt at config (Err fault) × ExplainsUnread at.explains Text fault cause)
    ⊎ (((profile : List Directive) × ReadsAt at config (Ok profile)) × Explains at.sees at.explains (paths_of task) met fault cause)

-- the lines of a fault that comes of the task, and of what is known of why; of one about the register its path; and that its file needs its log
abbrev pub TellsWhy : {S : Type 0} → Places S → LayoutChoice → String Global → Task → (told : List ℕ) → Status → Type 0
TellsWhy at choice config task told status =
    (fault : Fault) × (cause : Option Cause) × (closed : Closed) × Performs at choice config task closed (Err fault)
    × ExplainsTask at config task closed.cause fault cause
    × TellsUnanswered (at.sees.bytes (string_bytes config)) config fault cause closed told status

-- Memory ran out for the program itself at a task, of which nothing is told then: no store was opened; or this fault comes of the task, and found no memory
-- for its lines, and only that the register's file needs its log is told. The task may be done then, for want of memory comes behind any answer.
abbrev pub StopsTask : {S : Type 0} → Places S → LayoutChoice → String Global → Task → (told : List ℕ) → Type 0
StopsTask at choice config task told =
    (at.untouched × (told ≡ [])) ⊎ ((fault : Fault) × (closed : Closed) × Performs at choice config task closed (Err fault) × (told ≡ leaving_lines closed))

-- ---- the lines of the input

-- why no line is run, what is told of that, and how the register's store was closed: the profile isn't read, and no store is opened; or no register is
pub data StopsOpening {S : Type 0} (at : Places S) (config : String Global) : Fault → Option Cause → Closed → Type 0 where
  not_read : {fault : Fault} → {cause : Option Cause} → at.untouched → ReadsAt at config (Err fault) → ExplainsUnread at.explains Text fault cause → StopsOpening at config fault cause nothing_met
  not_opened : {why : Refusal} → {cause : Option Cause} → {closed : Closed} → (profile : List Directive) → ReadsAt at config (Ok profile) → FailsOpening at profile why closed
      → cause ≡ refusal_cause why closed.cause → StopsOpening at config (Refused why) cause closed

-- the fault of an input that can't be read, with its cause: it is too long or no text, or a read failed
abbrev pub IsInputFault : Option (List ℕ) → Bool → Fault → Option Cause → Type 0
IsInputFault given failed fault cause =
    (path : String Global) × (fault ≡ Unreadable path) × (string_bytes path ≡ codes "input")
    × (why : TextCause) × IsTextCause given failed why × (cause ≡ Some (TextOf why))

-- why no line of a batch is run, and what is told of that: the profile isn't read; or it is, and the input can't be
abbrev pub StopsReading : {S : Type 0} → Places S → String Global → Option (List ℕ) → Bool → Fault → Option Cause → Type 0
StopsReading at config given failed fault cause =
    (ReadsAt at config (Err fault) × ExplainsUnread at.explains Text fault cause)
    ⊎ ((profile : List Directive) × ReadsAt at config (Ok profile) × IsInputFault given failed fault cause)

-- the lines of an input, which are these where it tells its bytes
abbrev pub IsText : Option (List ℕ) → List ℕ → Type 0
IsText given text = IsInput text × IfSome given (λ bytes. text ≡ bytes)

-- What is written for the lines of a text that are run as a batch, numbered from 1: on the register in the store, or, where none stands there and no
-- line begins one, on one in memory as those of a script. This is the greatest status met.
pub data RunsLines {S : Type 0} (at : Places S) (config : String Global) (profile : List Directive) (text bytes told : List ℕ) : Status → Type 0 where
  on_store : (format : Format) → (c : Conditions) → (answered : Status) → (closed : Closed) → AreConditionsIn format profile c → HasStore at profile ⊎ BeginsRegister text
      → FromStore at Unsaid format profile closed (RunsText at.store at.sees format c 0 text bytes answered)
      → told ≡ closing_lines closed → RunsLines at config profile text bytes told (greater answered (closing_status closed))
  in_memory : {status : Status} → LacksStore at profile → ¬ BeginsRegister text → at.untouched → told ≡ []
      → RunsFromNothing at.sees profile 0 text bytes status → RunsLines at config profile text bytes told status
  no_memory : {why : Refusal} → {status : Status} → LacksStore at profile → ¬ BeginsRegister text → at.untouched → IsOpeningFailure why → bytes ≡ []
      → TellsCaused (Refused why) None told status → RunsLines at config profile text bytes told status
  no_register : {why : Refusal} → {closed : Closed} → {status : Status} → HasStore at profile ⊎ BeginsRegister text → FailsOpening at profile why closed → bytes ≡ []
      → TellsUnanswered (at.sees.bytes (string_bytes config)) config (Refused why) (refusal_cause why closed.cause) closed told status
      → RunsLines at config profile text bytes told status

-- what is written for a batch, and its status, where `failed` says whether a read of the input failed
pub data RunsBatch {S : Type 0} (at : Places S) (config : String Global) (given : Option (List ℕ)) (failed : Bool) (bytes told : List ℕ) (status : Status) : Type 0 where
  batch_stopped : (fault : Fault) → (cause : Option Cause) → at.untouched → StopsReading at config given failed fault cause → bytes ≡ []
      → TellsCaused fault cause told status → RunsBatch at config given failed bytes told status
  batch_ran : (profile : List Directive) → (text : List ℕ) → ReadsAt at config (Ok profile) → IsText given text
      → RunsLines at config profile text bytes told status → RunsBatch at config given failed bytes told status

-- what is written for a shell, and its status, where this is left of the input, and `failed` says whether a read of it failed
pub data RunsShell {S : Type 0} (at : Places S) (config : String Global) (given left : Option (List ℕ)) (failed : Bool) (bytes told : List ℕ) : Status → Type 0 where
  -- no register is opened, and no byte of the input is gone
  shell_stopped : {status : Status} → (fault : Fault) → (cause : Option Cause) → (closed : Closed) → StopsOpening at config fault cause closed → left ≡ given → bytes ≡ []
      → TellsUnanswered (at.sees.bytes (string_bytes config)) config fault cause closed told status → RunsShell at config given left failed bytes told status
  shell_ran : (profile : List Directive) → (format : Format) → (c : Conditions) → (first : List ℕ) → (answered : Status) → (closed : Closed)
      → ReadsAt at config (Ok profile) → AreConditionsIn format profile c
      → FromStore at Unsaid format profile closed (λ old new. IfSome given (λ text. ServesText at.store at.sees format c text left failed bytes first answered old new))
      → told ≡ first ++ closing_lines closed → RunsShell at config given left failed bytes told (greater answered (closing_status closed))

-- ---- where memory runs out for the program itself

-- Of the lines of a text that are run as a batch the first are answered, or none, and the rest are not: on the register in the store, on one in
-- memory, or none where no register is opened.
pub data StopsLines {S : Type 0} (at : Places S) (profile : List Directive) (text bytes told : List ℕ) : Type 0 where
  part_on_store : (format : Format) → (c : Conditions) → (closed : Closed) → AreConditionsIn format profile c → HasStore at profile ⊎ BeginsRegister text
      → FromStore at Unsaid format profile closed (StopsPart at.store at.sees format c 0 text bytes)
      → told ≡ closing_lines closed → StopsLines at profile text bytes told
  part_in_memory : LacksStore at profile → ¬ BeginsRegister text → at.untouched → told ≡ []
      → AnswersStopped at.sees profile 0 text bytes → StopsLines at profile text bytes told
  no_line : {why : Refusal} → {closed : Closed} → HasStore at profile ⊎ BeginsRegister text → FailsOpening at profile why closed → bytes ≡ []
      → told ≡ leaving_lines closed → StopsLines at profile text bytes told

-- what is written for a batch then: nothing, where no store is opened, or the answers of its first lines
pub data StopsBatch {S : Type 0} (at : Places S) (config : String Global) (given : Option (List ℕ)) (bytes told : List ℕ) : Type 0 where
  batch_silent : at.untouched → bytes ≡ [] → told ≡ [] → StopsBatch at config given bytes told
  batch_part : (profile : List Directive) → (text : List ℕ) → ReadsAt at config (Ok profile) → IsText given text
      → StopsLines at profile text bytes told → StopsBatch at config given bytes told

-- and for a shell, where this is left of the input: nothing, where no register is opened, and then no byte of the input is gone; or the answers of the
-- first lines
pub data StopsShell {S : Type 0} (at : Places S) (config : String Global) (given left : Option (List ℕ)) (bytes told : List ℕ) : Type 0 where
  shell_silent : {fault : Fault} → {cause : Option Cause} → {closed : Closed} → StopsOpening at config fault cause closed → left ≡ given → bytes ≡ [] → told ≡ leaving_lines closed
      → StopsShell at config given left bytes told
  shell_part : (profile : List Directive) → (format : Format) → (c : Conditions) → (closed : Closed) → ReadsAt at config (Ok profile) → AreConditionsIn format profile c
      → FromStore at Unsaid format profile closed (λ old new. IfSome given (λ text. StopsText at.store at.sees format c Starved text left bytes old new))
      → told ≡ closing_lines closed → StopsShell at config given left bytes told
