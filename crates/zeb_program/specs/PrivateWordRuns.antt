-- What only the contracts of private functions speak of; no public clause reaches it.
-- The parts of what comes of words (this program's own).
use Rattle.std.specs.Prelude.{◌≡◌, ◌⊎◌, ◌++◌, ⊤, ℕ, Bool, false, Option, None, IfErr, IfSome, IsTrue, MatchResult, Result, Ok, Err, List, [], String}
use Rattle.std.specs.declared.alloc.AllocError.{AllocError}
use Rattle.std.specs.declared.alloc.Global.{Global}
use Rattle.sqlite.specs.Held.{Held, state}
use Rattle.sqlite.specs.State.{HasCleanDisk, State, Survives}
use Rattle.sqlite.specs.Store.{Ghosts}
use Rattle.zeb_change.specs.Conditions.{Conditions}
use Rattle.zeb_change.specs.declared.refusals.Refusal.{Refusal}
use Rattle.zeb_engine.specs.Causes.{OnlyLooks}
use Rattle.zeb_engine.specs.declared.replies.Reply.{Reply}
use Rattle.zeb_engine.specs.Replies.{reply_text}
use Rattle.zeb_paths.specs.Walks.{Tells}
use Rattle.zeb_paths.specs.declared.causes.Closed.{Closed}
use Rattle.zeb_paths.specs.declared.causes.PathCause.{PathCause}
use Rattle.zeb_paths.specs.declared.causes.StoreCause.{StoreCause}
use Rattle.zeb_paths.specs.declared.paths.Asked.{Asked}
use Rattle.zeb_profile.specs.declared.directives.Directive.{Directive}
use Rattle.zeb_register.specs.Formats.{Format, packed_blocks, packed_leaves}
use Rattle.zeb_words.specs.declared.words.LayoutChoice.{LayoutChoice}
use Rattle.zeb_words.specs.declared.words.LayoutChoice.TheVariants.{Unsaid}
use Rattle.zeb_program.specs.declared.opening.UsedLayout.{UsedLayout}
use Rattle.zeb_program.specs.declared.opening.UsedLayout.TheVariants.{Blocks, Leaves}
use Rattle.zeb_program.specs.declared.failures.Failure.{Failure}
use Rattle.zeb_program.specs.declared.faults.Fault.{Fault}
use Rattle.zeb_program.specs.declared.faults.Fault.TheVariants.{Refused}
use Rattle.zeb_program.specs.declared.line_input.LineFault.{LineFault}
use Rattle.zeb_program.specs.declared.performing.Performed.{Performed}
use Rattle.zeb_program.specs.declared.performing.Told.{Told}
use Rattle.zeb_program.specs.declared.tasks.Task.{Task}
use Rattle.zeb_program.specs.Doing.{DoesOnNothing, DoesTask}
use Rattle.zeb_program.specs.FaultAnswers.{IsOpeningFailure}
use Rattle.zeb_program.specs.PrivateShell.{EndsInput, TellsInput}
use Rattle.zeb_program.specs.PrivateShows.{ShowsBatch, ShowsShell}
use Rattle.zeb_program.specs.Registers.{ClosesStore, IsTakenOver, OpensStore, Places, UsedAs}
use Rattle.zeb_program.specs.ScriptAnswers.{AnswersStopped, AreConditionsIn, AreScriptConditions, RunsFromNothing}
use Rattle.zeb_program.specs.Explanations.{Explains}
use Rattle.zeb_program.specs.FaultLines.{TellsCaused}
use Rattle.zeb_program.specs.Inputs.{TakesAtMost}
use Rattle.zeb_program.specs.Statuses.{closing_status, greater}
use Rattle.zeb_program.specs.declared.statuses.Status.{Status}
use Rattle.zeb_program.specs.Closings.{closing_lines}
use Rattle.zeb_program.specs.Sinks.{KnownSink, SendsBoth}
use Rattle.zeb_program.specs.PrivateSinks.{Sends}
use Rattle.zeb_program.specs.WordAnswers.{NamesLines, NamesShell}
use Rattle.zeb_program.specs.WordRuns.{ExplainsTask, IsOwnOr, ReadsAt}

-- ---- a register that is opened

-- the store at the profile's path was opened and taken over
abbrev pub TakesStore : {S : Type 0} → Places S → List Directive → Held S → Type 0
TakesStore {S} at profile taken = (opened : Held S) × OpensStore at profile opened × (HasCleanDisk (state at.store taken) → IsTakenOver at.store opened taken)

-- a store is taken over, and the connection is open
abbrev pub TakesOpen : {S : Type 0} → Ghosts S → Held S → Held S → Type 0
TakesOpen g opened taken = IsTakenOver g opened taken × IsTrue (state g taken).is_open

-- and is used in this format
abbrev pub TakesIn : {S : Type 0} → Places S → LayoutChoice → Format → List Directive → Held S → Type 0
TakesIn at choice format profile taken = TakesStore at profile taken × (HasCleanDisk (state at.store taken) → UsedAs choice (state at.store taken) format)

-- so it was under the profile in this file, where no layout is asked for
abbrev pub OpensUnder : {S : Type 0} → Places S → String Global → Format → Conditions → Held S → Type 0
OpensUnder at config format c taken =
    (profile : List Directive) × ReadsAt at config (Ok profile) × AreConditionsIn format profile c × TakesIn at Unsaid format profile taken

-- the format of the layout in which a register is used
abbrev pub format_of : UsedLayout → Format
format_of Blocks = packed_blocks
format_of Leaves = packed_leaves

-- nothing is done to a connection but a look at its tables, which finds the store failed only for a cause
pub record OnlyLooked {T : Type 0} (old new : State) (result : Result T Refusal) : Type 0 where
  pub looks : HasCleanDisk new → OnlyLooks old new result
  pub survives : Survives old new (λ _. ⊥)

-- which layout is used on the tables of a store, or why that can't be told
abbrev pub TellsLayout : LayoutChoice → State → Result UsedLayout Refusal → Type 0
TellsLayout choice s (Ok layout) = UsedAs choice s (format_of layout)
TellsLayout choice s (Err why) = ⊤

-- ---- a task

-- what was given, or the fault
abbrev pub fault_given : {T : Type 0} → Result T Failure → Result T Fault
fault_given (Ok x) = Ok x
fault_given (Err failure) = Err failure.fault

-- this is told of why there is a failure
abbrev pub ExplainsFailure : Tells → (List ℕ → Asked → Option PathCause → Type 0) → List (List ℕ) → Option StoreCause → Failure → Type 0
ExplainsFailure at explains named met failure = Explains at explains named met failure.fault failure.cause

-- so it is of a profile that isn't read too
abbrev pub ExplainsRun : {S : Type 0} → Places S → String Global → Task → Option StoreCause → Failure → Type 0
ExplainsRun at config task met failure = ExplainsTask at config task met failure.fault failure.cause

-- P is so of what comes of a task: of a reply, whose text is given, or of the fault
abbrev pub GivesFor : Result Told Failure → (Result Reply Fault → Type 0) → Type 0
GivesFor (Ok told) P = (reply : Reply) × (told.text.items ≡ reply_text reply) × P (Ok reply)
GivesFor (Err failure) P = P (Err failure.fault)

-- the same of both, by how the register is closed; and Why is so of what is told of a failure, by what the store has met
abbrev pub GivesClosed : Performed → (Closed → Result Reply Fault → Type 0) → (Option StoreCause → Failure → Type 0) → Type 0
GivesClosed performed P Why = GivesFor performed.told (P performed.closed) × IfErr performed.told (Why performed.closed.cause)

-- A task is carried out over a connection in this format, which is then closed so.
pub record ServesHeld {S : Type 0} (g : Ghosts S) (leaves : Closed → S → Type 0) (told : List ℕ → Option (List ℕ)) (at : Tells) (format : Format) (c : Conditions) (task : Task) (held : Held S) (closed : Closed) (answer : Result Reply Fault) : Type 0 where
  pub own : Result Reply Fault
  pub is : IsOwnOr answer own
  pub last : Held S
  pub clean : HasCleanDisk (state g last) → HasCleanDisk (state g held)
  pub does : HasCleanDisk (state g last) → DoesTask g told at format c task own held last
  pub ends : ClosesStore g leaves last closed

-- what comes of a task on a register in memory that holds nothing yet
abbrev pub ServesOnNothing : (List ℕ → Option (List ℕ)) → Tells → List Directive → Task → Result Reply Fault → Type 0
ServesOnNothing told at profile task result =
    ((own : Result Reply Fault) × IsOwnOr result own × (c : Conditions) × AreScriptConditions profile c × DoesOnNothing told at c task own)
    ⊎ ((why : Refusal) × IsOpeningFailure why × (result ≡ Err (Refused why)))

-- ---- the lines of the input

-- What is written of words, or of a part of what they ask for: what is answered, with the status, or what is written by then where memory ran out for the
-- program itself.
abbrev pub Ends : {W V : Type 0} → (old new : KnownSink W) → (fault_old fault_new : KnownSink V) → (Answers : List ℕ → List ℕ → Status → Type 0) → (Stops : List ℕ → List ℕ → Type 0) → Result Status AllocError → Type 0
Ends old new fault_old fault_new Answers Stops result =
    SendsBoth old new fault_old fault_new (λ bytes told. MatchResult result (Answers bytes told) (λ error. Stops bytes told))

-- so it is where no write has failed
abbrev pub EndsUnfailed : {W V : Type 0} → (old new : KnownSink W) → (fault_old fault_new : KnownSink V) → (Answers : List ℕ → List ℕ → Status → Type 0) → (Stops : List ℕ → List ℕ → Type 0) → Result Status AllocError → Type 0
EndsUnfailed old new fault_old fault_new Answers Stops result =
    SendsBoth old new fault_old fault_new (λ bytes told. new.failed ≡ false → fault_new.failed ≡ false → MatchResult result (Answers bytes told) (λ error. Stops bytes told))

-- The lines of a session are answered so, and this is the status behind its close.
abbrev pub EndsSession : Result Status AllocError → Result Status AllocError → (Closed → Type 0) → Type 0
EndsSession (Ok answered) result Closing = (closed : Closed) × (result ≡ Ok (greater answered (closing_status closed))) × Closing closed
EndsSession (Err error) result Closing = (closed : Closed) × (result ≡ Err error) × Closing closed

-- The lines of a session are answered so, just this store is closed behind them, and that is told below what was told first.
abbrev pub ClosesBelow : {S : Type 0} → Ghosts S → (Closed → S → Type 0) → Held S → (first told : List ℕ) → Result Status AllocError → Result Status AllocError → Type 0
ClosesBelow g leaves last first told answered result = EndsSession answered result (λ closed. ClosesStore g leaves last closed × (told ≡ first ++ closing_lines closed))

-- The lines of a batch are run over a connection, whatever is written, which is then closed, and this is answered.
pub record RunsIn {S W V : Type 0} (g : Ghosts S) (leaves : Closed → S → Type 0) (at : Tells) (format : Format) (c : Conditions) (n : ℕ) (text : List ℕ) (held : Held S) (old new : KnownSink W) (fault_old fault_new : KnownSink V) (result : Result Status AllocError) : Type 0 where
  pub answered : Result Status AllocError
  pub last : Held S
  pub clean : HasCleanDisk (state g last) → HasCleanDisk (state g held)
  pub lines : Sends old new (λ bytes. HasCleanDisk (state g last) → ShowsBatch g at format c n text held last bytes answered)
  pub ends : Sends fault_old fault_new (λ told. ClosesBelow g leaves last [] told answered result)

-- So are those of a shell, where the fault output tells with its cause that its input can't be read on.
pub record ServesIn {S W V : Type 0} (g : Ghosts S) (leaves : Closed → S → Type 0) (at : Tells) (format : Format) (c : Conditions) (given left : Option (List ℕ)) (read_failed : Bool) (held : Held S) (old new : KnownSink W) (fault_old fault_new : KnownSink V) (result : Result Status AllocError) : Type 0 where
  pub answered : Result Status LineFault
  pub ended : Result Status AllocError
  pub last : Held S
  pub first : List ℕ
  pub clean : HasCleanDisk (state g last) → HasCleanDisk (state g held)
  pub lines : Sends old new (λ bytes. HasCleanDisk (state g last) → IfSome given (λ text. ShowsShell g at format c text left new.failed held last bytes answered))
  pub reads : EndsInput read_failed new.failed left answered
  pub tells : TellsInput answered first ended
  pub ends : Sends fault_old fault_new (λ told. ClosesBelow g leaves last first told ended result)

-- The lines of a batch are run on a register in memory that holds nothing yet, and the fault output is left alone; or why none was opened is told
-- there, and nothing else. Or memory ran out, and nothing is told.
abbrev pub RunsOnNothing : Tells → List Directive → ℕ → List ℕ → (bytes told : List ℕ) → Result Status AllocError → Type 0
RunsOnNothing at profile n text bytes told (Ok status) =
    (RunsFromNothing at profile n text bytes status × (told ≡ [])) ⊎ ((why : Refusal) × IsOpeningFailure why × (bytes ≡ []) × TellsCaused (Refused why) None told status)
RunsOnNothing at profile n text bytes told (Err error) = AnswersStopped at profile n text bytes × (told ≡ [])

-- ---- the input

-- At most so many bytes are taken from the input, unless the words name a shell; words that name neither a batch nor a shell leave it as it is.
abbrev pub TakesByWords : {R : Type 0} → ℕ → (R → Option (List ℕ)) → List (List ℕ) → (old new : R) → Type 0
TakesByWords most left words old new = (¬ NamesShell words → TakesAtMost most (left old) (left new)) × (¬ NamesLines words → new ≡ old)
