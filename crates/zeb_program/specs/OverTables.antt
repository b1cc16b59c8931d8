-- What a command or a change by paths is answered on any tables, whatever these hold, where words or a line name it (this program's own).
use Rattle.std.specs.Prelude.{◌≡◌, ◌≢◌, ◌⊎◌, ⊤, ◌+◌, ◌++◌, ℕ, Option, Result, Ok, Err, IfErr, OnErr, OnOk, List, [], ◌∷◌, length, map, string_bytes}
use Rattle.sqlite.specs.Held.{Held, state}
use Rattle.sqlite.specs.State.{State, Survives}
use Rattle.sqlite.specs.Store.{Ghosts}
use Rattle.zeb_profile.specs.declared.directives.Directive.{Directive}
use Rattle.zeb_register.specs.Calls.{ChangesNothing}
use Rattle.zeb_register.specs.Formats.{Format, version_of}
use Rattle.zeb_change.specs.Conditions.{Conditions}
use Rattle.zeb_change.specs.declared.settings.Kind.{Kind}
use Rattle.zeb_change.specs.declared.settings.Limits.{Limits}
use Rattle.zeb_change.specs.declared.refusals.Refusal.{Refusal}
use Rattle.zeb_change.specs.declared.refusals.Refusal.TheVariants.{Damaged, Memory as OutOfMemory, NotInitialised, ReadFault, Store}
use Rattle.zeb_image.specs.Holdings.{Holdings}
use Rattle.zeb_image.specs.Image.{Keeps}
use Rattle.zeb_image.specs.NameOf.{name_bytes}
use Rattle.zeb_engine.specs.Analysed.{IsAnalysed}
use Rattle.zeb_engine.specs.Answers.{answer_of}
use Rattle.zeb_engine.specs.Changing.{ChangesReady, LeavesWhole, LosesNamed}
use Rattle.zeb_engine.specs.Crashes.{CommandLasts, CommitsBy, Endures}
use Rattle.zeb_engine.specs.Does.{CommandOverTables}
use Rattle.zeb_engine.specs.Readiness.{GoesByTexts}
use Rattle.zeb_engine.specs.Steps.{TakesFiles}
use Rattle.zeb_engine.specs.Transactions.{IsDurable, LeavesNoMore}
use Rattle.zeb_engine.specs.Works.{ServesCommand}
use Rattle.zeb_engine.specs.declared.commands.Command.{Command}
use Rattle.zeb_engine.specs.declared.replies.Reply.{Reply}
use Rattle.zeb_program.specs.declared.faults.Fault.{Fault}
use Rattle.zeb_program.specs.declared.faults.Fault.TheVariants.{Refused}
use Rattle.zeb_program.specs.declared.lines.Line.{Line}
use Rattle.zeb_program.specs.declared.lines.Line.TheVariants.{Remark, Command as Order, Path, Mark, Bad}
use Rattle.zeb_program.specs.declared.path_changes.PathChange.{PathChange}
use Rattle.zeb_program.specs.declared.tasks.Task.{Task}
use Rattle.zeb_program.specs.declared.tasks.Task.TheVariants.{Ask, Change, Analyse}
use Rattle.zeb_program.specs.Answers.{ChangesBy, EachLine, answer_status, answer_text, bad_line, mark_line}
use Rattle.zeb_program.specs.Inputs.{AreShort}
use Rattle.zeb_program.specs.FaultLines.{TellsFault}
use Rattle.zeb_paths.specs.Walks.{IsUntold, Tells}
use Rattle.zeb_program.specs.FaultAnswers.{GivesAnswer, IsUnreadWhole, IsUnreadable, NamesUntold, Reaches}
use Rattle.zeb_program.specs.WalkedFiles.{AreTexts, FindsFiles}
use Rattle.zeb_program.specs.Serving.{AnswersFrom}
use Rattle.zeb_program.specs.TaskAnswers.{AreTold}
use Rattle.zeb_program.specs.Says.{Says}
use Rattle.zeb_program.specs.TaskAnswers.{ReadsWhole}
use Rattle.zeb_program.specs.declared.statuses.Status.{Status}
use Rattle.zeb_program.specs.declared.statuses.Status.TheVariants.{Answered, Misused}

-- nothing changes, and a crash leaves nothing that it did not leave before
abbrev pub LeavesAlone : State → State → Type 0
LeavesAlone old new = ChangesNothing old new × LeavesNoMore old new

-- ---- a task

-- These are the bytes of a change's files, each of which is told: of those at its paths, where one stands at each; or of those that a walk gives.
abbrev pub AreFilesOf : Tells → List (List ℕ) → List (List ℕ) → List (List ℕ) → Type 0
AreFilesOf at paths walked files = AreTold at.bytes paths files ⊎ AreTold at.bytes walked files

-- the file of this number, from 1, is one of these, and no bytes of it are told
abbrev pub IsUntoldNth : (List ℕ → Option (List ℕ)) → List (List ℕ) → ℕ → Type 0
IsUntoldNth told files number = (before behind : List (List ℕ)) × (path : List ℕ) × (files ≡ before ++ path ∷ behind) × (number ≡ length before + 1) × IsUntold told path

-- what is said of the answer to a change by paths, on any tables: the texts of the store tell whether the register was
-- ready (`GoesByTexts`), unless a path can't be read, at which then no file's bytes are told, or memory ran out in the
-- program; where the bytes of a file at each path are told, or of each file that a walk gives, it is as `ChangesReady`
-- says of a change by these, or memory ran out in the program; damage is told only of tables that are no image; and a
-- failed read only of a file that a walk gives whose bytes aren't told
pub record PathsOver (at : Tells) (format : Format) (profile : List Directive) (kind : Kind) (limits : Limits) (name : List ℕ) (paths walked : List (List ℕ)) (s : State) (result : Result Reply Fault) : Type 0 where
  -- a path can't be read, or the texts of the store tell whether the register was ready
  pub ready : IsUnreadable result ⊎ GivesAnswer (GoesByTexts (version_of format) profile s) result
  -- Where the bytes of its files are told: what is kept under the first record's identifier is whole, or the change is refused as damage or by a failure; and any other refusal has a reason that the files and the limits give.
  pub changes : (files : List (List ℕ)) → AreFilesOf at paths walked files
      → GivesAnswer (ChangesReady (version_of format) profile kind limits name files s) result
  -- a path that can't be read is none at which a file's bytes are told
  pub untold : IfErr result (NamesUntold at.bytes)
  -- damage is told only of tables that are the image of no holding
  pub honest : result ≡ Err (Refused Damaged) → (before : Holdings) → ¬ Keeps s before
  -- a failed read is that of a file that a walk gives, by its number, whose bytes aren't told
  pub blames : (file : ℕ) → result ≡ Err (Refused (ReadFault file)) → IsUntoldNth at.bytes walked file

-- What is said of the answer to an analysis of the files at and below these paths, of at most so many records.
pub record IsAnalysisOver (at : Tells) (profile : List Directive) (limit : ℕ) (paths : List (List ℕ)) (answer : Result Reply Refusal) : Type 0 where
  -- it is that of files with these texts, or memory ran out
  pub texts : List (List ℕ)
  pub analysed : IsAnalysed profile limit texts (answer_of answer) ⊎ (answer ≡ Err OutOfMemory)
  -- none of them has too many bytes, and where the bytes of a file at each path are told, they are these
  pub short : AreShort texts
  pub these : (files : List (List ℕ)) → AreTold at.bytes paths files → texts ≡ files
  -- and they are those of the files that a walk gives, of folders too
  pub walked : List (List ℕ)
  pub found : FindsFiles at paths walked
  pub read : AreTexts at.bytes walked texts

-- what a crash behind a change by paths leaves: where the bytes of a file at each path are told, or of each file that
-- a walk gives, what the change left, or what was there before it; and, whatever is told, of an accepted one just what
-- is shown, while the connection is open, and of one that isn't accepted, but for a failed store, nothing more than
-- before
pub record PathsLast (at : Tells) (c : Conditions) (kind : Kind) (name : List ℕ) (paths walked : List (List ℕ)) (old new : State) (result : Result Reply Fault) : Type 0 where
  -- nothing else is committed, where the bytes of the files are told
  pub survives : Survives old new (λ db. (files : List (List ℕ)) → AreFilesOf at paths walked files → CommitsBy (TakesFiles c kind name files) old db)
  pub crash : (files : List (List ℕ)) → AreFilesOf at paths walked files → GivesAnswer (Endures (TakesFiles c kind name files) old new) result
  -- Whatever is told: of an accepted one just what is shown, while the connection is open; and nothing more than before where it is refused, but for a failed store.
  pub accepted : OnOk result (IsDurable new)
  pub refused : IfErr result (λ fault. fault ≢ Refused Store → LeavesNoMore old new)

-- what a change of the database of this name by paths leaves of any tables: nothing changes where it isn't accepted,
-- and an accepted one loses and keeps what the engine says (`LeavesWhole`); where the bytes of a file at each path are
-- told, or of each file that a walk gives, it loses only records under identifiers of their records (`LosesNamed`),
-- and tables that keep what a register holds keep then what it holds after the change by these; and what a crash
-- leaves is said by `PathsLast`
pub record PathsLeave (at : Tells) (c : Conditions) (kind : Kind) (name : List ℕ) (paths walked : List (List ℕ)) (old new : State) (result : Result Reply Fault) : Type 0 where
  -- nothing changes where it isn't accepted
  pub refused : OnErr result (ChangesNothing old new)
  -- a path can't be read, or of an accepted one the engine says what the tables have lost and kept
  pub loses : IsUnreadable result ⊎ GivesAnswer (LeavesWhole c.version c.profile kind name old new) result
  -- Where the bytes of the files are told, it is answered from tables that keep what a register holds as a change by these, and they keep what is
  -- held then.
  pub serves : (files : List (List ℕ)) → AreFilesOf at paths walked files → AnswersFrom old new result (ChangesBy c kind name files)
  -- Then it has lost no record but under identifiers that records of the files have.
  pub named : (files : List (List ℕ)) → AreFilesOf at paths walked files → GivesAnswer (LosesNamed c.profile name files old new) result
  pub lasts : PathsLast at c kind name paths walked old new result

-- A change of the database of this name by the files at and below these paths is answered so, and leaves this of any tables.
pub record ChangesOver (at : Tells) (format : Format) (c : Conditions) (kind : Kind) (name : List ℕ) (paths : List (List ℕ)) (old new : State) (result : Result Reply Fault) : Type 0 where
  -- the files that a walk gives, which comes to its end; unless a path can't be read, or memory runs out in the program itself
  pub walked : List (List ℕ)
  pub found : IsUnreadable result ⊎ GivesAnswer (λ answer. FindsFiles at paths walked) result
  pub over : PathsOver at format c.profile kind c.limits name paths walked old result
  pub leaves : PathsLeave at c kind name paths walked old new result

-- a path of an analysis can't be read, at which no file's bytes are told, or too many; or it is answered so
abbrev pub AnalysesOver : Tells → List Directive → ℕ → List (List ℕ) → Result Reply Fault → Type 0
AnalysesOver at profile limit paths result = IsUnreadWhole at.bytes result ⊎ GivesAnswer (IsAnalysisOver at profile limit paths) result

-- A command is answered, and leaves the tables, as the engine says: of those that keep what a register holds, and of any. A crash behind it leaves what
-- it left, or what was there before it, and, while the connection is open, just what is shown.
abbrev pub ServesOver : Format → Conditions → Command → State → State → Result Reply Refusal → Type 0
ServesOver format c command old new answer =
    ServesCommand c command old new answer × CommandOverTables format c command old new answer × CommandLasts format c command old new answer × IsDurable new

-- A task of one command is answered as the engine says of it on any tables, and this is what it leaves of them; so it is of a change by paths. An
-- analysis by paths is answered as above.
abbrev pub AnswersOver : Tells → Format → Conditions → Task → State → State → Result Reply Fault → Type 0
AnswersOver at format c (Ask command) old new result = GivesAnswer (ServesOver format c command old new) result
AnswersOver at format c (Change kind database paths) old new result =
    ChangesOver at format c kind (name_bytes database) (map string_bytes paths.items) old new result
AnswersOver at format c (Analyse paths) old new result = AnalysesOver at c.profile c.limits.records (map string_bytes paths.items) result

-- all that is said of a task, from these tables to those: its answer, with what it leaves of them and what a crash
-- behind it leaves (`AnswersOver`); and nothing changes where it isn't accepted, or is an analysis
pub record TaskOver (at : Tells) (format : Format) (c : Conditions) (task : Task) (old new : State) (result : Result Reply Fault) : Type 0 where
  pub answer : AnswersOver at format c task old new result
  -- nothing changes where it isn't accepted, nor where it is an analysis
  pub refused : OnErr result (ChangesNothing old new)
  pub reads : ReadsWhole task → LeavesAlone old new

-- ---- a line: from which tables, what is written, its status, and the tables then

-- what is written for a command, and its status, are those of an answer that, with the tables then, is as the engine
-- says on any tables (`ServesOver`)
abbrev pub CommandOver : Format → Conditions → Command → State → List ℕ → Status → State → Type 0
CommandOver format c command old bytes status new =
    (answer : Result Reply Refusal) × (bytes ≡ answer_text answer) × (status ≡ answer_status answer)
    × ServesOver format c command old new answer

-- This is written for an answer, or for the fault by which there is none, and this is the status.
abbrev pub IsTold : Result Reply Fault → List ℕ → Status → Type 0
IsTold (Ok reply) bytes status = (bytes ≡ answer_text (Ok reply)) × (status ≡ answer_status (Ok reply))
IsTold (Err fault) bytes status = TellsFault fault bytes status

-- The same of a change by a path: it is accepted only where all files at and below it are found, and a path that can't be read is the one that a walk
-- over these comes to.
abbrev pub PathOver : Tells → Format → Conditions → PathChange → State → List ℕ → Status → State → Type 0
PathOver at format c change old bytes status new =
    (result : Result Reply Fault) × IsTold result bytes status × Reaches at ⊥ (string_bytes change.path ∷ []) result
    × ChangesOver at format c change.kind (name_bytes change.database) (string_bytes change.path ∷ []) old new result

-- what is written for a line that says this, its status, and the tables then, on any tables: for a command and a
-- change by a path as `CommandOver` and `PathOver` say; for a remark nothing, for a mark its text, and for a bad line
-- that it is one, and these three change nothing, nor what a crash leaves
abbrev pub SaysOver : Tells → Format → Conditions → ℕ → Line → State → List ℕ → Status → State → Type 0
SaysOver at format c number Remark old bytes status new = (bytes ≡ []) × (status ≡ Answered) × LeavesAlone old new
SaysOver at format c number (Order command) old bytes status new = CommandOver format c command old bytes status new
SaysOver at format c number (Path change) old bytes status new = PathOver at format c change old bytes status new
SaysOver at format c number (Mark text) old bytes status new = (bytes ≡ mark_line (string_bytes text)) × (status ≡ Answered) × LeavesAlone old new
SaysOver at format c number Bad old bytes status new = (bytes ≡ bad_line number) × (status ≡ Misused) × LeavesAlone old new

-- what is written for a line, by its text and its number, its status, and the tables then, on any tables, as
-- `SaysOver` says of what the line says
abbrev pub LineOver : {S : Type 0} → Ghosts S → Tells → Format → Conditions → ℕ → List ℕ → Held S → List ℕ → Status → Held S → Type 0
LineOver g at format c number text old bytes status new =
    (line : Line) × Says text line × SaysOver at format c number line (state g old) bytes status (state g new)

-- every line of a text is answered so, each on the tables that the one before it left
abbrev pub LinesOver : {S : Type 0} → Ghosts S → Tells → Format → Conditions → ℕ → List ℕ → Held S → List ℕ → Status → Held S → Type 0
LinesOver g at format c n text old bytes status new = EachLine (LineOver g at format c) n text old bytes status [] new

-- ---- a task on a register in memory

-- A change by the files at and below these paths is refused on a register that holds nothing yet: it isn't initialised, the store or the memory
-- failed, or a read of a file that a walk gives, whose bytes aren't told.
abbrev pub IsRefusedUnbegun : Tells → List (List ℕ) → Result Reply Refusal → Type 0
IsRefusedUnbegun at paths (Ok reply) = ⊥
IsRefusedUnbegun at paths (Err NotInitialised) = ⊤
IsRefusedUnbegun at paths (Err Store) = ⊤
IsRefusedUnbegun at paths (Err OutOfMemory) = ⊤
IsRefusedUnbegun at paths (Err (ReadFault file)) = (walked : List (List ℕ)) × FindsFiles at paths walked × IsUntoldNth at.bytes walked file
IsRefusedUnbegun at paths (Err other) = ⊥

-- of a task on a register that holds nothing yet, whatever stands at its paths: of a change a path can't be read, or it
-- is refused as one that isn't initialised or by a failure (`IsRefusedUnbegun`), and an analysis is answered as
-- `AnalysesOver` says; a command names no path, so what it is answered, `answers` of `DoesOnNothing` says whatever the
-- paths tell
abbrev pub OverNothing : Tells → Conditions → Task → Result Reply Fault → Type 0
OverNothing at c (Ask command) result = ⊤
OverNothing at c (Change kind database paths) result = IsUnreadable result ⊎ GivesAnswer (IsRefusedUnbegun at (map string_bytes paths.items)) result
OverNothing at c (Analyse paths) result = AnalysesOver at c.profile c.limits.records (map string_bytes paths.items) result

-- ---- what is written for lines, without the tables

-- what is written for a line that says this, and its status: for a command those of some answer; for a change by a
-- path those of a reply, only where all files at and below it are found, or of a fault, and a path that can't be read
-- is the one at which a walk stops; for a remark nothing, for a mark its text, for a bad line that it is one
abbrev pub SaysWritten : Tells → ℕ → Line → List ℕ → Status → Type 0
SaysWritten at number Remark bytes status = (bytes ≡ []) × (status ≡ Answered)
SaysWritten at number (Order command) bytes status = (answer : Result Reply Refusal) × (bytes ≡ answer_text answer) × (status ≡ answer_status answer)
SaysWritten at number (Path change) bytes status = (result : Result Reply Fault) × IsTold result bytes status × Reaches at ⊥ (string_bytes change.path ∷ []) result
SaysWritten at number (Mark text) bytes status = (bytes ≡ mark_line (string_bytes text)) × (status ≡ Answered)
SaysWritten at number Bad bytes status = (bytes ≡ bad_line number) × (status ≡ Misused)

-- what is written for a line, by its text and its number, and its status, without the tables, as `SaysWritten` says of
-- what the line says
abbrev pub LineWritten : Tells → ℕ → List ℕ → ⊤ → List ℕ → Status → ⊤ → Type 0
LineWritten at number text before bytes status after = (line : Line) × Says text line × SaysWritten at number line bytes status

-- what is written for the lines of a text, which n others stand before, up to the rest, and the greatest of their
-- statuses, as `LineWritten` says of each
abbrev pub LinesWritten : Tells → ℕ → List ℕ → List ℕ → Status → List ℕ → Type 0
LinesWritten at n text bytes status rest = EachLine (LineWritten at) n text tt bytes status rest tt
