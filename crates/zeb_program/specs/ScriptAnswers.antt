-- What a script writes, and its status (this program's own).
use Rattle.std.specs.Prelude.{◌≡◌, ◌⊎◌, ◌<◌, ◌==◌, if◌then◌else◌, ℕ, Bool, Option, Some, Ok, IsOk, IsTrue, List, [], ◌∷◌, ◌++◌, codes, length}
use Rattle.sqlite.specs.Files.{file_state, over_files}
use Rattle.sqlite.specs.Held.{Held}
use Rattle.sqlite.specs.State.{State}
use Rattle.sqlite_disk.specs.contracts.memory.MemoryDisk.TheImpl.{ghosts}
use Rattle.sqlite_disk.specs.declared.memory.Memory.{Memory}
use Rattle.sqlite_store.specs.declared.store.FileStore.{FileStore}
use Rattle.zeb_change.specs.Conditions.{Conditions}
use Rattle.zeb_image.specs.Holdings.{Holdings, nothing_yet}
use Rattle.zeb_image.specs.Image.{Keeps}
use Rattle.zeb_paths.specs.Walks.{Tells}
use Rattle.zeb_change.specs.declared.refusals.Refusal.TheVariants as refusal
use Rattle.zeb_profile.specs.declared.directives.Directive.{Directive}
use Rattle.zeb_profile.specs.declared.faults.ProfileFault.{ProfileFault}
use Rattle.zeb_profile.specs.Faults.{fault_text}
use Rattle.zeb_profile.specs.Outcomes.{FailsPlaced}
use Rattle.zeb_profile.specs.Profiles.{profile_of}
use Rattle.zeb_register.specs.Formats.{Format, packed_blocks, version_of}
use Rattle.zeb_program.specs.FixedLines.{expected_line, refusal_line, starved_line, unreadable_line}
use Rattle.zeb_program.specs.Inputs.{IsInput}
use Rattle.zeb_program.specs.Scripts.{DividesAt, HasNoDivider}
use Rattle.zeb_program.specs.Answers.{AnswersBatch, AnswersPart, EachLine}
use Rattle.zeb_program.specs.OverTables.{LineOver, LinesOver}
use Rattle.zeb_program.specs.Statuses.{fault_status}
use Rattle.zeb_program.specs.declared.statuses.Status.{Status}
use Rattle.zeb_program.specs.declared.statuses.Status.TheVariants.{Answered, Failed}

-- the line of a failed store or of want of memory, and status 3
abbrev pub IsUnopened : List ℕ → Status → Type 0
IsUnopened bytes status = ((bytes ≡ refusal_line refusal.Store) ⊎ (bytes ≡ refusal_line refusal.Memory)) × (status ≡ Failed)

-- what is written for a profile that is refused
abbrev pub fault_line : ProfileFault → List ℕ
fault_line fault = codes "zebraidx: input " ++ fault_text fault ++ 10 ∷ []

-- what a register works under that the program opens and uses in this format, by the directives of its profile: the version is that of the
-- format, and the limits are the greatest that there are
pub record AreConditionsIn (format : Format) (directives : List Directive) (c : Conditions) : Type 0 where
  pub version : c.version ≡ version_of format
  pub profile : c.profile ≡ directives
  pub records : c.limits.records ≡ 1000000
  pub numbers : c.limits.numbers ≡ 999999999

-- the register of a script is in packed blocks
abbrev pub AreScriptConditions : List Directive → Conditions → Type 0
AreScriptConditions = AreConditionsIn packed_blocks

-- a connection over two files in memory, which are gone with it
abbrev pub MemoryConnection : Type 0
MemoryConnection = Held (FileStore Memory ghosts)

-- a connection is open, and its tables keep nothing yet
abbrev pub HoldsNothing : State → Type 0
HoldsNothing s = IsTrue s.is_open × Keeps s nothing_yet

-- what is written for the lines of a batch, which n others stand before, and their greatest status, on
-- a register in memory that holds nothing yet: each line as the engine says of it on any tables, on those that the
-- line before it left, and as a run answers them, as far as the bytes of their files are told
pub record RunsFromNothing (at : Tells) (directives : List Directive) (n : ℕ) (batch bytes : List ℕ) (status : Status) : Type 0 where
  pub c : Conditions
  pub under : AreScriptConditions directives c
  -- the register before the first line, which holds nothing yet, and behind the last one
  pub first : MemoryConnection
  pub last : MemoryConnection
  pub empty : HoldsNothing (file_state first)
  -- Each line is answered as on any tables, also behind one that names a path where no file's bytes are told. Files in memory give back
  -- what was written to them, so this has no premise of a clean disk.
  pub each : LinesOver over_files at packed_blocks c n batch first bytes status last
  -- as a run answers them, as far as the bytes of their files are told
  pub answers : (held : Option Holdings) × AnswersBatch at.bytes c n batch (Some nothing_yet) bytes status held

-- what is written for the first lines of a batch, which n others stand before, but not for all of its lines, on a
-- register in memory that holds nothing yet: for each of them as `RunsFromNothing` says
pub record PartFromNothing (at : Tells) (directives : List Directive) (n : ℕ) (batch bytes : List ℕ) : Type 0 where
  pub c : Conditions
  pub under : AreScriptConditions directives c
  -- the register before the first line, which holds nothing yet, and behind the last one that is answered
  pub first : MemoryConnection
  pub last : MemoryConnection
  pub empty : HoldsNothing (file_state first)
  -- each of these lines is answered as on any tables
  pub each : (status : Status) × (rest : List ℕ) × (0 < length rest) × EachLine (LineOver over_files at packed_blocks c) n batch first bytes status rest last
  -- as a run answers them, as far as the bytes of their files are told
  pub answers : AnswersPart at.bytes c n batch (Some nothing_yet) bytes

-- what is written for the lines of a batch, and their greatest status (`RunsFromNothing`); or the line and the status of
-- the failure by which no register was opened (`IsUnopened`)
abbrev pub AnswersOpened : Tells → List Directive → ℕ → List ℕ → List ℕ → Status → Type 0
AnswersOpened at directives n batch bytes status = RunsFromNothing at directives n batch bytes status ⊎ IsUnopened bytes status

-- what is written for them where memory runs out between two lines of output: the answers of the first lines, or nothing
abbrev pub AnswersStopped : Tells → List Directive → ℕ → List ℕ → List ℕ → Type 0
AnswersStopped at directives n batch bytes = PartFromNothing at directives n batch bytes ⊎ (bytes ≡ [])

-- the profile of a script: what stands before its divider, or the whole text
abbrev pub IsProfileOf : List ℕ → List ℕ → Type 0
IsProfileOf text profile = (HasNoDivider text × (profile ≡ text)) ⊎ ((n : ℕ) × (batch : List ℕ) × DividesAt n text profile batch)

-- what is written for a whole script, and its status: a line for an input that is too long or no text, or for a
-- profile that is refused; nothing for a profile alone; or the answers of its lines, or the line of the failure by
-- which no register was opened
pub data AnswersScript : Tells → List ℕ → List ℕ → Status → Type 0 where
  -- an input that is too long or no text
  unreadable : {at : Tells} {text : List ℕ} → ¬ IsInput text → AnswersScript at text unreadable_line Failed
  -- a profile that is refused: for its first fault, or for want of memory
  faulty : {at : Tells} {text profile : List ℕ} → (fault : ProfileFault) → IsInput text → IsProfileOf text profile → FailsPlaced fault (profile_of profile)
      → AnswersScript at text (fault_line fault) (fault_status fault.kind)
  -- a profile alone
  alone : {at : Tells} {text : List ℕ} → IsInput text → HasNoDivider text → IsOk (profile_of text) → AnswersScript at text [] Answered
  -- a profile, and the lines of a batch
  ran : {at : Tells} {text profile batch bytes : List ℕ} {directives : List Directive} {n : ℕ} {status : Status} → IsInput text → DividesAt n text profile batch → profile_of profile ≡ Ok directives
      → AnswersOpened at directives n batch bytes status → AnswersScript at text bytes status

-- nothing was written, or the answers of a batch's first lines, but not of all, where memory runs out for the program
-- itself
pub data EndsEarly : Tells → List ℕ → List ℕ → Type 0 where
  -- before the last line of the batch is answered
  stopped : {at : Tells} {text profile batch bytes : List ℕ} {directives : List Directive} {n : ℕ} → IsInput text → DividesAt n text profile batch → profile_of profile ≡ Ok directives
      → AnswersStopped at directives n batch bytes → EndsEarly at text bytes
  -- while the input is read
  silent : {at : Tells} {text : List ℕ} → EndsEarly at text []

-- below the answer to an empty input stands what is expected, below another nothing
abbrev pub hint_of : Bool → List ℕ
hint_of is_empty = if is_empty then expected_line else []

-- nothing goes to the fault output, or that memory ran out, or what is expected in place of an empty input
abbrev pub TellsAtMost : List ℕ → Type 0
TellsAtMost told = (told ≡ []) ⊎ (told ≡ starved_line) ⊎ (told ≡ expected_line)

-- A script is answered, and just of an empty input the fault output says what is expected; or it ends early, which is told there, with status 3.
abbrev pub EndsScript : Tells → List ℕ → (bytes told : List ℕ) → Status → Type 0
EndsScript at text bytes told status =
    (AnswersScript at text bytes status × (told ≡ hint_of (length text == 0))) ⊎ (EndsEarly at text bytes × (told ≡ starved_line) × (status ≡ Failed))
