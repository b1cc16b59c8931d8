-- What is written for words, and the status (this program's own).
use Rattle.std.specs.Prelude.{◌≡◌, ◌≢◌, ◌⊎◌, ℕ, Bool, Option, List, [], ◌++◌, String, string_bytes}
use Rattle.std.specs.declared.alloc.Global.{Global}
use Rattle.std.specs.Io.KnownBytes.{IsAtEnd}
use Rattle.zeb_words.specs.Names.{NamesNone, NamesWords}
use Rattle.zeb_words.specs.Misuses.{IsRefusedAs}
use Rattle.zeb_words.specs.declared.words.LayoutChoice.{LayoutChoice}
use Rattle.zeb_words.specs.declared.words.Words.{Words}
use Rattle.zeb_words.specs.declared.words.Act.TheVariants.{Batch, Shell}
use Rattle.zeb_words.specs.declared.words.Usage.{Usage}
use Rattle.zeb_words.specs.declared.words.Usage.TheVariants.{BadUsage, Refused, Help, Memory}
use Rattle.zeb_program.specs.declared.tasks.Task.{Task}
use Rattle.zeb_program.specs.Errands.{IsTaskOf, choice_of}
use Rattle.zeb_paths.specs.Walks.{Tells}
use Rattle.zeb_paths.specs.declared.causes.Closed.{Closed}
use Rattle.zeb_program.specs.Closings.{closing_lines}
use Rattle.zeb_program.specs.Registers.{Places}
use Rattle.zeb_program.specs.FixedLines.{misuse_line, starved_line, usage_line}
use Rattle.zeb_program.specs.Statuses.{closing_status}
use Rattle.zeb_program.specs.declared.statuses.Status.{Status}
use Rattle.zeb_program.specs.declared.statuses.Status.TheVariants.{Answered, Misused, Failed}
use Rattle.zeb_program.specs.Warnings.{WarnsOf, warning_bytes}
use Rattle.zeb_program.specs.WordRuns.{RunsBatch, RunsShell, StopsBatch, StopsShell, StopsTask, TellsWhy, WritesReply}

-- words that name a batch
abbrev pub NamesBatch : List (List ℕ) → Type 0
NamesBatch words = (named : Words) × NamesWords words named × (named.act ≡ Batch)

-- words that name a shell
abbrev pub NamesShell : List (List ℕ) → Type 0
NamesShell words = (named : Words) × NamesWords words named × (named.act ≡ Shell)

-- words that have the lines of the input run
abbrev pub NamesLines : List (List ℕ) → Type 0
NamesLines words = NamesBatch words ⊎ NamesShell words

-- what is written of words that name no command, to the output and to the fault output, and the status: a line, and below it the cause, or the parser's
-- text where the words are refused by the parser; or the help or the version that is asked for
abbrev pub TellsUsage : Usage → (bytes told : List ℕ) → Status → Type 0
TellsUsage (BadUsage misuse) bytes told status = (status ≡ Misused) × (bytes ≡ []) × (told ≡ usage_line ++ misuse_line misuse)
TellsUsage (Refused text) bytes told status = (status ≡ Misused) × (bytes ≡ []) × (told ≡ usage_line ++ string_bytes text)
TellsUsage (Help text) bytes told status = (status ≡ Answered) × (bytes ≡ string_bytes text) × (told ≡ [])
TellsUsage Memory bytes told status = (status ≡ Failed) × (bytes ≡ []) × (told ≡ starved_line)

-- what a task that is answered warns of goes to the fault output, and below it how the register was closed, and nothing else
abbrev pub WarnsClosed : (List ℕ → Option (List ℕ)) → Tells → Task → Closed → List ℕ → Type 0
WarnsClosed tells at task closed told = (warning : Option (List ℕ)) × WarnsOf tells at task warning × (told ≡ warning_bytes warning ++ closing_lines closed)

-- the answer to a task that asks for this layout, under the profile in this file, goes to the output, and only a warning to the fault output, and, with status 3, that the
-- register's file needs its log; why there is no answer goes to the fault output alone, as the line of a fault, with the status of that fault, below it
-- its cause, and, with status 3 too, that the register's file needs its log
abbrev pub TellsApart : {S : Type 0} → Places S → LayoutChoice → String Global → Task → (bytes told : List ℕ) → Status → Type 0
TellsApart at choice config task bytes told status =
    ((closed : Closed) × (status ≡ closing_status closed) × WritesReply at choice config task closed bytes × WarnsClosed at.tells at.sees task closed told)
    ⊎ ((bytes ≡ []) × TellsWhy at choice config task told status)

-- what is written for words to both outputs, and the status: for words that name no command, that name a batch, a
-- shell, which leaves a part of the input only with status 3 or where nothing is answered, or a task
pub data AnswersWords {S : Type 0} (at : Places S) (words : List (List ℕ)) (given left : Option (List ℕ)) (failed : Bool) (bytes told : List ℕ) (status : Status) : Type 0 where
  -- words of which no command is read: they name none, ask for help, or memory runs out at them; which of these it is, is the parser's to say. No store
  -- is opened then, and no byte of the input is gone.
  misused : (usage : Usage) → NamesNone words usage → IsRefusedAs words usage → at.untouched → left ≡ given → TellsUsage usage bytes told status
      → AnswersWords at words given left failed bytes told status
  -- words that name a batch, whose lines' answers and refusals go to the output
  batched : (named : Words) → NamesWords words named → named.act ≡ Batch → RunsBatch at named.config given failed bytes told status
      → AnswersWords at words given left failed bytes told status
  -- words that name a shell, which does the same, and leaves a part of the input only where something failed, or nothing was answered
  served : (named : Words) → NamesWords words named → named.act ≡ Shell → (status ≢ Failed → IsAtEnd left ⊎ (bytes ≡ []))
      → RunsShell at named.config given left failed bytes told status → AnswersWords at words given left failed bytes told status
  -- words that name a task, so neither a batch nor a shell
  named : (named : Words) → (task : Task) → NamesWords words named → IsTaskOf named.database named.act task
      → TellsApart at (choice_of named.act) named.config task bytes told status → AnswersWords at words given left failed bytes told status

-- what is written for them where memory runs out for the program itself: nothing, where they name a task, and what it has done stays; of a batch and of
-- a shell the answers of the first lines, or nothing
pub data StopsWords {S : Type 0} (at : Places S) (words : List (List ℕ)) (given left : Option (List ℕ)) (bytes told : List ℕ) : Type 0 where
  stopped_task : (named : Words) → (task : Task) → NamesWords words named → IsTaskOf named.database named.act task → StopsTask at (choice_of named.act) named.config task told
      → bytes ≡ [] → StopsWords at words given left bytes told
  stopped_batch : (named : Words) → NamesWords words named → named.act ≡ Batch → StopsBatch at named.config given bytes told
      → StopsWords at words given left bytes told
  stopped_shell : (named : Words) → NamesWords words named → named.act ≡ Shell → StopsShell at named.config given left bytes told
      → StopsWords at words given left bytes told

-- words are answered, or memory runs out for the program itself, which is told below what is told, with status 3
abbrev pub EndsWords : {S : Type 0} → Places S → List (List ℕ) → (given left : Option (List ℕ)) → Bool → (bytes told : List ℕ) → Status → Type 0
EndsWords at words given left failed bytes told status =
    AnswersWords at words given left failed bytes told status
    ⊎ ((first : List ℕ) × StopsWords at words given left bytes first × (told ≡ first ++ starved_line) × (status ≡ Failed))
