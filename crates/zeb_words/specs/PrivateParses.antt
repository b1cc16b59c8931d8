-- What only the contracts of private functions speak of; no public clause reaches it.
-- Why words name no command, by the matches and the errors of the parser, `clap`.
use Rattle.std.specs.Prelude.{◌≡◌, Bool, true, List, codes, ◌≢◌, ⊤}
use Rattle.zeb_image.specs.Names.{IsDatabaseName}
use Rattle.clap.specs.Walk.{Row, Text}
use Rattle.clap.specs.Values.{kind_of}
use Rattle.clap.specs.declared.error.Error.{Error}
use Rattle.clap.specs.declared.error.kind.ErrorKind.TheVariants.{OutOfMemory}
use Rattle.zeb_words.specs.declared.words.Usage.{Usage}
use Rattle.zeb_words.specs.declared.words.Usage.TheVariants.{BadUsage, Refused, Help, Memory}
use Rattle.zeb_words.specs.Misuses.{IsNoCommand, TakesNoName}
use Rattle.zeb_words.specs.Parses.{IsPast, IsRequest}
use Rattle.zeb_words.specs.declared.misuses.Misuse.{Misuse}
use Rattle.zeb_words.specs.declared.misuses.Misuse.TheVariants.{Name, PastNumber, ShowsElsewhere, NoCommand}

-- the refusal is the program's own, and not the parser's, for a cause of which P is so
abbrev pub Misuses : (Misuse → Type 0) → Usage → Type 0
Misuses P (BadUsage misuse) = P misuse
Misuses P (Refused text) = ⊥
Misuses P (Help text) = ⊥
Misuses P Memory = ⊤

-- no database may have this name, and that is told
abbrev pub IsMisusedName : Text → Misuse → Type 0
IsMisusedName text misuse = (misuse ≡ Name) × (IsDatabaseName text → ⊥)

-- the word is that of no command without arguments
abbrev pub IsNoBareCommand : Text → Type 0
IsNoBareCommand word =
    (word ≢ codes "check") × (word ≢ codes "reindex") × (word ≢ codes "stat") × (word ≢ codes "dump") × (word ≢ codes "batch") × (word ≢ codes "shell")

-- the command of this name is refused for this cause
abbrev pub IsMisusedAct : Misuse → Text → Bool → List Row → Type 0
IsMisusedAct Name name shows rows = TakesNoName name rows
IsMisusedAct PastNumber name shows rows = (name ≡ codes "scan") × IsPast rows
IsMisusedAct ShowsElsewhere name shows rows = (shows ≡ true) × (name ≢ codes "update")
IsMisusedAct NoCommand name shows rows = IsNoCommand name

-- the refusal is help, or memory ran out
abbrev pub IsHelp : Usage → Type 0
IsHelp (BadUsage misuse) = ⊥
IsHelp (Refused text) = ⊥
IsHelp (Help text) = ⊤
IsHelp Memory = ⊤

-- the refusal is by the parser's text, or memory ran out
abbrev pub IsRefusal : Usage → Type 0
IsRefusal (BadUsage misuse) = ⊥
IsRefusal (Refused text) = ⊤
IsRefusal (Help text) = ⊥
IsRefusal Memory = ⊤

-- the refusal says what the parser's error is
abbrev pub IsUsageOf : Error → Usage → Type 0
IsUsageOf error (BadUsage misuse) = ⊥
IsUsageOf error (Refused text) = (kind_of error ≢ OutOfMemory) × (IsRequest (kind_of error) → ⊥)
IsUsageOf error (Help text) = IsRequest (kind_of error)
IsUsageOf error Memory = ⊤
