-- Why words are refused: by the parser, or by the program itself, and then for which cause (this program's own).
use Rattle.std.specs.Prelude.{◌≡◌, ◌≢◌, ◌⊎◌, ⊤, true, ℕ, List, [], Option, Some, None, codes}
use Rattle.zeb_image.specs.Names.{IsDatabaseName}
use Rattle.clap.specs.Walk.{Row, Text, one_of}
use Rattle.clap.specs.Simple.{matches_of, subcommand_of}
use Rattle.clap.specs.Faults.{fault_of}
use Rattle.zeb_words.specs.Parses.{HasMistake, HasRequest, IsFlagRead, IsPast, help_word, program_app, text_or}
use Rattle.zeb_words.specs.declared.misuses.Misuse.{Misuse}
use Rattle.zeb_words.specs.declared.misuses.Misuse.TheVariants.{Name, PastNumber, ShowsElsewhere, NoCommand}
use Rattle.zeb_words.specs.declared.words.Usage.{Usage}
use Rattle.zeb_words.specs.declared.words.Usage.TheVariants.{BadUsage, Refused, Help, Memory}

-- the line that says for which cause the program itself refuses words
abbrev pub misuse_text : Misuse → List ℕ
misuse_text Name = codes "a database's name has 1 to 64 ASCII letters, digits, '-', '_' and '.', and no others"
misuse_text PastNumber = codes "the position is above the number of terms"
misuse_text ShowsElsewhere = codes "-s stands with update alone"
misuse_text NoCommand = codes "there is no such command"

-- the word is that of no command
abbrev pub IsNoCommand : Text → Type 0
IsNoCommand word =
    (word ≢ codes "init") × (word ≢ codes "create") × (word ≢ codes "drop") × (word ≢ codes "update") × (word ≢ codes "delete") × (word ≢ codes "adelete")
    × (word ≢ codes "check") × (word ≢ codes "reindex") × (word ≢ codes "upgrade") × (word ≢ codes "stat") × (word ≢ codes "dump") × (word ≢ codes "find")
    × (word ≢ codes "scan") × (word ≢ codes "batch") × (word ≢ codes "shell")

-- a command of this word with these matches takes a name that no database may have
abbrev pub TakesNoName : Text → List Row → Type 0
TakesNoName word rows = ((word ≡ codes "create") ⊎ (word ≡ codes "drop")) × (IsDatabaseName (text_or (codes "name") [] rows) → ⊥)

-- The matches of the options and of the command are refused for this cause.
abbrev pub IsMisuseOf : Misuse → List Row → Option (Text × List Row) → Type 0
IsMisuseOf Name rows sub =
    (IsDatabaseName (text_or (codes "database") (codes "Default") rows) → ⊥) ⊎ ((word : Text) × (given : List Row) × (sub ≡ Some (word, given)) × TakesNoName word given)
IsMisuseOf PastNumber rows sub = (given : List Row) × (sub ≡ Some (codes "scan", given)) × IsPast given
IsMisuseOf ShowsElsewhere rows sub = IsFlagRead (one_of (codes "shows") rows) true × ((word : Text) × (given : List Row) × (sub ≡ Some (word, given)) × (word ≢ codes "update"))
IsMisuseOf NoCommand rows sub = (sub ≡ None) ⊎ ((word : Text) × (given : List Row) × (sub ≡ Some (word, given)) × IsNoCommand word)

-- The words are refused: by the parser's text only where it finds a fault in them, and they aren't the word for help; with help or the version only where
-- they ask for one; and by the program itself only where the parser takes them, for a cause that its matches have.
abbrev pub IsRefusedAs : List Text → Usage → Type 0
IsRefusedAs words (BadUsage misuse) =
    (fault_of program_app words ≡ []) × IsMisuseOf misuse (matches_of program_app words) (subcommand_of program_app words)
IsRefusedAs words (Refused text) = HasMistake (fault_of program_app words) × (words ≢ help_word)
IsRefusedAs words (Help text) = HasRequest (fault_of program_app words) ⊎ (words ≡ help_word)
IsRefusedAs words Memory = ⊤
