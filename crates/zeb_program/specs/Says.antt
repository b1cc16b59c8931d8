-- What a line of a batch or a shell says.
use Rattle.std.specs.Prelude.{◌≡◌, ◌⊎◌, ℕ, List, [], Some, slice_get, string_bytes}
use Rattle.std.specs.Str.{IsUtf8}
use Rattle.zeb_engine.specs.declared.commands.Command.{Command}
use Rattle.zeb_program.specs.declared.lines.Line.{Line}
use Rattle.zeb_program.specs.declared.lines.Line.TheVariants.{Remark, Command as Order, Path, Mark, Bad}
use Rattle.zeb_program.specs.Batches.{HasMark, Names, NamesMark}
use Rattle.zeb_program.specs.PathChanges.{HasPath, NamesPath}
use Rattle.zeb_program.specs.Words.{without_blanks}

-- an empty line, or one that begins with `#`
abbrev pub IsRemark : List ℕ → Type 0
IsRemark text = (text ≡ []) ⊎ (slice_get text 0 ≡ Some 35)

-- what a line of text says
abbrev pub SaysText : List ℕ → Line → Type 0
SaysText text Remark = IsRemark (without_blanks text)
SaysText text (Order command) = ¬ IsRemark (without_blanks text) × Names (without_blanks text) command
SaysText text (Path change) = ¬ IsRemark (without_blanks text) × NamesPath (without_blanks text) change
SaysText text (Mark mark) = ¬ IsRemark (without_blanks text) × NamesMark (without_blanks text) (string_bytes mark)
SaysText text Bad =
    ¬ IsRemark (without_blanks text) × ((command : Command) → ¬ Names (without_blanks text) command) × ¬ HasPath (without_blanks text)
    × ¬ HasMark (without_blanks text)

-- what a line of bytes says: one that isn't UTF-8 is no command
abbrev pub Says : List ℕ → Line → Type 0
Says bytes line = (IsUtf8 bytes × SaysText bytes line) ⊎ (¬ IsUtf8 bytes × (line ≡ Bad))
