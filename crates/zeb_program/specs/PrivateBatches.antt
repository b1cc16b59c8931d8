-- What only the contracts of private functions speak of; no public clause reaches it.
-- Changes, finds, pages and scans that the lines of a batch name (this program's own).
use Rattle.std.specs.Prelude.{◌≡◌, ◌≢◌, ℕ, List, [], Ok, codes, drop, string_bytes, take}
use Rattle.hex.specs.Hex.{decode_of}
use Rattle.zeb_image.specs.Names.{IsDatabaseName}
use Rattle.zeb_image.specs.declared.names.DbName.{DbName}
use Rattle.zeb_engine.specs.declared.commands.Command.{Command}
use Rattle.zeb_change.specs.declared.settings.Kind.{Kind}
use Rattle.zeb_program.specs.declared.lines.Line.{Line}
use Rattle.zeb_program.specs.declared.lines.Line.TheVariants.{Remark, Command as Order, Path, Mark, Bad}
use Rattle.zeb_program.specs.declared.path_changes.PathChange.{PathChange}
use Rattle.zeb_program.specs.Batches.{HasChange, IsChangeOf, IsName, NamesChange, NamesFind, NamesPage, NamesScan, OfParts}
use Rattle.zeb_program.specs.PathChanges.{IsDigits}
use Rattle.zeb_program.specs.Words.{first_word, after_first_word}

-- the command is a change of that kind, and the text names its database and its file
abbrev pub IsChange : Kind → List ℕ → Command → Type 0
IsChange kind text = IsChangeOf (λ its_kind database files. (its_kind ≡ kind) × NamesChange text database files)

-- a file is given as `hex:` and the digits of these bytes
pub record AreBytesOf (file bytes : List ℕ) : Type 0 where
  pub mark : take 4 file ≡ codes "hex:"
  pub same : decode_of (drop 4 file) ≡ Ok bytes

-- the text names a database, and a file by a path
pub record HasFile (text : List ℕ) : Type 0 where
  pub name : IsDatabaseName (first_word text)
  pub some : after_first_word text ≢ []
  pub other : ¬ IsDigits (after_first_word text)

-- the change is of that kind, and the text names its database and its path
pub record IsPathChange (kind : Kind) (text : List ℕ) (change : PathChange) : Type 0 where
  pub same : change.kind ≡ kind
  pub name : IsName (first_word text) change.database
  pub rest : string_bytes change.path ≡ after_first_word text
  pub some : after_first_word text ≢ []
  pub other : ¬ IsDigits (after_first_word text)

-- what a line says that has this text behind the word of a change: a change by the digits of a file, one by a path, or nothing
abbrev pub SaysChange : Kind → List ℕ → Line → Type 0
SaysChange kind text (Order command) = IsChange kind text command
SaysChange kind text (Path change) = IsPathChange kind text change
SaysChange kind text Bad = ¬ HasChange text × ¬ HasFile text
SaysChange kind text Remark = ⊥
SaysChange kind text (Mark marked) = ⊥

-- the command is a find, and P is so of what it names: its database, its query, and which of its hits it shows
abbrev pub IsFindOf : (DbName → List ℕ → ℕ → ℕ → Type 0) → Command → Type 0
IsFindOf P = OfParts (λ kind database files. ⊥) P (λ database query number position. ⊥)

-- the command is a find of the first 20 records, and the text names its database and its query
abbrev pub IsFind : List ℕ → Command → Type 0
IsFind text = IsFindOf (λ database query first count. NamesFind text database query × (first ≡ 1) × (count ≡ 20))

-- the command is a find, and the text names its database, which of its hits it shows, and its query
abbrev pub IsPage : List ℕ → Command → Type 0
IsPage text = IsFindOf (NamesPage text)

-- the command is a scan, and the text names its database, its range and its query
abbrev pub IsScan : List ℕ → Command → Type 0
IsScan text = OfParts (λ kind database files. ⊥) (λ database query first count. ⊥) (NamesScan text)
