-- The lines of a batch that name a change by the path of its file (Zebra manual, zebraidx, whose commands they are; the line is this
-- program's own).
use Rattle.std.specs.Prelude.{◌≡◌, ◌≢◌, ℕ, List, [], Option, Some, IsOk, take, drop, codes, string_bytes}
use Rattle.std.specs.Str.{IsUtf8}
use Rattle.hex.specs.Hex.{decode_of}
use Rattle.zeb_image.specs.Names.{IsDatabaseName}
use Rattle.zeb_change.specs.declared.settings.Kind.{Kind}
use Rattle.zeb_program.specs.declared.path_changes.PathChange.{PathChange}
use Rattle.zeb_program.specs.Batches.{IsName, kind_word}
use Rattle.zeb_program.specs.Scripts.{line_at}
use Rattle.zeb_program.specs.Words.{first_word, after_first_word, without_blanks}

-- a file that is given as `hex:` and the digits of its bytes
pub record IsDigits (file : List ℕ) : Type 0 where
  pub mark : take 4 file ≡ codes "hex:"
  pub bytes : IsOk (decode_of (drop 4 file))

-- the rest of a line behind its first word and a database's name
abbrev pub file_of : List ℕ → List ℕ
file_of text = after_first_word (after_first_word text)

-- the text, which begins and ends with no blank, names a change by a path: the word of its kind, a database's name, and a rest that isn't
-- empty and isn't `hex:` with the digits of bytes
pub record HasPath (text : List ℕ) : Type 0 where
  pub kind : Kind
  pub word : first_word text ≡ kind_word kind
  pub name : IsDatabaseName (first_word (after_first_word text))
  pub some : file_of text ≢ []
  pub other : ¬ IsDigits (file_of text)

-- this is the change
pub record NamesPath (text : List ℕ) (change : PathChange) : Type 0 where
  pub word : first_word text ≡ kind_word change.kind
  pub name : IsName (first_word (after_first_word text)) change.database
  pub rest : string_bytes change.path ≡ file_of text
  pub some : file_of text ≢ []
  pub other : ¬ IsDigits (file_of text)

-- if a line of text names a change by a path, the bytes of the file there are told
abbrev pub IsLineTold : (List ℕ → Option (List ℕ)) → List ℕ → Type 0
IsLineTold told line = IsUtf8 line → HasPath (without_blanks line) → (file : List ℕ) × (told (file_of (without_blanks line)) ≡ Some file)

-- so it is of each line of a text
abbrev pub AreFilesTold : (List ℕ → Option (List ℕ)) → List ℕ → Type 0
AreFilesTold told text = (n : ℕ) → IsLineTold told (line_at n text)
