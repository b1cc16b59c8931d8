-- Names of databases (this program's own rule): 1 to 64 bytes of ASCII letters, digits, '-', '_' and '.'.
use Rattle.std.specs.Prelude.{ℕ, ◌<◌, ◌≤◌, ◌==◌, ◌||◌, Bool, IsTrue, List, length, All}
use Rattle.std.specs.Char.{is_ascii_alphanumeric}

abbrev pub is_name_byte : ℕ → Bool
is_name_byte byte = is_ascii_alphanumeric byte || (byte == 45) || (byte == 95) || (byte == 46)

-- a text can be a database's name: it has 1 to 64 bytes, each an ASCII letter or digit, `-`, `_` or `.`
pub record IsDatabaseName (text : List ℕ) : Type 0 where
  pub some_byte : 0 < length text
  pub at_most_64 : length text ≤ 64
  pub bytes : All (λ byte. IsTrue (is_name_byte byte)) text
