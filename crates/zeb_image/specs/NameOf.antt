-- The text of a database's name.
use Rattle.std.specs.Prelude.{ℕ, List}
use Rattle.zeb_image.specs.declared.names.DbName.{DbName}

-- the bytes of a database's name
abbrev pub name_bytes : DbName → List ℕ
name_bytes name = name.text.bytes
