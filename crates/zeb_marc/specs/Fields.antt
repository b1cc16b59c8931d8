-- A field as contracts see it: without where its bytes lie.
use Rattle.zeb_marc.specs.declared.directory.Field.{Field}
use Rattle.zeb_marc.specs.Directory.{FieldText}

-- a field as contracts see it, without where its bytes lie
abbrev pub field_text : Field → FieldText
field_text f = record { tag = f.tag; text = f.bytes.now }
