-- Units as contracts see them: without where their bytes lie.
use Rattle.std.specs.Prelude.{List, ◌++◌, flat_map}
use Rattle.zeb_marc.specs.declared.units.Unit.{Unit as MarcUnit}
use Rattle.zeb_marc.specs.declared.units.Begun.{Begun}
use Rattle.zeb_marc.specs.Directory.{FieldText}
use Rattle.zeb_marc.specs.Contents.{Content, UnitText, contents_of, subfields_of}

-- a unit as contracts see it, without where its bytes lie
abbrev pub unit_text : MarcUnit → UnitText
unit_text u = record { seq = u.seq; tag = u.tag; code = u.code; text = u.bytes.now }

-- the units, without their numbers, that are left of a data field that was begun, and those of the fields behind it
abbrev pub left_of : Begun → List FieldText → List Content
left_of begun fields = subfields_of begun.tag begun.text.now ++ flat_map contents_of fields
