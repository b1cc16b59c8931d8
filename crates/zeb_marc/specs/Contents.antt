-- The units of a record, by the MARC 21 Specifications for Record Structure ("Variable control fields", "Variable data
-- fields"): a control field, whose tag begins with `00`, is one unit without a code. A data field is cut at every
-- delimiter (0x1F): what stands before the first are the indicators and no unit; each later piece that isn't empty is a
-- unit, a subfield, its first byte the code and the rest its text. The units of all fields are numbered from 1.
-- This project's own rules: that a record is read as units, and their numbers; that indicators may be any bytes, of any number;
-- that any byte may be a code; that an empty piece is passed over; and that only a tag makes a control field, whatever its bytes.
use Rattle.std.specs.Prelude.{ℕ, suc, Bool, ◌&&◌, List, [], ◌∷◌, drop, Option, Some, None, ◌==◌, if◌then◌else◌, slice_index, flat_map}
use Rattle.std.specs.List.{slice_split}
use Rattle.zeb_marc.specs.Directory.{FieldText}

-- a unit without its number
pub record Content : Type 0 where
  pub tag : List ℕ
  pub code : Option ℕ
  pub text : List ℕ

-- a unit with its number, as contracts see it
pub record UnitText : Type 0 where
  pub seq : ℕ
  pub tag : List ℕ
  pub code : Option ℕ
  pub text : List ℕ

-- a control field's tag begins with two zeros ("Variable control fields")
abbrev pub is_control : List ℕ → Bool
is_control tag = slice_index tag 0 == 48 && slice_index tag 1 == 48

-- what a piece between delimiters says
abbrev pub subfield_of : List ℕ → List ℕ → List Content
subfield_of tag [] = []
subfield_of tag (code ∷ text) = record { tag = tag; code = Some code; text = text } ∷ []

-- the subfields of a data field: its pieces behind the indicators
abbrev pub subfields_of : List ℕ → List ℕ → List Content
subfields_of tag text = flat_map (subfield_of tag) (drop 1 (slice_split (λ byte. byte == 31) text))

abbrev pub contents_of : FieldText → List Content
contents_of field = if is_control field.tag then record { tag = field.tag; code = None; text = field.text } ∷ [] else subfields_of field.tag field.text

-- what some units say, numbered in their order from a number on
abbrev pub numbered_from : ℕ → List Content → List UnitText
numbered_from n [] = []
numbered_from n (c ∷ contents) = record { seq = n; tag = c.tag; code = c.code; text = c.text } ∷ numbered_from (suc n) contents

-- the units of all fields in their order, numbered from 1 ("Variable control fields", "Variable data fields")
unfoldable pub units_of : List FieldText → List UnitText
units_of fields = numbered_from 1 (flat_map contents_of fields)
