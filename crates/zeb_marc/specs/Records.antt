-- A record, by ISO 2709 ("Structure of a record") and the MARC 21 Specifications for Record Structure: a leader, a
-- directory ended by a field terminator, the data area, and a record terminator. A text is a record where each check
-- passes, those of the leader first and then those of each directory entry in order; its fields are then those that the
-- entries name. Of every other text the first check that fails gives the fault.
-- This project's own rules: which check comes first, which fault it has (see Leader and Directory), and that the text has to be
-- the record alone, with nothing behind it.
use Rattle.std.specs.Prelude.{◌≡◌, ℕ, ◌-◌, List, ◌++◌, length, Option, None, slice_range, ⊤}
use Rattle.zeb_marc.specs.Cited.{MarcFault, TooManySeparators, ReadFault}
use Rattle.zeb_marc.specs.Leader.{first_failing, leader_checks, base_address}
use Rattle.zeb_marc.specs.Directory.{FieldText, directory_checks, fields_in}

-- what stands between the leader and the directory's field terminator
abbrev pub directory_of : List ℕ → List ℕ
directory_of text = slice_range text 24 (base_address text - 1)

-- what stands between the base address of data and the record terminator
abbrev pub data_area : List ℕ → List ℕ
data_area text = slice_range text (base_address text) (length text - 1)

-- the fault of the first check that fails, the leader's first and then the entries' (ISO 2709, "Structure of a
-- record")
unfoldable pub first_fault : List ℕ → Option MarcFault
first_fault text = first_failing (leader_checks text ++ directory_checks (data_area text) (directory_of text))

-- the fields that a text's directory names in its data area, in its order
unfoldable pub fields_of : List ℕ → List FieldText
fields_of text = fields_in (data_area text) (directory_of text)

-- the text is a record with these fields: each check passes, and the fields are those that the directory names (ISO
-- 2709, "Structure of a record")
pub record IsRecord (text : List ℕ) (fields : List FieldText) : Type 0 where
  pub sound : first_fault text ≡ None
  pub fields_are : fields ≡ fields_of text

-- the faults of a text that is no record: every one but `TooManySeparators` and `ReadFault`, which only a stream has
abbrev pub IsRecordFault : MarcFault → Type 0
IsRecordFault TooManySeparators = ⊥
IsRecordFault ReadFault = ⊥
IsRecordFault fault = ⊤
