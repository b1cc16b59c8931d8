-- How a record lies in its bytes, by ISO 2709 ("Structure of a record") and the MARC 21 Specifications for Record
-- Structure: a leader of twenty-four bytes, the directory's entries in a row, a field terminator (0x1E), the data area
-- and a record terminator (0x1D). The leader says how long the whole is and where the data area begins; each entry names
-- a field, which ends with a field terminator. This says of a whole text what the checks say one after the other. Leader and
-- Directory say which of its parts are read by this project's own rules.
use Rattle.std.specs.Prelude.{◌≡◌, ℕ, ◌+◌, ◌*◌, true, List, [], ◌∷◌, ◌++◌, length, take, map, slice_range}
use Rattle.std.specs.List.{AllByRecursion, flat_map}
use Rattle.zeb_marc.specs.Leader.{are_digits, number_of, record_length, base_digits, base_address, has_counts}
use Rattle.zeb_marc.specs.Directory.{Entry, FieldText, end_of, field_of, has_digits, has_tag_bytes}

-- an entry's twelve bytes
abbrev pub entry_bytes : Entry → List ℕ
entry_bytes entry = entry.tag ++ (entry.size ++ entry.start)

-- an entry of a directory, whose field lies in this data area and ends with a field terminator
pub record IsEntryOf (area : List ℕ) (entry : Entry) : Type 0 where
  pub tag_long : length entry.tag ≡ 3
  pub size_long : length entry.size ≡ 4
  pub start_long : length entry.start ≡ 5
  pub digits : has_digits entry ≡ true
  pub letters : has_tag_bytes entry.tag ≡ true
  pub ended : slice_range area (number_of entry.start) (end_of entry) ≡ (field_of area entry).text ++ (30 ∷ [])

-- a record as one whole, with the fields that its entries name: twenty-four bytes of leader, the entries' bytes in a row, 0x1E, the data area,
-- 0x1D; the leader says the whole's length, where the data area begins, and the counts of MARC; the bytes that each entry names end with 0x1E (ISO
-- 2709, "Structure of a record"). Proved to be `IsRecord`
pub record IsLaidOut (text : List ℕ) (fields : List FieldText) : Type 0 where
  pub leader : List ℕ
  pub entries : List Entry
  pub area : List ℕ
  pub whole : text ≡ leader ++ (flat_map entry_bytes entries ++ (30 ∷ (area ++ (29 ∷ []))))
  pub leader_long : length leader ≡ 24
  pub length_digits : are_digits (take 5 text) ≡ true
  pub says_length : record_length text ≡ length text
  pub has_marc_counts : has_counts text ≡ true
  pub address_digits : are_digits (base_digits text) ≡ true
  pub says_base : base_address text ≡ 25 + 12 * length entries
  pub named : AllByRecursion (IsEntryOf area) entries
  pub fields_are : fields ≡ map (field_of area) entries
