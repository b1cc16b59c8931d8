-- The directory, by ISO 2709 ("Directory") and the MARC 21 Specifications for Record Structure ("Directory", "Variable
-- fields"): entries of twelve bytes, a tag of three characters, the field's length of four digits, which counts its
-- field terminator, and where it starts, of five digits, from the base address of data on.
-- This project's own rules: that entries may come in any order, overlap and leave gaps; that a tag may mix capitals and small
-- letters; which fault a check has, and the order of the checks.
use Rattle.std.specs.Prelude.{ℕ, ◌+◌, ◌-◌, Bool, ◌&&◌, List, [], ◌∷◌, length, map, nat_lt, nat_le, ◌==◌, slice_range, slice_index, flat_map}
use Rattle.zeb_marc.specs.Cited.{list_all, is_ascii_alphanumeric, EntryDigits, EntryTag, EntryRange, FieldEnd}
use Rattle.zeb_marc.specs.Leader.{Check, check, are_digits, number_of}

-- a directory entry: a tag of three bytes, a length of four, a start of five
pub record Entry : Type 0 where
  pub tag : List ℕ
  pub size : List ℕ
  pub start : List ℕ

-- the entries of a directory, without its field terminator
abbrev pub entries_of : List ℕ → List Entry
entries_of (a ∷ b ∷ c ∷ d ∷ e ∷ f ∷ g ∷ h ∷ i ∷ j ∷ k ∷ l ∷ rest) =
    record { tag = a ∷ b ∷ c ∷ []; size = d ∷ e ∷ f ∷ g ∷ []; start = h ∷ i ∷ j ∷ k ∷ l ∷ [] }
    ∷ entries_of rest
entries_of _ = []

-- where the entry's field ends in the data area
abbrev pub end_of : Entry → ℕ
end_of entry = number_of entry.start + number_of entry.size

-- a field: its tag, and its bytes without the field terminator
pub record FieldText : Type 0 where
  pub tag : List ℕ
  pub text : List ℕ

abbrev pub field_of : List ℕ → Entry → FieldText
field_of area entry = record { tag = entry.tag; text = slice_range area (number_of entry.start) (end_of entry - 1) }

-- ASCII letters and digits alone ("Directory")
abbrev pub has_tag_bytes : List ℕ → Bool
has_tag_bytes tag = list_all is_ascii_alphanumeric tag

unfoldable pub has_digits : Entry → Bool
has_digits entry = are_digits entry.size && are_digits entry.start

-- the field has its terminator at least, and ends within the data area: the record terminator is no part of that
unfoldable pub is_in_area : List ℕ → Entry → Bool
is_in_area area entry = nat_lt (number_of entry.start) (end_of entry) && nat_le (end_of entry) (length area)

-- what an entry has to say, of a data area
abbrev pub entry_checks : List ℕ → Entry → List Check
entry_checks area entry = check (has_digits entry) EntryDigits
    ∷ check (has_tag_bytes entry.tag) EntryTag
    ∷ check (is_in_area area entry) EntryRange
    ∷ check (slice_index area (end_of entry - 1) == 30) FieldEnd
    ∷ []

-- the same of the entries of a directory, one after the other
abbrev pub directory_checks : List ℕ → List ℕ → List Check
directory_checks area directory = flat_map (entry_checks area) (entries_of directory)

-- the fields that a directory names in a data area, in its order
abbrev pub fields_in : List ℕ → List ℕ → List FieldText
fields_in area directory = map (field_of area) (entries_of directory)
