-- A worked record of ISO 2709: a leader, three directory entries, a control field with an identifier, a title of two
-- subfields and a date; its fields and units, read off by hand. And a small record, with texts that differ from it in one
-- place.
use Rattle.std.specs.Prelude.{◌≡◌, ℕ, List, [], ◌∷◌, ◌++◌, Some, None, codes}
use Rattle.zeb_marc.specs.Directory.{FieldText}
use Rattle.zeb_marc.specs.Contents.{UnitText}
use Rattle.zeb_marc.specs.Records.{first_fault}
use Rattle.zeb_marc.specs.declared.faults.MarcFault.{MarcFault}

-- the record with these ten bytes of its leader (from its length to its second count), and this last byte
abbrev pub record_with : List ℕ → ℕ → List ℕ
record_with head last = head ++ codes "22" ++ codes "00061 a 4500" ++ codes "001000300000245003300003260001100036" ++ (30 ∷ codes "a1")
    ++ (30 ∷ codes "10") ++ (31 ∷ codes "aMoby Dick :") ++ (31 ∷ codes "bor, the whale /") ++ (30 ∷ codes "  ") ++ (31 ∷ codes "cc1851.") ++ (30 ∷ last ∷ [])

-- *Moby Dick* in 109 bytes
abbrev pub worked_record : List ℕ
worked_record = record_with (codes "00109nam a") 29

-- the same with a field terminator (0x1E) in place of the record terminator
abbrev pub unended_record : List ℕ
unended_record = record_with (codes "00109nam a") 30

-- the record, a separator of two bytes, the record again, and one byte more
abbrev pub worked_stream : List ℕ
worked_stream = worked_record ++ (13 ∷ 10 ∷ (worked_record ++ (26 ∷ [])))

-- the three fields of *Moby Dick*, read off by hand
abbrev pub worked_fields : List FieldText
worked_fields = record { tag = codes "001"; text = codes "a1" }
    ∷ record { tag = codes "245"; text = codes "10" ++ (31 ∷ codes "aMoby Dick :") ++ (31 ∷ codes "bor, the whale /") }
    ∷ record { tag = codes "260"; text = codes "  " ++ (31 ∷ codes "cc1851.") }
    ∷ []

-- the four units of *Moby Dick*, read off by hand
abbrev pub worked_units : List UnitText
worked_units = record { seq = 1; tag = codes "001"; code = None; text = codes "a1" }
    ∷ record { seq = 2; tag = codes "245"; code = Some 97; text = codes "Moby Dick :" }
    ∷ record { seq = 3; tag = codes "245"; code = Some 98; text = codes "or, the whale /" }
    ∷ record { seq = 4; tag = codes "260"; code = Some 99; text = codes "c1851." }
    ∷ []

-- a text of a leader, one directory and the data area, with both terminators
abbrev pub small_text : List ℕ → List ℕ → List ℕ → List ℕ
small_text leader directory area = leader ++ (directory ++ (30 ∷ (area ++ (29 ∷ []))))

-- a record of one field with this leader
abbrev pub with_leader : List ℕ → List ℕ
with_leader leader = small_text leader (codes "001000300000") (codes "a1" ++ (30 ∷ []))

-- with this leader it has this fault
abbrev pub LeaderFault : List ℕ → MarcFault → Type 0
LeaderFault leader fault = first_fault (with_leader leader) ≡ Some fault

-- with its own leader and this entry it has this fault
abbrev pub EntryFault : List ℕ → MarcFault → Type 0
EntryFault entry fault = first_fault (small_text (codes "00041nam a2200037 a 4500") entry (codes "a1" ++ (30 ∷ []))) ≡ Some fault
