-- A record as an example: the units of "Moby Dick", and two profiles, as texts and as what they say. The smaller sends the date of
-- publication (MARC 21, field 260, subfield c) to the number register of an index `Date`.
use Rattle.std.specs.Prelude.{ℕ, List, [], ◌∷◌, ◌++◌, codes, Some, None}
use Rattle.std.specs.List.{flat_map}
use Rattle.zeb_marc.specs.Contents.{UnitText}
use Rattle.zeb_lower_laws.specs.WorkedRecord.{worked_units}
use Rattle.zeb_profile.specs.declared.directives.Directive.{Directive}
use Rattle.zeb_profile.specs.declared.directives.Directive.TheVariants.{Store, Identifier, Att, Melm, All}
use Rattle.zeb_keys.specs.declared.registers.Register.{Register}
use Rattle.zeb_keys.specs.declared.registers.Register.TheVariants.{Word, Phrase, Number}
use Rattle.zeb_keys.specs.declared.keys.Occurrence.{Occurrence}

-- the units of the worked record *Moby Dick*: the control number, the title, the remainder of the title, and the date
abbrev pub moby_dick : List UnitText
moby_dick = worked_units

-- a profile of dates alone
abbrev pub date_text : List ℕ
date_text = codes "identifier 001\nmelm 260$c Date:n\nstore books.db\n"

-- what that text says
abbrev pub date_profile : List Directive
date_profile =
    Identifier (record { tag = codes "001"; code = None })
    ∷ Melm (record { tag = codes "260"; code = Some 99 }) (record { name = codes "Date"; register = Number } ∷ [])
    ∷ Store (codes "books.db")
    ∷ []

-- a number in the register of dates, at the first place of a unit
abbrev pub date_at : ℕ → List ℕ → Occurrence
date_at seq number = record { key = record { index = 0; register = Number; term = number }; seq = seq; pos = 1 }

-- a whole profile: words and phrases of the title, words of the other title subfields, numbers of the date, and any words of
-- a data field
abbrev pub title_lines : List (List ℕ)
title_lines =
    codes "store books.db"
    ∷ codes "identifier 001"
    ∷ codes "att 4 Title"
    ∷ codes "att 31 Date"
    ∷ codes "att 1016 Any"
    ∷ codes "melm 245$a Title:w,Title:p"
    ∷ codes "melm 245 Title:w"
    ∷ codes "melm 260$c Date:n"
    ∷ codes "all Any"
    ∷ []

-- the lines, each ended by LF (10)
abbrev pub title_text : List ℕ
title_text = flat_map (λ line. line ++ 10 ∷ []) title_lines

-- what that text says
abbrev pub title_profile : List Directive
title_profile =
    Store (codes "books.db")
    ∷ Identifier (record { tag = codes "001"; code = None })
    ∷ Att 4 (codes "Title")
    ∷ Att 31 (codes "Date")
    ∷ Att 1016 (codes "Any")
    ∷ Melm (record { tag = codes "245"; code = Some 97 })
    (record { name = codes "Title"; register = Word } ∷ record { name = codes "Title"; register = Phrase } ∷ [])
    ∷ Melm (record { tag = codes "245"; code = None }) (record { name = codes "Title"; register = Word } ∷ [])
    ∷ Melm (record { tag = codes "260"; code = Some 99 }) (record { name = codes "Date"; register = Number } ∷ [])
    ∷ All (record { name = codes "Any"; register = Word } ∷ [])
    ∷ []

-- a term in a register of an index, in this unit at this place
abbrev pub term_at : ℕ → Register → ℕ → ℕ → List ℕ → Occurrence
term_at index register seq pos term =
    record { key = record { index = index; register = register; term = term }; seq = seq; pos = pos }

-- what "Moby Dick" is found by under that profile: in the indexes Title (0), Date (1) and Any (2)
abbrev pub moby_dick_analysis : List Occurrence
moby_dick_analysis =
    term_at 0 Word 2 2 (codes "dick")
    ∷ term_at 0 Word 2 1 (codes "moby")
    ∷ term_at 0 Word 3 1 (codes "or")
    ∷ term_at 0 Word 3 2 (codes "the")
    ∷ term_at 0 Word 3 3 (codes "whale")
    ∷ term_at 0 Phrase 2 1 (codes "moby dick")
    ∷ term_at 1 Number 4 1 (codes "000000000000001851")
    ∷ term_at 2 Word 4 1 (codes "c1851")
    ∷ term_at 2 Word 2 2 (codes "dick")
    ∷ term_at 2 Word 2 1 (codes "moby")
    ∷ term_at 2 Word 3 1 (codes "or")
    ∷ term_at 2 Word 3 2 (codes "the")
    ∷ term_at 2 Word 3 3 (codes "whale")
    ∷ []
