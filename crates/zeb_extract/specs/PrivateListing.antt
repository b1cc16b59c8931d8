-- What only the contracts of private functions speak of; no public clause reaches it.
-- The occurrences of a record as they are found, as a list: unit after unit, target after target, term after term.
use Rattle.std.specs.Prelude.{ℕ, List, map, flat_map}
use Rattle.zeb_extract.specs.Cited.{enumerate_from, UnitText, Register, Occurrence}
use Rattle.zeb_extract.specs.Occurrences.{Targets, terms_of, text_of}

-- the numbered term in this register of this index, from this unit
abbrev pub occurrence_at : ℕ × Register → ℕ → ℕ × List ℕ → Occurrence
occurrence_at target seq numbered =
    record { key = record { index = target.0; register = target.1; term = numbered.1 }; seq = seq; pos = numbered.0 }

-- these terms in that register, numbered from 1
abbrev pub numbered_terms : ℕ × Register → ℕ → List (List ℕ) → List Occurrence
numbered_terms target seq terms = map (occurrence_at target seq) (enumerate_from 1 terms)

abbrev pub listed_in : UnitText → ℕ × Register → List Occurrence
listed_in unit target = numbered_terms target unit.seq (terms_of target.1 (text_of unit.text))

abbrev pub unit_listing : Targets → UnitText → List Occurrence
unit_listing targets unit = flat_map (listed_in unit) (targets unit.tag unit.code)

abbrev pub listing : Targets → List UnitText → List Occurrence
listing targets units = flat_map (unit_listing targets) units
