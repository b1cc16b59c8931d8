-- The lines that an analysis is printed as (this project's own). Each ends with LF.
use Rattle.std.specs.Prelude.{ℕ, ◌==◌, ◌&&◌, if◌then◌else◌, List, [], ◌∷◌, ◌++◌, length, codes, slice_get, unwrap_or}
use Rattle.std.specs.Char.{is_ascii_digit}
use Rattle.std.specs.List.{flat_map, list_all}
use Rattle.std.specs.Fmt.{decimal}
use Rattle.std.specs.Str.Parse.{digits_value}
use Rattle.zeb_keys.specs.Registers.{register_text}
use Rattle.zeb_keys.specs.declared.registers.Register.{Register}
use Rattle.zeb_keys.specs.declared.registers.Register.TheVariants.{Word, Phrase, Number}
use Rattle.zeb_keys.specs.declared.keys.Occurrence.{Occurrence}
use Rattle.zeb_analysis.specs.Analysing.{Analysed}

abbrev pub ended : List ℕ → List ℕ
ended text = text ++ 10 ∷ []

-- the number of a key of 18 digits, without leading zeros; another text is no number's, and stays as it is
abbrev pub printed_number : List ℕ → List ℕ
printed_number term = if length term == 18 && list_all is_ascii_digit term then decimal (digits_value 10 term) else term

-- a term as it is printed: a number without leading zeros, and a word or a phrase as it is
abbrev pub printed_term : Register → List ℕ → List ℕ
printed_term Word term = term
printed_term Phrase term = term
printed_term Number term = printed_number term

-- the name of an index, which stands at its number; of one that has none the empty text
abbrev pub name_at : List (List ℕ) → ℕ → List ℕ
name_at names index = unwrap_or (slice_get names index) []

-- the index's name and its register, the unit, the place in the unit, and the term
abbrev pub occurrence_line : List (List ℕ) → Occurrence → List ℕ
occurrence_line names o =
    ended (name_at names o.key.index ++ codes ":" ++ register_text o.key.register
    ++ codes " " ++ decimal o.seq ++ codes " " ++ decimal o.pos ++ codes " " ++ printed_term o.key.register o.key.term)

-- the file, the record's place there and its identifier
abbrev pub record_line : Analysed → List ℕ
record_line a = ended (codes "record " ++ decimal a.file ++ codes " " ++ decimal a.nth ++ codes " " ++ a.ident)

-- the record, and then its occurrences in order
abbrev pub analysis_text : List (List ℕ) → Analysed → List ℕ
analysis_text names a = record_line a ++ flat_map (occurrence_line names) a.occurrences
