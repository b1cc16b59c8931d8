-- The analysis of files of MARC records under a profile (Zebra manual, zebraidx, `-s update`): what stands in the files, one after
-- the other; and then an analysis of each record, or the first refusal.
use Rattle.std.specs.Prelude.{◌≡◌, ◌↔◌, ℕ, ◌+◌, List, [], ◌∷◌, ◌++◌, nat_le, Option, Some, None, Result, Ok, Err, ⊤, if◌then◌else◌, string_bytes}
use Rattle.std.specs.List.{Contains}
use Rattle.std.specs.Option.{option_or}
use Rattle.zeb_profile.specs.declared.directives.Directive.{Directive}
use Rattle.zeb_profile.specs.Indexes.{unit_targets}
use Rattle.zeb_marc.specs.declared.faults.MarcFault.{MarcFault}
use Rattle.zeb_marc.specs.Contents.{UnitText, units_of}
use Rattle.zeb_marc.specs.Records.{first_fault, fields_of}
use Rattle.zeb_marc.specs.Splits.{split_of}
use Rattle.zeb_keys.specs.declared.keys.Occurrence.{Occurrence}
use Rattle.zeb_extract.specs.declared.naming.IdentFault.{IdentFault}
use Rattle.zeb_extract.specs.Identifier.{identifier_of}
use Rattle.zeb_extract.specs.Occurrences.{IsOccurrence}
use Rattle.zeb_keys.specs.Order.{IsRising}
use Rattle.zeb_analysis.specs.declared.analysing.Analysis.{Analysis}
use Rattle.zeb_analysis.specs.declared.faults.Place.{Place}
use Rattle.zeb_analysis.specs.declared.faults.AnalysisFault.{AnalysisFault}
use Rattle.zeb_analysis.specs.declared.faults.AnalysisFault.TheVariants.{Marc, Ident, TooManyRecords}

-- ---- what stands in files

-- At a place of a file: the bytes of a record, or, behind the last record, the fault that stands there. Files are counted from 1,
-- and places from 1 in their file.
pub record Standing : Type 0 where
  pub file : ℕ
  pub nth : ℕ
  pub content : Result (List ℕ) MarcFault

abbrev pub at_place : ℕ → ℕ → Result (List ℕ) MarcFault → Standing
at_place file nth content = record { file = file; nth = nth; content = content }

-- the slices of a file, the first of them at this place, and the fault behind them, if there is one
abbrev pub standing_from : ℕ → ℕ → List (List ℕ) → Option MarcFault → List Standing
standing_from file nth [] None = []
standing_from file nth [] (Some fault) = at_place file nth (Err fault) ∷ []
standing_from file nth (slice ∷ slices) last = at_place file nth (Ok slice) ∷ standing_from file (nth + 1) slices last

-- what stands in a file: its slices in order, and behind them its fault, if there is one
unfoldable pub standing_in : ℕ → List ℕ → List Standing
standing_in file text = standing_from file 1 (split_of text).slices (split_of text).fault

-- the same of all files, of which the first has this number
abbrev pub standing_in_all : ℕ → List (List ℕ) → List Standing
standing_in_all file [] = []
standing_in_all file (text ∷ texts) = standing_in file text ++ standing_in_all (file + 1) texts

-- ---- refusals

abbrev pub units_in : List ℕ → List UnitText
units_in bytes = units_of (fields_of bytes)

-- the place of what stands at this number in a file
abbrev pub place_at : ℕ → ℕ → Place
place_at file nth = record { file = file; nth = nth }

abbrev pub refused_name : ℕ → ℕ → Result (List ℕ) IdentFault → Option AnalysisFault
refused_name file nth (Ok ident) = None
refused_name file nth (Err fault) = Some (Ident (place_at file nth) fault)

-- a record with a fault is refused by it, and then one without a sound identifier
abbrev pub refused_record : List Directive → ℕ → ℕ → List ℕ → Option MarcFault → Option AnalysisFault
refused_record profile file nth bytes (Some fault) = Some (Marc (place_at file nth) fault)
refused_record profile file nth bytes None = refused_name file nth (identifier_of profile (units_in bytes))

-- one more record than the limit allows is refused before it is looked at
abbrev pub refused_content : List Directive → ℕ → ℕ → ℕ → ℕ → Result (List ℕ) MarcFault → Option AnalysisFault
refused_content profile limit before file nth (Err fault) = Some (Marc (place_at file nth) fault)
refused_content profile limit before file nth (Ok bytes) =
    if nat_le limit before then Some TooManyRecords else refused_record profile file nth bytes (first_fault bytes)

-- why what stands at a place is refused, where so many records stand before it in all files
unfoldable pub refusal_at : List Directive → ℕ → ℕ → Standing → Option AnalysisFault
refusal_at profile limit before standing = refused_content profile limit before standing.file standing.nth standing.content

-- the first refusal, where so many records stand before all of these
abbrev pub first_refusal : List Directive → ℕ → ℕ → List Standing → Option AnalysisFault
first_refusal profile limit before [] = None
first_refusal profile limit before (standing ∷ others) =
    option_or (refusal_at profile limit before standing) (first_refusal profile limit (before + 1) others)

-- ---- analyses

-- an analysis as a value: its file, its place there, the identifier's bytes and the occurrences
pub record Analysed : Type 0 where
  pub file : ℕ
  pub nth : ℕ
  pub ident : List ℕ
  pub occurrences : List Occurrence

-- what an analysis stands for, as a value
abbrev pub analysed : Analysis → Analysed
analysed a = record { file = a.place.file; nth = a.place.nth; ident = string_bytes a.ident; occurrences = a.occurrences.items }

-- the analysis of the record that stands there: it has no fault, this is its identifier, and the occurrences rise and
-- are just its own
pub record IsAnalysisOf (profile : List Directive) (standing : Standing) (analysis : Analysed) : Type 0 where
  pub bytes : List ℕ
  pub stands : standing.content ≡ Ok bytes
  pub same_file : analysis.file ≡ standing.file
  pub same_place : analysis.nth ≡ standing.nth
  pub sound : first_fault bytes ≡ None
  pub called : identifier_of profile (units_in bytes) ≡ Ok analysis.ident
  pub rising : IsRising analysis.occurrences
  pub members : (o : Occurrence) → Contains analysis.occurrences o ↔ IsOccurrence (unit_targets profile) (units_in bytes) o

-- an analysis for each that stands there, in their order
abbrev pub AreAnalysesOf : List Directive → List Standing → List Analysed → Type 0
AreAnalysesOf profile [] [] = ⊤
AreAnalysesOf profile (standing ∷ others) (analysis ∷ analyses) =
    IsAnalysisOf profile standing analysis × AreAnalysesOf profile others analyses
AreAnalysesOf profile [] (analysis ∷ analyses) = ⊥
AreAnalysesOf profile (standing ∷ others) [] = ⊥

-- what is answered of files with these texts, under a profile and with at most so many records: an analysis of each record where
-- nothing is refused, and else the first refusal
abbrev pub AnalysesTo : List Directive → ℕ → List (List ℕ) → Result (List Analysed) AnalysisFault → Type 0
AnalysesTo profile limit texts (Ok analyses) =
    (first_refusal profile limit 0 (standing_in_all 1 texts) ≡ None) × AreAnalysesOf profile (standing_in_all 1 texts) analyses
AnalysesTo profile limit texts (Err fault) = first_refusal profile limit 0 (standing_in_all 1 texts) ≡ Some fault
