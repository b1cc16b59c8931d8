-- The lines of records that are analysed file after file (this project's own).
use Rattle.std.specs.Prelude.{◌≡◌, ◌≢◌, ℕ, List, Result, Ok, Err, length, map, string_bytes}
use Rattle.std.specs.List.{flat_map}
use Rattle.zeb_profile.specs.declared.directives.Directive.{Directive}
use Rattle.zeb_analysis.specs.declared.analysing.Analysis.{Analysis}
use Rattle.zeb_analysis.specs.declared.faults.AnalysisFault.{AnalysisFault}
use Rattle.zeb_analysis.specs.declared.faults.AnalysisFault.TheVariants.{Memory}
use Rattle.zeb_analysis.specs.declared.lines.AnalysedLines.{AnalysedLines}
use Rattle.zeb_analysis.specs.Analysing.{AnalysesTo, analysed}
use Rattle.zeb_analysis.specs.Printing.{analysis_text}

-- the lines of one analysis, under the names of the indexes
abbrev pub lines_of : List (List ℕ) → Analysis → List ℕ
lines_of names analysis = analysis_text names (analysed analysis)

-- these are the lines of all records of files with these texts, of which none is refused, with how many records they are of and the
-- names of the indexes
pub record AreLines (names : List (List ℕ)) (profile : List Directive) (limit : ℕ) (texts : List (List ℕ)) (lines : AnalysedLines) : Type 0 where
  -- the analyses, in the order of the records
  pub analyses : List Analysis
  pub said : AnalysesTo profile limit texts (Ok (map analysed analyses))
  pub named : map string_bytes lines.names.items ≡ names
  pub counted : lines.records ≡ length analyses
  pub told : string_bytes lines.text ≡ flat_map (lines_of names) analyses

-- what comes of files with these texts: the lines of their records, or the first refusal, or memory ran out
abbrev pub GivesLines : List (List ℕ) → List Directive → ℕ → List (List ℕ) → Result AnalysedLines AnalysisFault → Type 0
GivesLines names profile limit texts (Ok lines) = AreLines names profile limit texts lines
GivesLines names profile limit texts (Err fault) = fault ≢ Memory → AnalysesTo profile limit texts (Err fault)
