-- What only the contracts of private functions speak of; no public clause reaches it.
-- How the records of a file are read and analysed, one after the other.
use Rattle.std.specs.Prelude.{◌≡◌, ◌≢◌, ℕ, List, ◌++◌, length, Option, Some, None, Result, Ok, Err}
use Rattle.zeb_profile.specs.declared.directives.Directive.{Directive}
use Rattle.zeb_marc.specs.Splits.{Next, at_end, a_slice, a_fault}
use Rattle.zeb_analysis.specs.declared.faults.Place.{Place}
use Rattle.zeb_analysis.specs.declared.faults.AnalysisFault.{AnalysisFault}
use Rattle.zeb_analysis.specs.declared.faults.AnalysisFault.TheVariants.{Marc, Memory}
use Rattle.zeb_analysis.specs.declared.analysing.Analysis.{Analysis}
use Rattle.zeb_analysis.specs.declared.analysing.Setting.{Setting}
use Rattle.zeb_analysis.specs.Analysing.{Analysed, AreAnalysesOf, IsAnalysisOf, Standing, analysed, at_place, first_refusal, refusal_at}

-- a record of a file, as what stands at its place
abbrev pub record_at : Place → List ℕ → Standing
record_at place bytes = at_place place.file place.nth (Ok bytes)

-- why a record is refused, before which so many were analysed
abbrev pub refused_in : Setting → ℕ → Place → List ℕ → Option AnalysisFault
refused_in setting before place bytes = refusal_at setting.profile.now setting.limit before (record_at place bytes)

-- the record that stands there, before which so many were analysed, is analysed or refused, or memory ran out
abbrev pub IsTaken : Setting → ℕ → Standing → Result (Option Analysis) AnalysisFault → Type 0
IsTaken setting before standing (Ok None) = ⊥
IsTaken setting before standing (Ok (Some analysis)) =
    (refusal_at setting.profile.now setting.limit before standing ≡ None) × IsAnalysisOf setting.profile.now standing (analysed analysis)
IsTaken setting before standing (Err fault) = fault ≢ Memory → refusal_at setting.profile.now setting.limit before standing ≡ Some fault

-- what is answered where this stands next, and what is left unread
abbrev pub AnalysesNext : Setting → ℕ → Place → Next → Result (Option Analysis) AnalysisFault → List ℕ → Type 0
AnalysesNext setting before place at_end answer left = answer ≡ Ok None
AnalysesNext setting before place (a_slice slice rest) answer left = (left ≡ rest) × IsTaken setting before (record_at place slice) answer
AnalysesNext setting before place (a_fault fault) answer left = answer ≡ Err (Marc place fault)

-- none of these is refused behind the first analyses, and theirs are put behind them
pub record Extends (profile : List Directive) (limit : ℕ) (these : List Standing) (old new : List Analysed) : Type 0 where
  pub more : List Analysed
  pub longer : new ≡ old ++ more
  pub none_refused : first_refusal profile limit (length old) these ≡ None
  pub are : AreAnalysesOf profile these more
