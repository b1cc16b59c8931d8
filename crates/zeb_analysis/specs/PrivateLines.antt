-- What only the contracts of private functions speak of; no public clause reaches it.
-- How the lines of records are put behind others.
use Rattle.std.specs.Prelude.{◌≡◌, ◌+◌, List, ◌++◌, length, map, string_bytes}
use Rattle.std.specs.List.{flat_map}
use Rattle.zeb_analysis.specs.declared.analysing.Analysis.{Analysis}
use Rattle.zeb_analysis.specs.declared.lines.AnalysedLines.{AnalysedLines}
use Rattle.zeb_analysis.specs.Lines.{lines_of}

-- the lines of these analyses stand behind the others
pub record StandBehind (old : AnalysedLines) (more : List Analysis) (new : AnalysedLines) : Type 0 where
  pub named : new.names ≡ old.names
  pub counted : new.records ≡ old.records + length more
  pub told : string_bytes new.text ≡ string_bytes old.text ++ flat_map (lines_of (map string_bytes old.names.items)) more
