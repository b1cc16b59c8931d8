use Rattle.zeb_analysis.proofs.Cited.{◌≡◌, ◌++◌, map, take, string_bytes, flat_map, analysed, occurrence_line, record_line}
use Rattle.zeb_analysis.proofs.printing.analysis_lines.Given as goal

abbrev pub invariant-loop-occurrence : goal.invariant-loop-occurrence
invariant-loop-occurrence l =
    string_bytes l.text ≡ record_line (analysed l.analysis) ++ flat_map (occurrence_line (map string_bytes l.names)) (take l.occurrence-index l.occurrence-items)
