-- Why an analysis ends, and how it is told (this project's own).
use Rattle.std.specs.Prelude.{ℕ, List, ◌++◌, codes}
use Rattle.std.specs.Fmt.{decimal}
use Rattle.zeb_marc.specs.Names.{fault_name as marc_name}
use Rattle.zeb_extract.specs.Names.{fault_name as ident_name}
use Rattle.zeb_analysis.specs.declared.faults.Place.{Place}
use Rattle.zeb_analysis.specs.declared.faults.AnalysisFault.{AnalysisFault}
use Rattle.zeb_analysis.specs.declared.faults.AnalysisFault.TheVariants.{Marc, Ident, TooManyRecords, Memory}

-- the record, by its file and its place there, and the name of its fault
abbrev pub record_fault_text : Place → List ℕ → List ℕ
record_fault_text place name = codes "file " ++ decimal place.file ++ codes " record " ++ decimal place.nth ++ codes ": " ++ name

-- the text of an analysis's refusal: the record with the name of its fault, that there are too many records, or that memory ran out
abbrev pub analysis_fault_text : AnalysisFault → List ℕ
analysis_fault_text (Marc place fault) = record_fault_text place (marc_name fault)
analysis_fault_text (Ident place fault) = record_fault_text place (ident_name fault)
analysis_fault_text TooManyRecords = codes "too many records"
analysis_fault_text Memory = codes "out of memory"
