-- The line that is printed for a refusal, without its LF, and the status that goes with it (this program's own).
use Rattle.std.specs.Prelude.{ℕ, ◌==◌, if◌then◌else◌, List, [], ◌++◌, length, codes, string_bytes}
use Rattle.std.specs.Fmt.{decimal}
use Rattle.zeb_change.specs.declared.faults.RecordFault.{RecordFault}
use Rattle.zeb_change.specs.declared.refusals.Refusal.{Refusal}
use Rattle.zeb_change.specs.declared.refusals.Refusal.TheVariants.{NotInitialised, OldFormat, ProfileChanged, Diagnostic, Exists, Record, Unknown, DatabaseFull, TooManyRecords, Damaged, IdentifierRuleChanged, ReadFault, Store, Memory}
use Rattle.zeb_change.specs.Faults.{fault_name}

-- the addinfo stands only where there is one
abbrev pub addinfo_text : List ℕ → List ℕ
addinfo_text addinfo = if length addinfo == 0 then [] else codes ": " ++ addinfo

abbrev pub diagnostic_at : ℕ → ℕ → List ℕ
diagnostic_at number place = codes "zebraidx: diagnostic " ++ decimal number ++ codes " at " ++ decimal place

abbrev pub diagnostic_text : ℕ → ℕ → List ℕ → List ℕ
diagnostic_text number place addinfo = diagnostic_at number place ++ addinfo_text addinfo

-- a record by its file and its place in that file
abbrev pub place_text : ℕ → ℕ → List ℕ
place_text file nth = codes "zebraidx: file " ++ decimal file ++ codes " record " ++ decimal nth ++ codes ": "

abbrev pub record_text : ℕ → ℕ → RecordFault → List ℕ
record_text file nth fault = place_text file nth ++ fault_name fault

abbrev pub unknown_text : ℕ → ℕ → List ℕ
unknown_text file nth = place_text file nth ++ codes "unknown identifier"

abbrev pub read_text : ℕ → List ℕ
read_text file = codes "zebraidx: file " ++ decimal file ++ codes ": read fault"

-- the line of a refusal
abbrev pub refusal_text : Refusal → List ℕ
refusal_text NotInitialised = codes "zebraidx: register not initialised"
refusal_text OldFormat = codes "zebraidx: register has another format"
refusal_text ProfileChanged = codes "zebraidx: profile differs from the register's"
refusal_text (Diagnostic number place addinfo) = diagnostic_text number place (string_bytes addinfo)
refusal_text Exists = codes "zebraidx: database exists"
refusal_text (Record file nth fault) = record_text file nth fault
refusal_text (Unknown file nth) = unknown_text file nth
refusal_text DatabaseFull = codes "zebraidx: database full"
refusal_text TooManyRecords = codes "zebraidx: too many records"
refusal_text Damaged = codes "zebraidx: register damaged"
refusal_text IdentifierRuleChanged = codes "zebraidx: identifier rule differs"
refusal_text (ReadFault file) = read_text file
refusal_text Store = codes "zebraidx: store fault"
refusal_text Memory = codes "zebraidx: out of memory"

-- the status of a refusal: 3 for a reader's failure, a failed store or want of memory, and else 1
abbrev pub status_of : Refusal → ℕ
status_of NotInitialised = 1
status_of OldFormat = 1
status_of ProfileChanged = 1
status_of (Diagnostic number place addinfo) = 1
status_of Exists = 1
status_of (Record file nth fault) = 1
status_of (Unknown file nth) = 1
status_of DatabaseFull = 1
status_of TooManyRecords = 1
status_of Damaged = 1
status_of IdentifierRuleChanged = 1
status_of (ReadFault file) = 3
status_of Store = 3
status_of Memory = 3
