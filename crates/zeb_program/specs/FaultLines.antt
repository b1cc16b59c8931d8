-- What is written where a command that words or a line name isn't answered, and the status that goes with it (this program's own).
use Rattle.std.specs.Prelude.{◌≡◌, ◌==◌, ◌&&◌, ℕ, Bool, true, false, IsTrue, List, [], ◌∷◌, ◌++◌, Option, Some, None, String, codes, string_bytes}
use Rattle.std.specs.Option.{option_map, option_map_or}
use Rattle.std.specs.declared.alloc.Global.{Global}
use Rattle.zeb_change.specs.declared.refusals.Refusal.{Refusal}
use Rattle.zeb_change.specs.declared.refusals.Refusal.TheVariants as refusal
use Rattle.zeb_profile.specs.declared.faults.ProfileFault.{ProfileFault}
use Rattle.zeb_profile.specs.Faults.{fault_text}
use Rattle.zeb_program.specs.declared.faults.Fault.{Fault}
use Rattle.zeb_program.specs.declared.faults.Fault.TheVariants.{Profile, Unreadable, Refused, Memory}
use Rattle.std.specs.Fmt.{decimal}
use Rattle.zeb_paths.specs.Causes.{path_cause_text, store_cause_text}
use Rattle.zeb_paths.specs.declared.causes.PathCause.{PathCause}
use Rattle.zeb_paths.specs.declared.causes.StoreCause.{StoreCause}
use Rattle.zeb_program.specs.Diagnostics.{meaning_lines}
use Rattle.zeb_program.specs.Forms.{form_text}
use Rattle.zeb_program.specs.declared.failures.Cause.{Cause}
use Rattle.zeb_program.specs.declared.failures.Cause.TheVariants.{Path, Store, Query, Input, Text, File}
use Rattle.zeb_program.specs.declared.failures.FileCause.{FileCause}
use Rattle.zeb_program.specs.declared.failures.FileCause.TheVariants.{Path as PathOf, Form}
use Rattle.zeb_program.specs.FixedLines.{refusal_line, unreadable_line}
use Rattle.zeb_program.specs.InputCauses.{input_cause_text, text_cause_text}
use Rattle.zeb_program.specs.declared.line_input.InputCause.{InputCause}
use Rattle.zeb_program.specs.Statuses.{fault_status, refusal_status}
use Rattle.zeb_program.specs.declared.statuses.Status.{Status}
use Rattle.zeb_program.specs.declared.statuses.Status.TheVariants.{Failed}

-- of a path that can't be read
abbrev pub unreadable_path : List ℕ → List ℕ
unreadable_path path = codes "zebraidx: cannot read " ++ path ++ 10 ∷ []

-- of the fault of the profile in this file
abbrev pub profile_line : List ℕ → ProfileFault → List ℕ
profile_line file fault = codes "zebraidx: " ++ file ++ codes " " ++ fault_text fault ++ 10 ∷ []

-- This line is written of a fault, and this is the status. For want of memory in the program itself there is no line.
abbrev pub TellsFault : Fault → List ℕ → Status → Type 0
TellsFault (Profile file fault) line status = (line ≡ profile_line (string_bytes file) fault) × (status ≡ fault_status fault.kind)
TellsFault (Unreadable path) line status = (line ≡ unreadable_path (string_bytes path)) × (status ≡ Failed)
TellsFault (Refused refusal) line status = (line ≡ refusal_line refusal) × (status ≡ refusal_status refusal)
TellsFault Memory line status = ⊥

-- of the path of the file that has this number
abbrev pub file_line : ℕ → List ℕ → List ℕ
file_line number path = codes "zebraidx: file " ++ decimal number ++ codes " is " ++ path ++ 10 ∷ []

-- of why a path isn't read
abbrev pub met_line : PathCause → List ℕ
met_line cause = codes "zebraidx: cause: " ++ path_cause_text cause ++ 10 ∷ []

-- the line of what is told of a file, where something is, else nothing
abbrev pub file_lines : Option FileCause → List ℕ
file_lines None = []
file_lines (Some (PathOf cause)) = met_line cause
file_lines (Some (Form form)) = codes "zebraidx: cause: " ++ form_text form ++ 10 ∷ []

-- of what is known of why there is a fault
abbrev pub cause_line : Cause → List ℕ
cause_line (Path cause) = met_line cause
cause_line (Store cause) = codes "zebraidx: cause: " ++ store_cause_text cause ++ 10 ∷ []
cause_line (Query number place) = meaning_lines number place
cause_line (Input cause) = codes "zebraidx: cause: " ++ input_cause_text cause ++ 10 ∷ []
cause_line (Text cause) = codes "zebraidx: cause: " ++ text_cause_text cause ++ 10 ∷ []
cause_line (File number path met) = file_line number (string_bytes path) ++ file_lines met

-- such a line where a cause is known, else nothing
abbrev pub cause_lines : Option Cause → List ℕ
cause_lines None = []
cause_lines (Some cause) = cause_line cause

-- the number of the file that a refusal is about
abbrev pub file_in : Refusal → Option ℕ
file_in (refusal.Record file nth fault) = Some file
file_in (refusal.Unknown file nth) = Some file
file_in (refusal.ReadFault file) = Some file
file_in _ = None

abbrev pub is_store : Refusal → Bool
is_store refusal.Store = true
is_store _ = false

-- a refusal is the diagnostic of this number at this place
abbrev pub is_diagnostic : Refusal → ℕ → ℕ → Bool
is_diagnostic (refusal.Diagnostic number place addinfo) this at = (number == this) && (place == at)
is_diagnostic _ this at = false

-- A fault may have this cause: a path or an input that can't be read, why it isn't; a failed store, why it fails; a diagnostic, its number and its place;
-- and a refusal about a file has that file's path.
abbrev pub is_cause_of : Fault → Cause → Bool
is_cause_of (Unreadable path) (Path cause) = true
is_cause_of (Unreadable path) (Text cause) = true
is_cause_of (Refused why) (Store cause) = is_store why
is_cause_of (Refused why) (Query number place) = is_diagnostic why number place
is_cause_of (Refused why) (File number path met) = option_map_or (λ file. file == number) (file_in why) false
is_cause_of _ _ = false

-- so it is of a cause that is known
abbrev pub IsCauseOf : Fault → Option Cause → Type 0
IsCauseOf fault cause = IsTrue (option_map_or (is_cause_of fault) cause true)

-- the line of a fault, with this status, and below it that of this cause, which the fault may have, where one is known
abbrev pub TellsCaused : Fault → Option Cause → List ℕ → Status → Type 0
TellsCaused fault cause bytes status = (line : List ℕ) × TellsFault fault line status × IsCauseOf fault cause × (bytes ≡ line ++ cause_lines cause)

-- a fault is about the register at the profile's path: it isn't initialised, or its store failed
abbrev pub is_of_register : Fault → Bool
is_of_register (Refused refusal.NotInitialised) = true
is_of_register (Refused refusal.Store) = true
is_of_register _ = false

-- of the path of a register, where it is told; else nothing
abbrev pub register_lines : Option (String Global) → List ℕ
register_lines None = []
register_lines (Some path) = codes "zebraidx: register is " ++ string_bytes path ++ 10 ∷ []

-- the lines of a fault and its cause, and below them the path of this register, where one is told
abbrev pub TellsPlaced : Fault → Option Cause → Option (String Global) → List ℕ → Status → Type 0
TellsPlaced fault cause register bytes status = (first : List ℕ) × TellsCaused fault cause first status × (bytes ≡ first ++ register_lines register)

-- what is written where an input can't be read on
abbrev pub unread_lines : InputCause → List ℕ
unread_lines cause = unreadable_line ++ cause_line (Input cause)

-- below what is answered, where the register's file and its log together have what was done
abbrev pub unclosed_line : List ℕ
unclosed_line = codes "zebraidx: done, but the register's file needs its log" ++ 10 ∷ []

-- the same below a fault, behind which nothing may be done
abbrev pub left_line : List ℕ
left_line = codes "zebraidx: the register's file needs its log" ++ 10 ∷ []

abbrev pub left_lines : Option StoreCause → List ℕ
left_lines cause = left_line ++ cause_lines (option_map Store cause)

-- that line, and below it why the store failed, where that is known
abbrev pub unclosed_lines : Option StoreCause → List ℕ
unclosed_lines cause = unclosed_line ++ cause_lines (option_map Store cause)
