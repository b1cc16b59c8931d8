-- What is told below the line of a fault, where it is known (this program's own): why a path isn't read, the path of a refusal's file, and why
-- a store failed.
use Rattle.std.specs.Prelude.{◌≡◌, ◌≢◌, ◌==◌, ⊤, ℕ, Bool, List, Option, None, Some, Ok, Err, IfNone, IfSome, String, false, true, string_bytes}
use Rattle.std.specs.Option.{option_map}
use Rattle.std.specs.declared.alloc.Global.{Global}
use Rattle.zeb_change.specs.declared.faults.RecordFault.{RecordFault}
use Rattle.zeb_change.specs.declared.faults.RecordFault.TheVariants as faulty
use Rattle.zeb_change.specs.declared.refusals.Refusal.{Refusal}
use Rattle.zeb_change.specs.declared.refusals.Refusal.TheVariants as refusal
use Rattle.zeb_paths.specs.Walks.{Tells}
use Rattle.zeb_paths.specs.declared.causes.PathCause.{PathCause}
use Rattle.zeb_paths.specs.declared.causes.PathCause.TheVariants as path
use Rattle.zeb_paths.specs.declared.causes.StoreCause.{StoreCause}
use Rattle.zeb_paths.specs.declared.paths.Asked.{Asked}
use Rattle.zeb_paths.specs.declared.paths.Asked.TheVariants.{Bytes, Step}
use Rattle.zeb_profile.specs.Indexes.{store_path}
use Rattle.zeb_profile.specs.declared.directives.Directive.{Directive}
use Rattle.zeb_program.specs.FaultLines.{file_in, is_of_register}
use Rattle.zeb_program.specs.ProfileFiles.{ReadsProfile}
use Rattle.zeb_program.specs.WalkedFiles.{FindsNthFile}
use Rattle.zeb_program.specs.declared.failures.Cause.{Cause}
use Rattle.zeb_program.specs.declared.failures.Cause.TheVariants.{Path as PathOf, Store as StoreOf, Query, File as FileOf}
use Rattle.zeb_program.specs.declared.failures.FileCause.{FileCause}
use Rattle.zeb_program.specs.declared.failures.FileCause.TheVariants.{Path as PathMet, Form as IsForm}
use Rattle.zeb_program.specs.Forms.{IsFormOf}
use Rattle.zeb_program.specs.declared.forms.Form.{Form}
use Rattle.zeb_program.specs.declared.faults.Fault.{Fault}
use Rattle.zeb_program.specs.declared.faults.Fault.TheVariants.{Profile, Unreadable, Refused, Memory}

-- what is known of why a store failed is the cause of a failed store alone; that of a diagnostic is its meaning
abbrev pub refusal_cause : Refusal → Option StoreCause → Option Cause
refusal_cause refusal.Store cause = option_map StoreOf cause
refusal_cause (refusal.Diagnostic number place addinfo) cause = Some (Query number place)
refusal_cause _ cause = None

-- a file with this fault of the record of this number begins with no length of a record, so that it may be of another form
abbrev pub lacks_record : ℕ → RecordFault → Bool
lacks_record nth faulty.LengthDigits = nth == 1
lacks_record nth other = false

-- what is told of a file that begins with no record: its form, where its first bytes tell one
abbrev pub form_cause : Option Form → FileCause
form_cause None = PathMet path.NoRecord
form_cause (Some form) = IsForm form

-- this is told of a file with a faulty record, of which these bytes are told, if any, where it begins with no record, or with one
abbrev pub MeetsRecord : Option (List ℕ) → Bool → Option FileCause → Type 0
MeetsRecord told true met = (form : Option Form) × IsFormOf told form × (met ≡ Some (form_cause form))
MeetsRecord told false met = met ≡ None

-- This is told of the file at a path that a refusal is about: of a read that failed what the paths tell of it, of a faulty record the file's form.
abbrev pub MeetsFile : (List ℕ → Option (List ℕ)) → (List ℕ → Asked → Option PathCause → Type 0) → Refusal → List ℕ → Option FileCause → Type 0
MeetsFile tells explains (refusal.ReadFault file) path met = (why : Option PathCause) × explains path Bytes why × (met ≡ option_map PathMet why)
MeetsFile tells explains (refusal.Record file nth fault) path met = MeetsRecord (tells path) (lacks_record nth fault) met
MeetsFile tells explains other path met = met ≡ None

-- the cause is that file's path, with what is told of it; without a path there is none
abbrev pub IsFileCause : (List ℕ → Option (List ℕ)) → (List ℕ → Asked → Option PathCause → Type 0) → Refusal → ℕ → Option (String Global) → Option Cause → Type 0
IsFileCause tells explains why number None cause = cause ≡ None
IsFileCause tells explains why number (Some path) cause = (met : Option FileCause) × MeetsFile tells explains why (string_bytes path) met × (cause ≡ Some (FileOf number path met))

-- the cause is the path of the file of this number, where a walk over the named paths finds one, with what is told of it
abbrev pub TellsFile : Tells → (List ℕ → Asked → Option PathCause → Type 0) → List (List ℕ) → Refusal → ℕ → Option Cause → Type 0
TellsFile at explains named why number cause = (found : Option (String Global)) × FindsNthFile at named number found × IsFileCause at.bytes explains why number found cause

-- of a refusal about a file: that file's path; of another: this, if it is a failed store
abbrev pub ExplainsRefusal : Tells → (List ℕ → Asked → Option PathCause → Type 0) → List (List ℕ) → Option StoreCause → Refusal → Option Cause → Type 0
ExplainsRefusal at explains named met why cause =
    IfSome (file_in why) (λ number. TellsFile at explains named why number cause) × IfNone (file_in why) (cause ≡ refusal_cause why met)

-- of a path that can't be read, which was asked for so: what the paths tell of it
abbrev pub ExplainsPath : (List ℕ → Asked → Option PathCause → Type 0) → Asked → String Global → Option Cause → Type 0
ExplainsPath explains asked path cause = (why : Option PathCause) × explains (string_bytes path) asked why × (cause ≡ option_map PathOf why)

-- Below a fault about the register, and below no other, the path of its store is told: that of the profile in this file, of which these bytes are
-- told, where it is read anew. It isn't told where the profile can't be read then.
abbrev pub NamesRegister : Option (List ℕ) → String Global → Fault → Option (String Global) → Type 0
NamesRegister told config fault None = is_of_register fault ≡ true → (why : Fault) × (why ≢ Memory) × ReadsProfile told config (Err why)
NamesRegister told config fault (Some path) =
    (is_of_register fault ≡ true) × (profile : List Directive) × ReadsProfile told config (Ok profile) × (store_path profile ≡ Some (string_bytes path))

-- this is told of a fault that is no refusal, where the path that can't be read was asked for so
abbrev pub ExplainsUnread : (List ℕ → Asked → Option PathCause → Type 0) → Asked → Fault → Option Cause → Type 0
ExplainsUnread explains asked (Profile file fault) cause = cause ≡ None
ExplainsUnread explains asked (Unreadable path) cause = ExplainsPath explains asked path cause
ExplainsUnread explains asked (Refused refusal) cause = cause ≡ None
ExplainsUnread explains asked Memory cause = cause ≡ None

-- This is told of a fault of a command that names these paths, where this is known of why a store failed. Nothing is written of want of memory.
abbrev pub Explains : Tells → (List ℕ → Asked → Option PathCause → Type 0) → List (List ℕ) → Option StoreCause → Fault → Option Cause → Type 0
Explains at explains named met (Profile file fault) cause = cause ≡ None
Explains at explains named met (Unreadable path) cause = ExplainsPath explains Step path cause
Explains at explains named met (Refused why) cause = ExplainsRefusal at explains named met why cause
Explains at explains named met Memory cause = ⊤
