-- What only the contracts of private functions speak of; no public clause reaches it.
-- Why a command that words or a line name isn't answered: what couldn't be read, and failures to open a register.
use Rattle.std.specs.Prelude.{◌≡◌, ⊤, ℕ, List, Option, IfOk, IfSome, IsErr, Result, string_bytes}
use Rattle.std.specs.declared.alloc.AllocError.{AllocError}
use Rattle.zeb_profile.specs.declared.directives.Directive.{Directive}
use Rattle.zeb_paths.specs.declared.causes.Closed.{Closed}
use Rattle.zeb_program.specs.Explanations.{refusal_cause}
use Rattle.zeb_program.specs.Registers.{FailsOpening, Places}
use Rattle.zeb_program.specs.declared.faults.Fault.{Fault}
use Rattle.zeb_paths.specs.Walks.{Tells}
use Rattle.zeb_paths.specs.declared.walk.WalkFault.{WalkFault}
use Rattle.zeb_paths.specs.declared.walk.WalkFault.TheVariants as walk
use Rattle.zeb_program.specs.declared.faults.Fault.TheVariants.{Profile, Unreadable, Refused, Memory}
use Rattle.zeb_program.specs.declared.failures.Cause.{Cause}
use Rattle.zeb_program.specs.FaultAnswers.{NamesMet, NamesUntold}
use Rattle.zeb_program.specs.Inputs.{IsShort}
use Rattle.zeb_program.specs.Statuses.{IsFaultStatus}
use Rattle.zeb_program.specs.declared.statuses.Status.{Status}
use Rattle.zeb_program.specs.declared.statuses.Status.TheVariants.{Failed}

-- something couldn't be read, or memory ran out in the program itself
abbrev pub IsUnread : Fault → Type 0
IsUnread (Profile file fault) = ⊥
IsUnread (Unreadable path) = ⊤
IsUnread (Refused refusal) = ⊥
IsUnread Memory = ⊤

-- The status of a fault that is told is that of a refusal or of a failure, and of what couldn't be read it is `Failed`; for want of memory in the program
-- itself there is none.
abbrev pub EndsTold : Fault → Result Status AllocError → Type 0
EndsTold fault result = (fault ≡ Memory → IsErr result) × IfOk result IsFaultStatus × (IsUnread fault → IfOk result (λ status. status ≡ Failed))

-- the same of files that are read whole: no file's bytes are told at that path, or too many
abbrev pub IsUnreadAt : (List ℕ → Option (List ℕ)) → Fault → Type 0
IsUnreadAt told (Profile file fault) = ⊥
IsUnreadAt told (Unreadable path) = IfSome (told (string_bytes path)) (λ bytes. ¬ IsShort bytes)
IsUnreadAt told (Refused refusal) = ⊥
IsUnreadAt told Memory = ⊤

-- the register at the profile's path wasn't opened for such a failure, of which this is told, and its store was closed so
abbrev pub IsOpeningFault : {S : Type 0} → Places S → List Directive → Fault → Option Cause → Closed → Type 0
IsOpeningFault at profile (Refused why) cause closed = FailsOpening at profile why closed × (cause ≡ refusal_cause why closed.cause)
IsOpeningFault at profile (Profile file fault) cause closed = ⊥
IsOpeningFault at profile (Unreadable path) cause closed = ⊥
IsOpeningFault at profile Memory cause closed = ⊥

-- the fault by which a walk ends
abbrev pub fault_of : WalkFault → Fault
fault_of (walk.Unreadable path) = Unreadable path
fault_of walk.Memory = Memory

-- Why the files at and below these paths aren't all found: a walk over them can't go on at a path, at which no file's bytes are told; or memory ran
-- out.
abbrev pub IsUnfound : Tells → List (List ℕ) → Fault → Type 0
IsUnfound at named fault = IsUnread fault × NamesUntold at.bytes fault × NamesMet at ⊥ named fault
