-- Why a command that words or a line name has no answer of a register (this program's own).
use Rattle.std.specs.Prelude.{◌≡◌, ◌⊎◌, ⊤, ℕ, List, Option, Some, IfSome, Result, Ok, Err, string_bytes}
use Rattle.zeb_change.specs.declared.refusals.Refusal.{Refusal}
use Rattle.zeb_change.specs.declared.refusals.Refusal.TheVariants as refusal
use Rattle.zeb_engine.specs.declared.replies.Reply.{Reply}
use Rattle.zeb_paths.specs.Walks.{IsUntold, Tells}
use Rattle.zeb_paths.specs.declared.causes.StoreCause.{StoreCause}
use Rattle.zeb_paths.specs.declared.causes.StoreCause.TheVariants as cause
use Rattle.zeb_program.specs.Inputs.{IsShort}
use Rattle.zeb_program.specs.WalkedFiles.{FindsAll, GivesAt, StopsAt}
use Rattle.zeb_program.specs.declared.faults.Fault.{Fault}
use Rattle.zeb_program.specs.declared.faults.Fault.TheVariants.{Profile, Unreadable, Refused, Memory}

-- something couldn't be read
abbrev pub IsUnreadable : Result Reply Fault → Type 0
IsUnreadable (Ok reply) = ⊥
IsUnreadable (Err (Profile file fault)) = ⊥
IsUnreadable (Err (Unreadable path)) = ⊤
IsUnreadable (Err (Refused refusal)) = ⊥
IsUnreadable (Err Memory) = ⊥

-- a path can't be read at which no file's bytes are told, or too many of a file that is read whole
abbrev pub IsUnreadWhole : (List ℕ → Option (List ℕ)) → Result Reply Fault → Type 0
IsUnreadWhole told (Ok reply) = ⊥
IsUnreadWhole told (Err (Profile file fault)) = ⊥
IsUnreadWhole told (Err (Unreadable path)) = IfSome (told (string_bytes path)) (λ bytes. ¬ IsShort bytes)
IsUnreadWhole told (Err (Refused refusal)) = ⊥
IsUnreadWhole told (Err Memory) = ⊥

-- a failure by which a register isn't opened: of the store or of the memory
abbrev pub IsOpeningFailure : Refusal → Type 0
IsOpeningFailure why = (why ≡ refusal.Store) ⊎ (why ≡ refusal.Memory)

-- that of a store which can't be opened for this cause, as far as one is told: want of memory is told as that
abbrev pub unopened_refusal : Option StoreCause → Refusal
unopened_refusal (Some cause.Memory) = refusal.Memory
unopened_refusal other = refusal.Store

-- P is so of the answer of a register, unless memory ran out in the program itself; that something couldn't be read is none
abbrev pub GivesAnswer : (P : Result Reply Refusal → Type 0) → Result Reply Fault → Type 0
GivesAnswer P (Ok reply) = P (Ok reply)
GivesAnswer P (Err (Refused refusal)) = P (Err refusal)
GivesAnswer P (Err Memory) = ⊤
GivesAnswer P (Err (Profile file fault)) = ⊥
GivesAnswer P (Err (Unreadable path)) = ⊥

-- A path that can't be read is the one at which a walk over these paths can't go on; or, where files are read whole, that of a file which it gives.
abbrev pub NamesMet : Tells → (Whole : Type 0) → List (List ℕ) → Fault → Type 0
NamesMet at Whole named (Unreadable path) = StopsAt at named path ⊎ (Whole × GivesAt at named path)
NamesMet at Whole named (Profile file fault) = ⊤
NamesMet at Whole named (Refused refusal) = ⊤
NamesMet at Whole named Memory = ⊤

-- What reads the files at and below these paths is given only where all are found, and a path that can't be read is one that a walk over these
-- comes to and can't read. Whole says whether files are read whole.
abbrev pub Reaches : {T : Type 0} → Tells → (Whole : Type 0) → List (List ℕ) → Result T Fault → Type 0
Reaches at Whole named (Ok given) = FindsAll at named
Reaches at Whole named (Err fault) = NamesMet at Whole named fault

-- a path that can't be read is none at which a file's bytes are told
abbrev pub NamesUntold : (List ℕ → Option (List ℕ)) → Fault → Type 0
NamesUntold told (Unreadable path) = IsUntold told (string_bytes path)
NamesUntold told (Profile file fault) = ⊤
NamesUntold told (Refused refusal) = ⊤
NamesUntold told Memory = ⊤
