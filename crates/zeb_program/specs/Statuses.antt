-- The statuses that the program ends with (this program's own): the status of a run is the greatest met.
use Rattle.std.specs.Prelude.{◌≡◌, ◌⊎◌, ◌≤◌, ℕ, Bool, true, if◌then◌else◌}
use Rattle.zeb_paths.specs.declared.causes.Closed.{Closed}
use Rattle.zeb_change.specs.declared.refusals.Refusal.{Refusal}
use Rattle.zeb_change.specs.declared.refusals.Refusal.TheVariants as refusal
use Rattle.zeb_profile.specs.declared.faults.ProfileFaultKind.{ProfileFaultKind}
use Rattle.zeb_profile.specs.declared.faults.ProfileFaultKind.TheVariants.{Memory}
use Rattle.zeb_program.specs.declared.statuses.Status.{Status}
use Rattle.zeb_program.specs.declared.statuses.Status.TheVariants.{Answered, Refused, Misused, Failed}

-- the number that a process ends with
abbrev pub status_code : Status → ℕ
status_code Answered = 0
status_code Refused = 1
status_code Misused = 2
status_code Failed = 3

-- a process ends with the number of a status, and with that of `Failed` where a read or a write failed
abbrev pub ShowsFailures : (read_failed failed fault_failed : Bool) → ℕ → Type 0
ShowsFailures read_failed failed fault_failed code =
    (code ≤ status_code Failed) × (read_failed ≡ true → code ≡ status_code Failed) × (failed ≡ true → code ≡ status_code Failed) × (fault_failed ≡ true → code ≡ status_code Failed)

-- a process that ends with this number ends with a status of which P is so
abbrev pub EndsWith : ℕ → (Status → Type 0) → Type 0
EndsWith code P = (status : Status) × (code ≡ status_code status) × P status

-- the greater of two statuses
abbrev pub greater : Status → Status → Status
greater Answered other = other
greater Refused Answered = Refused
greater Refused other = other
greater Misused Failed = Failed
greater Misused other = Misused
greater Failed other = Failed

-- of a refusal
abbrev pub refusal_status : Refusal → Status
refusal_status (refusal.ReadFault file) = Failed
refusal_status refusal.Store = Failed
refusal_status refusal.Memory = Failed
refusal_status _ = Refused

-- of a profile that is refused
abbrev pub fault_status : ProfileFaultKind → Status
fault_status Memory = Failed
fault_status _ = Refused

-- of a store that is closed: a part of it may stand beside its one file
abbrev pub closing_status : Closed → Status
closing_status closed = if closed.is_whole then Answered else Failed

-- where a command has no answer: it was refused, or something failed
abbrev pub IsFaultStatus : Status → Type 0
IsFaultStatus status = (status ≡ Refused) ⊎ (status ≡ Failed)
