-- Why a command is refused, and what a call says that gives a value or a refusal.
use Rattle.std.specs.Prelude.{◌≡◌, ◌≢◌, ◌⊎◌, ℕ, List, Result, Ok, Err, string_bytes}
use Rattle.zeb_change.specs.declared.faults.RecordFault.{RecordFault}
use Rattle.zeb_change.specs.declared.refusals.Refusal.{Refusal}
use Rattle.zeb_change.specs.declared.refusals.Refusal.TheVariants as refusal

-- why a command is refused
pub data Why : Type 0 where
  not_initialised : Why
  old_format : Why
  profile_changed : Why
  -- number, place, addinfo
  diagnostic : ℕ → ℕ → List ℕ → Why
  exists : Why
  -- file and place in it, both from 1
  faulty : ℕ → ℕ → RecordFault → Why
  unknown : ℕ → ℕ → Why
  database_full : Why
  too_many_records : Why
  damaged : Why
  rule_changed : Why
  read_fault : ℕ → Why
  store_failed : Why
  out_of_memory : Why

-- the reason that a refusal stands for
abbrev pub why_of : Refusal → Why
why_of refusal.NotInitialised = not_initialised
why_of refusal.OldFormat = old_format
why_of refusal.ProfileChanged = profile_changed
why_of (refusal.Diagnostic number place addinfo) = diagnostic number place (string_bytes addinfo)
why_of refusal.Exists = exists
why_of (refusal.Record file nth fault) = faulty file nth fault
why_of (refusal.Unknown file nth) = unknown file nth
why_of refusal.DatabaseFull = database_full
why_of refusal.TooManyRecords = too_many_records
why_of refusal.Damaged = damaged
why_of refusal.IdentifierRuleChanged = rule_changed
why_of (refusal.ReadFault file) = read_fault file
why_of refusal.Store = store_failed
why_of refusal.Memory = out_of_memory

-- the store failed, or memory ran out
abbrev pub IsFailing : Why → Type 0
IsFailing why = (why ≡ store_failed) ⊎ (why ≡ out_of_memory)

-- a call isn't refused as for a register that isn't ready
abbrev pub NeverUnready : {T : Type 0} → Result T Refusal → Type 0
NeverUnready result = (result ≢ Err refusal.NotInitialised) × (result ≢ Err refusal.OldFormat) × (result ≢ Err refusal.ProfileChanged)

-- ---- a value or a refusal, as a definition says

-- what a call gives is what the definition says, or the store or the memory failed
abbrev pub Meets : {A X : Type 0} → (Good : A → X → Type 0) → Result A Why → Result X Refusal → Type 0
Meets Good (Ok a) (Ok x) = Good a x
Meets Good (Err why) (Ok x) = ⊥
Meets Good said (Err refusal) = IsFailing (why_of refusal) ⊎ (said ≡ Err (why_of refusal))
