-- Why a command that only asks answers that the store failed.
use Rattle.std.specs.Prelude.{◌≡◌, Result, IfErr}
use Rattle.sqlite.specs.State.{State}
use Rattle.zeb_register.specs.Calls.{ChangesNothing, MayRefuse}
use Rattle.zeb_register.specs.Store.{IsStore}
use Rattle.zeb_change.specs.declared.refusals.Refusal.{Refusal}
use Rattle.zeb_change.specs.Refused.{store_failed, why_of}

-- On the tables of a store it has a cause: the connection was shut, the disk failed during the call, or a limit on steps is set.
abbrev pub HasStoreCause : {T : Type 0} → State → State → Result T Refusal → Type 0
HasStoreCause old new result = IsStore old → IfErr result (λ refusal. why_of refusal ≡ store_failed → MayRefuse old new)

-- whatever a call answers, it changes nothing, and on the tables of a store it answers a failed store only where the connection was
-- shut, the disk failed during the call, or a limit on steps is set
pub record OnlyLooks {T : Type 0} (old new : State) (result : Result T Refusal) : Type 0 where
  pub nothing : ChangesNothing old new
  pub caused : HasStoreCause old new result
