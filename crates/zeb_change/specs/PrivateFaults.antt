-- What only the contracts of private functions speak of; no public clause reaches it.
-- Faults of parts of a change, told as others.
use Rattle.std.specs.Prelude.{Result, Ok, Err}
use Rattle.zeb_register.specs.declared.faults.RegFault.{RegFault}
use Rattle.zeb_register.specs.declared.faults.RegFault.TheVariants as register
use Rattle.zeb_change.specs.declared.kept.KeptFault.{KeptFault}
use Rattle.zeb_change.specs.declared.kept.KeptFault.TheVariants as kept
use Rattle.zeb_change.specs.declared.refusals.Refusal.{Refusal}

-- a kept record that isn't read again is damage, or memory ran out
abbrev pub kept_fault : KeptFault → RegFault
kept_fault kept.Damaged = register.Damaged
kept_fault kept.Memory = register.Memory

-- what is answered, its error as a refusal
abbrev pub as_refusal : {T E : Type 0} → (E → Refusal) → Result T E → Result T Refusal
as_refusal refusal_of (Ok x) = Ok x
as_refusal refusal_of (Err fault) = Err (refusal_of fault)
