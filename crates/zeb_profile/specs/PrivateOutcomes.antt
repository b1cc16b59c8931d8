-- What only the contracts of private functions speak of; no public clause reaches it.
-- What a call answered, beside what a definition says. A definition answers a value or the first fault; a call
-- may also run out of memory.
use Rattle.std.specs.Prelude.{◌≡◌, ◌≢◌, Result, Ok, Err}
use Rattle.zeb_profile.specs.Cited.{ProfileFaultKind}
use Rattle.zeb_profile.specs.declared.faults.ProfileFaultKind.TheVariants.{Memory}

-- a fault other than want of memory is the definition's
abbrev pub Fails : {A : Type 0} → ProfileFaultKind → Result A ProfileFaultKind → Type 0
Fails kind said = kind ≢ Memory → said ≡ Err kind

-- what a call answered is what is said, unless memory ran out
abbrev pub Gives : {X A : Type 0} → (X → A) → Result X ProfileFaultKind → Result A ProfileFaultKind → Type 0
Gives view (Ok x) said = said ≡ Ok (view x)
Gives view (Err kind) said = Fails kind said
