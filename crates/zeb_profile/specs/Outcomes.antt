-- What a call answered, beside what a definition says. A definition answers a value or the first fault; a call
-- may also run out of memory.
use Rattle.std.specs.Prelude.{◌≡◌, ◌≢◌, Result, Ok, Err}
use Rattle.zeb_profile.specs.Cited.{ProfileFault}
use Rattle.zeb_profile.specs.declared.faults.ProfileFaultKind.TheVariants.{Memory}

-- the value goes on to the next step, the first fault stays
infixl 10 ◌>>=◌
abbrev pub ◌>>=◌ : {A B E : Type 0} → Result A E → (A → Result B E) → Result B E
(Ok x) >>= f = f x
(Err fault) >>= f = Err fault

-- the fault of a whole text is the definition's, with its line; want of memory isn't, and stands on line 0
abbrev pub FailsPlaced : {A : Type 0} → ProfileFault → Result A ProfileFault → Type 0
FailsPlaced fault said = (fault.kind ≡ Memory → fault.line ≡ 0) × (fault.kind ≢ Memory → said ≡ Err fault)

-- a call answers what a definition says, its fault with its line, or that memory ran out, on line 0
abbrev pub GivesPlaced : {X A : Type 0} → (X → A) → Result X ProfileFault → Result A ProfileFault → Type 0
GivesPlaced view (Ok x) said = said ≡ Ok (view x)
GivesPlaced view (Err fault) said = FailsPlaced fault said
