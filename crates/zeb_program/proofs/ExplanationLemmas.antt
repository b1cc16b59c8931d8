-- What is told below the line of a fault.
use Rattle.zeb_program.proofs.Cited.{◌≡◌, ℕ, List, ap, inl, inr, refl, subst, sym, IfNone, IfSome, Option, Some, None, Refusal, Tells, Closed, StoreCause, Directive, ExplainsRefusal, TellsFile, refusal_cause, IsOpeningFailure, unopened_refusal, file_in, FailsOpening, shut, given_back, untold, Places, Cause}
use Rattle.zeb_paths.specs.declared.causes.PathCause.{PathCause}
use Rattle.zeb_paths.specs.declared.paths.Asked.{Asked}
use Rattle.zeb_paths.specs.declared.causes.StoreCause.TheVariants as cause

-- a register isn't opened for a refusal about no file
opening_file : (why : Refusal) → IsOpeningFailure why → file_in why ≡ None
opening_file why (inl is) = ap file_in is
opening_file why (inr is) = ap file_in is

-- a store that can't be opened fails so
pub unopened_so : (met : Option StoreCause) → IsOpeningFailure (unopened_refusal met)
unopened_so None = inl refl
unopened_so (Some cause.Memory) = inr refl
unopened_so (Some cause.Held) = inl refl
unopened_so (Some cause.NoFolder) = inl refl
unopened_so (Some cause.Forbidden) = inl refl
unopened_so (Some cause.NoFile) = inl refl
unopened_so (Some cause.LostLink) = inl refl
unopened_so (Some cause.Name) = inl refl
unopened_so (Some cause.TwoNames) = inl refl
unopened_so (Some cause.Journal) = inl refl
unopened_so (Some cause.Foreign) = inl refl
unopened_so (Some cause.Full) = inl refl
unopened_so (Some cause.Damaged) = inl refl
unopened_so (Some cause.Failed) = inl refl

pub fails_so : {S : Type 0} (at : Places S) (profile : List Directive) (why : Refusal) (closed : Closed) → FailsOpening at profile why closed → IsOpeningFailure why
fails_so at profile why closed (shut {met = met} path named refuses) = unopened_so met
fails_so at profile why closed (given_back opened back met opens foreign given gone) = given.0
fails_so at profile why closed (untold same opened taken last opens failure takes ends) = failure

pub other_explained : (at : Tells) (explains : List ℕ → Asked → Option PathCause → Type 0) (named : List (List ℕ)) (met : Option StoreCause) (why : Refusal) (cause : Option Cause) → file_in why ≡ None → cause ≡ refusal_cause why met → ExplainsRefusal at explains named met why cause
other_explained at explains named met why cause is told =
    subst (λ file. IfSome file (λ nth. TellsFile at explains named why nth cause) × IfNone file (cause ≡ refusal_cause why met)) (sym is) (tt, told)

-- by which no register is opened
pub opening_explained : (at : Tells) (explains : List ℕ → Asked → Option PathCause → Type 0) (named : List (List ℕ)) (met : Option StoreCause) (why : Refusal) (cause : Option Cause) → cause ≡ refusal_cause why met → IsOpeningFailure why → ExplainsRefusal at explains named met why cause
opening_explained at explains named met why cause told opening = other_explained at explains named met why cause (opening_file why opening) told
