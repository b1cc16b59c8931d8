-- Why a register isn't opened: its store can't be, or it isn't taken over and is let go.
use Rattle.zeb_program.proofs.Cited.{Held, state, HasCleanDisk, State, ◌≡◌, ◌∙◌, ℕ, List, ap, refl, subst, sym, option_or, Option, Some, None, Result, Ok, Err, IfOk, IfErr, IfNone, IfSome, Refusal, Closed, StoreCause, Directive, refusal_cause, IsOpeningFailure, unopened_refusal, IsOpeningFault, TakesOpen, TakesStore, FailsOpening, shut, given_back, IsForeignOr, IsGivenBack, IsLetGo, Places, whole_but}
use Rattle.sqlite.specs.Store.{Ghosts}
use Rattle.zeb_profile.specs.Indexes.{store_path}
use Rattle.zeb_paths.specs.declared.paths.OpenFailed.{OpenFailed}
use Rattle.zeb_paths.specs.declared.causes.StoreCause.TheVariants as store_cause
use Rattle.zeb_program.specs.declared.faults.Fault.TheVariants as fault
use Rattle.zeb_program.specs.declared.performing.Unopened.{Unopened}
use Rattle.zeb_program.proofs.ExplanationLemmas.{unopened_so}
use Rattle.zeb_program.proofs.ResultValues.{failing, first_same, second_same}

-- the store that was opened is the one that was taken over
pub taken_store : {S : Type 0} (at : Places S) (profile : List Directive) (path : List ℕ) (opened : Result (Held S) OpenFailed) (taken : Held S) (Never : OpenFailed → Type 0) → store_path profile ≡ Some path → IfOk opened (at.opens path)
    → IfOk opened (λ connection. HasCleanDisk (state at.store taken) → TakesOpen at.store connection taken)
    → IfErr opened Never → ((failed : OpenFailed) → Never failed → ⊥) → TakesStore at profile taken
taken_store at profile path (Ok connection) taken Never named opens keeps failed never = (connection, (path, named, opens), λ clean. (keeps clean).0)
taken_store at profile path (Err why) taken Never named opens keeps failed never = absurd (never why failed)

-- why a store that was opened isn't taken over, by what is known before and what it has met
foreign_or : (s : State) (known met : Option StoreCause) → IsForeignOr s None known → IsForeignOr s met (option_or known met)
foreign_or s known met is =
    (λ other. subst (λ c. option_or c met ≡ Some store_cause.Foreign) (sym (is.0 other)) refl, λ own. subst (λ c. option_or c met ≡ met) (sym (is.1 own)) refl)

or_none : (known : Option StoreCause) → option_or known None ≡ known
or_none None = refl
or_none (Some cause) = refl

-- or no register is opened, and what was opened, if it was, is let go
pub fails_opening : {S : Type 0} (T : Type 0) (at : Places S) (profile : List Directive) (path : List ℕ) (opened : Result (Held S) OpenFailed) (back : Option (Held S)) (why : Refusal) (known met cause : Option StoreCause) → store_path profile ≡ Some path → IfOk opened (at.opens path)
    → IfErr opened (λ failed. at.refuses path failed.cause) → IfErr opened (λ failed. failing T (Option (Held S)) Refusal back why ≡ failing T (Option (Held S)) Refusal None (unopened_refusal failed.cause))
    → IfOk opened (λ connection. IsForeignOr (state at.store connection) None known) → IfErr opened (λ failed. known ≡ failed.cause) → cause ≡ option_or known met
    → IfOk opened (λ connection. (left : Held S) × (back ≡ Some left) × IsGivenBack at.store connection left why) → IfSome back (IsLetGo at.store at.lets_go met) → IfNone back (met ≡ None) → FailsOpening at profile why (whole_but cause)
fails_opening T at profile path (Ok connection) back why known met cause named opens refuses lost other is told given gone unmet =
    subst (λ it. FailsOpening at profile why (whole_but it)) (sym told)
    (given_back connection given.0 met (path, named, opens) (foreign_or (state at.store connection) known met other) given.2 (subst (λ b. IfSome b (IsLetGo at.store at.lets_go met)) given.1 gone))
fails_opening {S} T at profile path (Err failed) back why known met cause named opens refuses lost other is told given gone unmet =
    let same : why ≡ unopened_refusal failed.cause = second_same T (Option (Held S)) Refusal back None why (unopened_refusal failed.cause) lost in
    let none_back : back ≡ None = first_same T (Option (Held S)) Refusal back None why (unopened_refusal failed.cause) lost in
    let none_met : met ≡ None = subst (λ b. IfNone b (met ≡ None)) none_back unmet in
    let own : cause ≡ failed.cause = told ∙ ap (option_or known) none_met ∙ or_none known ∙ is in
    subst (λ it. FailsOpening at profile it (whole_but cause)) (sym same) (subst (λ it. FailsOpening at profile (unopened_refusal failed.cause) (whole_but it)) (sym own) (shut path named refuses))

-- as the program gives it
pub opening_fault : {S : Type 0} (at : Places S) (profile : List Directive) (why : Refusal) (closed : Closed) (it : Unopened) → FailsOpening at profile why closed
    → it.failure.fault ≡ fault.Refused why → it.failure.cause ≡ refusal_cause why closed.cause → it.closed ≡ closed → IsOpeningFault at profile it.failure.fault it.failure.cause it.closed
opening_fault at profile why closed it fails is cause same =
    subst (λ f. IsOpeningFault at profile f it.failure.cause it.closed) (sym is) (subst (λ c. FailsOpening at profile why c × (it.failure.cause ≡ refusal_cause why c.cause)) (sym same) (fails, cause))

-- of the store or of the memory
pub fails_anyway : {S : Type 0} (T : Type 0) (opened : Result (Held S) OpenFailed) (g : Ghosts S) (back : Option (Held S)) (why : Refusal) → IfErr opened (λ failed. failing T (Option (Held S)) Refusal back why ≡ failing T (Option (Held S)) Refusal None (unopened_refusal failed.cause))
    → IfOk opened (λ connection. (left : Held S) × (back ≡ Some left) × IsGivenBack g connection left why) → IsOpeningFailure why
fails_anyway T (Ok connection) g back why lost given = given.2.0
fails_anyway {S} T (Err failed) g back why lost given =
    subst IsOpeningFailure (sym (second_same T (Option (Held S)) Refusal back None why (unopened_refusal failed.cause) lost)) (unopened_so failed.cause)
