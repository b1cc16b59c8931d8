-- What a call that answers by one clause is known to answer.
use Rattle.zeb_register.proofs.Cited.{State, Trees, ◌≡◌, ◌∙◌, err_from_is_err_and, ap, sym, subst, Result, Ok, Err, RegFault, Damaged, Content, Tells, TellsHeld}
use Rattle.std.specs.Result.{IsErrAnd}
use Rattle.zeb_register.specs.Answers.{Answers, IfDamaged}

-- a call that is refused so answers so
pub refused_so : {A E : Type 0} (Refused : E → Type 0) (Done : A → Type 0) (result : Result A E) (fault : E) → result ≡ Err fault → Refused fault → Answers Refused Done result
refused_so Refused Done result fault is refused = subst (Answers Refused Done) (sym is) refused

-- what a `?` hands on is the fault that it met
pub fault_met : {A E : Type 0} (result : Result A E) (fault : E) → IsErrAnd result (λ met. met ≡ fault) → result ≡ Err fault
fault_met result fault met = let is = err_from_is_err_and result met in is.1 ∙ ap Err is.2

-- damage that a call told
pub damage_of : {A : Type 0} (Damage : Type 0) (Done : A → Type 0) (result : Result A RegFault) → Answers (IfDamaged Damage) Done result → result ≡ Err Damaged → Damage
damage_of Damage Done (Ok x) it is = absurd cc
damage_of {A} Damage Done (Err fault) it is = it (let e : ◌≡◌ {A = Result A RegFault} (Err fault) (Err Damaged) = is in cc)

-- what is told of any tables is told of those that hold a content
pub told_held : {A : Type 0} (Holds : Trees → Content → Type 0) (Told : A → Type 0) (old new : State) (result : Result A RegFault) → Tells old new result (λ trees answer. Told answer) → TellsHeld Holds old new result (λ content answer. Told answer)
told_held Holds Told old new (Ok answer) tells clean store = λ content holds. tells clean store
told_held Holds Told old new (Err fault) tells clean store = tt
