-- What a call answers that hands on a refusal, or that tells of rows that another read: what is shown, what became of the connection, and why it is refused.
use Rattle.zeb_register.proofs.Cited.{State, HasCleanDisk, IsUnchanged, Survives, ◌≡◌, ◌≢◌, ◌∙◌, sym, subst, refl, arith, rules, Result, Ok, Err, IfOk, Error, RegFault, Damaged, Store, fault_of, GoesOn, Inside, Reading, MayRefuse, IsStore, IsReasonedError}
use Rattle.std.specs.Result.{IsErrAnd}
use Rattle.zeb_register.proofs.Answered.{fault_met}
use Rattle.zeb_register.proofs.Calls.{goes_keeps, nothing_then, goes_then}
use Rattle.zeb_register.proofs.CallsInTurn.{quiet_still, quiet_then}
use Rattle.zeb_register.proofs.Causes.{failed_after}

-- a disk that is clean behind a call was clean before it
pub clean_before : (a b : State) → Survives a b (λ _. ⊥) → HasCleanDisk b → HasCleanDisk a
clean_before a b crash clean = omega (arith, crash.clean)

module _ {B F : Type 0} (Fault : F → Type 0) where
  pub shows_none : (r : Result B F) (P : B → Type 0) → IsErrAnd r Fault → IfOk r P
  shows_none (Ok x) P failed = absurd failed
  shows_none (Err e) P failed = tt

  -- ---- inside a transaction

  -- the refusal of a call
  pub failed_inside : {A E : Type 0} (a b : State) (e : E) (r : Result B F) (P : A → State → State → Type 0) (Q : B → State → State → Type 0) → Inside a b (Err e) P → IsErrAnd r Fault → Inside a b r Q
  failed_inside a b e (Ok x) P Q it failed = absurd failed
  failed_inside a b e (Err f) P Q it failed = record { ok = λ clean inside. tt; err = it.err; crash = it.crash }

  -- that of what asks no store
  pub untouched_inside : (a : State) (r : Result B F) (Q : B → State → State → Type 0) → IsErrAnd r Fault → Inside a a r Q
  untouched_inside a (Ok x) Q failed = absurd failed
  untouched_inside a (Err f) Q failed = record { ok = λ clean inside. tt; err = λ clean inside. record { was_open = λ o. o; committed = λ _. refl }; crash = quiet_still a }

  -- the refusal of a call behind another, with which the transaction went on
  pub failed_on : {A C D E : Type 0} (a b c : State) (x : C) (e : E) (r : Result B F) (O : C → State → State → Type 0) (P : A → State → State → Type 0) (Q : B → State → State → Type 0) → (O x a b → GoesOn a b) → Inside {E = D} a b (Ok x) O → Inside b c (Err e) P → IsErrAnd r Fault → Inside a c r Q
  failed_on a b c x e (Ok y) O P Q goes first second failed = absurd failed
  failed_on a b c x e (Err f) O P Q goes first second failed = record {
    ok = λ clean inside. tt;
    err = λ clean inside. let on = goes (first.ok (clean_before b c second.crash clean) inside) in goes_keeps a b c on (second.err clean on.mode);
    crash = quiet_then a b c first.crash second.crash;
  }

  -- ---- outside of one

  pub failed_reading : {A E : Type 0} (a b : State) (e : E) (r : Result B F) (P : A → State → State → Type 0) (Q : B → State → State → Type 0) → Reading a b (Err e) P → IsErrAnd r Fault → Reading a b r Q
  failed_reading a b e r P Q it failed = record { idle = it.idle; ok = λ clean. shows_none r (λ x. Q x a b) failed; same = it.same; crash = it.crash }

  -- behind a call that changed nothing
  pub failed_behind : {A C D E : Type 0} (a b c : State) (x : C) (e : E) (r : Result B F) (P : A → State → State → Type 0) (Q : B → State → State → Type 0) → Reading {E = D} a b (Ok x) (λ _. IsUnchanged) → Reading b c (Err e) P → IsErrAnd r Fault → Reading a c r Q
  failed_behind a b c x e r P Q first second failed = record {
    idle = λ i. second.idle (first.idle i);
    ok = λ clean. shows_none r (λ y. Q y a c) failed;
    same = λ clean i. nothing_then a b c (first.same (clean_before b c second.crash clean) i) (second.same clean (first.idle i));
    crash = quiet_then a b c first.crash second.crash;
  }

-- ---- another answer is given

-- rows are told of
pub told_reading : {A B E F : Type 0} (a b : State) (x : A) (y : B) (P : A → State → State → Type 0) → (P x a b → IsUnchanged a b) → Reading {E = E} a b (Ok x) P → Reading {E = F} a b (Ok y) (λ _. IsUnchanged)
told_reading a b x y P bare it = record { idle = it.idle; ok = λ clean. bare (it.ok clean); same = it.same; crash = it.crash }

-- a call behind another, with which the transaction went on
pub told_on : {A B C D E F : Type 0} (a b c : State) (x : A) (y : B) (z : C) (O : A → State → State → Type 0) (P : B → State → State → Type 0) → (O x a b → GoesOn a b) → (P y b c → GoesOn b c)
    → Inside {E = D} a b (Ok x) O → Inside {E = E} b c (Ok y) P → Inside {E = F} a c (Ok z) (λ _. GoesOn)
told_on a b c x y z O P goes more first second = record {
  ok = λ clean inside. let on = goes (first.ok (clean_before b c second.crash clean) inside) in goes_then a b c on (more (second.ok clean on.mode));
  err = λ clean inside. tt;
  crash = quiet_then a b c first.crash second.crash;
}

-- what two calls have done follows from what each does
pub behind_inside : {A B D E : Type 0} (a b c : State) (x : A) (r : Result B E) (O : A → State → State → Type 0) (P Q : B → State → State → Type 0) → (O x a b → GoesOn a b) → (O x a b → (y : B) → P y b c → Q y a c)
    → Inside {E = D} a b (Ok x) O → Inside b c r P → Inside a c r Q
behind_inside a b c x (Ok y) O P Q goes so first second = record {
  ok = λ clean inside. let did = first.ok (clean_before b c second.crash clean) inside in so did y (second.ok clean (goes did).mode);
  err = λ clean inside. tt;
  crash = quiet_then a b c first.crash second.crash;
}
behind_inside a b c x (Err e) O P Q goes so first second = record {
  ok = λ clean inside. tt;
  err = λ clean inside. let on = goes (first.ok (clean_before b c second.crash clean) inside) in goes_keeps a b c on (second.err clean on.mode);
  crash = quiet_then a b c first.crash second.crash;
}

-- ---- why the call is refused

pub not_refused : {A E : Type 0} (x : A) (fault : E) → ¬ (◌≡◌ {A = Result A E} (Ok x) (Err fault))
not_refused x fault is = cc

-- a `?` handed on the fault that the call tells
pub as_met : {A B E : Type 0} (r : Result B E) (fault told : E) → IsErrAnd r (λ met. met ≡ fault) → r ≡ Err told → ◌≡◌ {A = Result A E} (Err fault) (Err told)
as_met {A} {B} {E} r fault told failed is =
    let same : fault ≡ told = let e : ◌≡◌ {A = Result B E} (Err fault) (Err told) = sym (fault_met r fault failed) ∙ is in cc in
    subst (λ (f : E). ◌≡◌ {A = Result A E} (Err fault) (Err f)) same refl

-- the store failed as Store only where it may refuse
abbrev pub HasReason : State → State → Error → Type 0
HasReason a b e = HasCleanDisk b → IsStore a → fault_of e ≡ Store → MayRefuse a b

-- no error of the store is told as damage
pub not_damaged : (e : Error) → fault_of e ≢ Damaged
not_damaged e is = search rules

module _ {A : Type 0} (e : Error) (r : Result A RegFault) (failed : IsErrAnd r (λ met. met ≡ fault_of e)) where
  pub told_as : (fault : RegFault) → r ≡ Err fault → fault_of e ≡ fault
  told_as fault is = let h : ◌≡◌ {A = Result A RegFault} (Err (fault_of e)) (Err fault) = sym (fault_met r (fault_of e) failed) ∙ is in cc

  pub never_damaged : r ≢ Err Damaged
  never_damaged is = not_damaged e (told_as Damaged is)

-- the same of a call that is refused as the statement is
pub handed_error : {B : Type 0} (a b : State) (e : Error) (r : Result B Error) → HasReason a b e → IsErrAnd r (λ met. met ≡ e) → IsReasonedError a b r
handed_error {B} a b e r why failed = subst (IsReasonedError {A = B} a b) (sym (fault_met r e failed)) why

-- behind a call that changed nothing
pub error_behind : {A B D : Type 0} (a b c : State) (x : A) (e : Error) (r : Result B Error) → Reading {E = D} a b (Ok x) (λ _. IsUnchanged) → Survives b c (λ _. ⊥) → HasReason b c e → IsErrAnd r (λ met. met ≡ e) → IsReasonedError a c r
error_behind {B = B} a b c x e r first next why failed = handed_error a c e r (failed_after {A = B} a b c (Err e) first.crash first.ok next why) failed
