-- A walk over the rows of a query, which are read one at a time outside a transaction: how it begins, what each row makes of it, and how it ends.
use Rattle.zeb_register.proofs.Cited.{unchanged_then, HasBegun, HasGiven, Held, state, Row, Int, State, HasCleanDisk, IsUnchanged, Survives, Error, ◌≡◌, ◌∙◌, ◌++◌, ◌∷◌, ℕ, ℤ, false, IsTrue, List, [], Option, Some, None, Result, Ok, Err, IfOk, inl, inr, sym, ap, subst, arith, err_from_is_err_and, MayRefuse, Reading, IsReasonedError, fault_of, IsStore}
use Rattle.std.specs.Borrow.{Bor}
use Rattle.std.specs.Result.{IsErrAnd, OnErr}
use Rattle.sqlite.specs.Given.{IsRefused}
use Rattle.sqlite.specs.Next.{HasMoved}
use Rattle.sqlite.specs.State.{CommitsShowing, FailsToQuery, Shown}
use Rattle.sqlite.specs.declared.rows.stream.Rows.{Rows}
use Rattle.sqlite_trees.specs.declared.store.Store as store
use Rattle.zeb_register.specs.declared.faults.RegFault.TheVariants.{Store}
use Rattle.zeb_register.proofs.Calls.{IsSilent, fails_alone, quiet, store_same}
use Rattle.zeb_register.proofs.CallsInTurn.{quiet_then}
use Rattle.zeb_register.proofs.Causes.{may_after}
use Rattle.zeb_register.proofs.RowReads.{begun_silent, failed_nothing, same_nothing}

never_accepted : {A E : Type 0} (r : Result A E) (Fault : E → Type 0) (Shown : A → Type 0) → IsErrAnd r Fault → IfOk r Shown
never_accepted (Ok a) Fault Shown failed = absurd failed
never_accepted (Err e) Fault Shown failed = tt

-- what is seen outside a transaction is what was committed
abbrev pub IsSettled : State → Type 0
IsSettled s = s.in_transaction ≡ false → IsTrue s.is_open → s.now ≡ s.committed

-- on a store's tables the query fails as Store only where the store may refuse
abbrev pub WhyFailed : List ℕ → Row → Type 1
WhyFailed sql params = (old new : State) (e : Error) → IsStore old → fault_of e ≡ Store → FailsToQuery sql params old new e → MayRefuse old new

module _ {S : Type 0} (g : store.Ghosts S) (sql : List ℕ) (params : Row) (old : Held S) where
  -- nothing was changed since, the query is under way, and this is so of the rows that it gave
  pub record IsWalk (Of : List Row → Type 0) (now : Held S) : Type 0 where
    pub idle : old.in_transaction ≡ false → now.in_transaction ≡ false
    pub crash : Survives (state g old) (state g now) (λ _. ⊥)
    pub given : HasCleanDisk (state g now) → IsUnchanged (state g old) (state g now) × ((given : List Row) × HasGiven g sql params now given × Of given)

  -- ---- the query

  pub walk_begun : (Of : List Row → Type 0) (now : Held S) → IsSilent sql → (old.in_transaction ≡ false → now.in_transaction ≡ false) → Survives (state g old) (state g now) (CommitsShowing sql params (state g old))
      → (HasCleanDisk (state g now) → HasBegun g sql params old now) → Of [] → IsWalk Of now
  walk_begun Of now silent idle survives begun none = record {
    idle = idle;
    crash = quiet sql params (state g old) (state g now) silent survives;
    given = λ clean. let it = begun_silent g sql params silent old now (begun clean) in (it.1, ([], it.0, none));
  }

  pub query_failed : {A X F : Type 0} (now : Held S) (e : Error) (read : Result X Error) (Fault : F → Type 0) (result : Result A F) (Told : A → State → State → Type 0) → IsSilent sql → IsSettled (state g old) → read ≡ Err e → OnErr read (IsRefused g sql params old read now)
      → IsErrAnd result Fault → Reading (state g old) (state g now) result Told
  query_failed now e read Fault result Told silent settled is refused failed = let it = subst (λ r. OnErr r (IsRefused g sql params old r now)) is refused in record {
    idle = it.mode;
    ok = λ clean. never_accepted result Fault (λ a. Told a (state g old) (state g now)) failed;
    same = λ clean i. elim (fails_alone sql params (state g old) (state g now) e silent (it.err clean)) [
      | inl same ↦ same_nothing (state g old) (state g now) same
      | inr back ↦ λ open'. let was = back.was_open open' in let undone = back.undone open' in (was, undone.0 ∙ sym (settled i was), undone.1)
    ];
    crash = quiet sql params (state g old) (state g now) silent it.survives;
  }

  -- the store had a reason
  pub query_refused : {A : Type 0} (now : Held S) (e : Error) (result : Result A Error) → WhyFailed sql params → (HasCleanDisk (state g now) → FailsToQuery sql params (state g old) (state g now) e) → IsErrAnd result (λ met. met ≡ e)
      → IsReasonedError (state g old) (state g now) result
  query_refused {A} now e result why fails failed =
      let met = err_from_is_err_and result failed in
      subst (IsReasonedError {A = A} (state g old) (state g now)) (sym (met.1 ∙ ap Err met.2)) (λ clean store told. why (state g old) (state g now) e store told (fails clean))

  -- ---- one row more

  module _ (Of : List Row → Type 0) (mid now : Rows S g) (walk : IsWalk Of mid.conn.now) (read : Result (Option (Bor Row)) Error) (moved : HasMoved g mid read now) where
    first : HasCleanDisk (state g now.conn.now) → IsUnchanged (state g old) (state g mid.conn.now) × ((given : List Row) × HasGiven g sql params mid.conn.now given × Of given)
    first clean = walk.given (omega (arith, moved.survives.clean))

    crash_still : Survives (state g old) (state g now.conn.now) (λ _. ⊥)
    crash_still = quiet_then (state g old) (state g mid.conn.now) (state g now.conn.now) walk.crash moved.survives

    pub row_failed : {A F : Type 0} (e : Error) (Fault : F → Type 0) (result : Result A F) (Told : A → State → State → Type 0) → read ≡ Err e → IsSettled (state g old) → IsErrAnd result Fault → Reading (state g old) (state g now.conn.now) result Told
    row_failed e Fault result Told is settled failed = record {
      idle = λ i. moved.mode (walk.idle i);
      ok = λ clean. never_accepted result Fault (λ a. Told a (state g old) (state g now.conn.now)) failed;
      same = λ clean i. failed_nothing (state g old) (state g mid.conn.now) (state g now.conn.now) e (first clean).0 ((subst (λ r. HasMoved g mid r now) is moved).kept clean) (settled i);
      crash = crash_still;
    }

    -- the store had a reason
    pub row_refused : {A : Type 0} (e : Error) (result : Result A Error) → WhyFailed sql params → read ≡ Err e → IsErrAnd result (λ met. met ≡ e)
        → IsReasonedError (state g old) (state g now.conn.now) result
    row_refused {A} e result why is failed =
        let met = err_from_is_err_and result failed in
        subst (IsReasonedError {A = A} (state g old) (state g now.conn.now)) (sym (met.1 ∙ ap Err met.2)) (λ clean store told.
        let it = first clean in
        may_after (state g old) (state g mid.conn.now) (state g now.conn.now) walk.crash (λ _. it.0.0.is_open)
        (λ _. why (state g mid.conn.now) (state g now.conn.now) e (store_same (state g old) (state g mid.conn.now) it.0.0.now_is store) told ((subst (λ r. HasMoved g mid r now) is moved).err clean sql params it.1.0 it.1.1)))

    unchanged_still : (row : Option (Bor Row)) → read ≡ Ok row → HasCleanDisk (state g now.conn.now) → IsUnchanged (state g old) (state g now.conn.now)
    unchanged_still row is clean = unchanged_then (state g old) (state g mid.conn.now) (state g now.conn.now) (first clean).0 ((subst (λ r. HasMoved g mid r now) is moved).same clean)

    -- a row was given
    pub row_given : (Next : List Row → Type 0) (row : Bor Row) → read ≡ Ok (Some row) → ((given : List Row) → Of given → Next (given ++ row.now ∷ [])) → IsWalk Next now.conn.now
    row_given Next row is so = record {
      idle = λ i. moved.mode (walk.idle i);
      crash = crash_still;
      given = λ clean.
          let it = (first clean).1 in
          (unchanged_still (Some row) is clean, (it.0 ++ row.now ∷ [], (subst (λ r. HasMoved g mid r now) is moved).ok clean sql params it.0 it.1, so it.0 it.2));
    }

    -- no row is left: those that were given are the whole answer
    pub rows_over : {A F : Type 0} (result : Result A F) (Told : A → State → State → Type 0) → read ≡ Ok None
        → (IsUnchanged (state g old) (state g mid.conn.now) → IsUnchanged (state g old) (state g now.conn.now) → (given : List Row) → Shown sql params (state g mid.conn.now) (state g now.conn.now) given → Of given → IfOk result (λ a. Told a (state g old) (state g now.conn.now)))
        → Reading (state g old) (state g now.conn.now) result Told
    rows_over result Told is told = record {
      idle = λ i. moved.mode (walk.idle i);
      ok = λ clean. let it = first clean in told it.0 (unchanged_still None is clean) it.1.0 ((subst (λ r. HasMoved g mid r now) is moved).ok clean sql params it.1.0 it.1.1) it.1.2;
      same = λ clean i. same_nothing (state g old) (state g now.conn.now) (unchanged_still None is clean);
      crash = crash_still;
    }

  -- ---- its end

  pub walk_ended : {A F : Type 0} (Of : List Row → Type 0) (now : Held S) (result : Result A F) (Told : A → State → State → Type 0) → IsWalk Of now
      → (IsUnchanged (state g old) (state g now) → (given : List Row) → HasGiven g sql params now given → Of given → IfOk result (λ a. Told a (state g old) (state g now))) → Reading (state g old) (state g now) result Told
  walk_ended Of now result Told walk told = record {
    idle = walk.idle;
    ok = λ clean. let it = walk.given clean in told it.0 it.1.0 it.1.1 it.1.2;
    same = λ clean i. same_nothing (state g old) (state g now) (walk.given clean).0;
    crash = walk.crash;
  }

  pub walk_failed : {A F : Type 0} (Of : List Row → Type 0) (now : Held S) (Fault : F → Type 0) (result : Result A F) (Told : A → State → State → Type 0) → IsWalk Of now → IsErrAnd result Fault → Reading (state g old) (state g now) result Told
  walk_failed Of now Fault result Told walk failed =
      walk_ended Of now result Told walk (λ same given has of. never_accepted result Fault (λ a. Told a (state g old) (state g now)) failed)

-- the same of an id that is the other one
pub of_id : {S : Type 0} (g : store.Ghosts S) (sql : List ℕ) {x y : ℤ} {old now : Held S} {Of : List Row → Type 0} → x ≡ y → IsWalk g sql (Int x ∷ []) old Of now → IsWalk g sql (Int y ∷ []) old Of now
of_id g sql {x} {y} {old} {now} {Of} same walk = subst (λ d. IsWalk g sql (Int d ∷ []) old Of now) same walk
