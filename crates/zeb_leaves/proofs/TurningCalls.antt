-- A call that may write, behind one that read.
use Rattle.zeb_leaves.proofs.Cited.{State, HasCleanDisk, Survives, Ok, Err, Result, ◌∙◌, arith, refl, Stays, goes_keeps, goes_then, reads_goes, quiet_then}
use Rattle.std.proofs.Common.{IsTrue}
use Rattle.std.specs.Result.{IsErrAnd}
use Rattle.zeb_register.specs.Calls.{GoesOn, Inside, OnlyReads}

pub reads_then_goes : {A B E F : Type 0} (a b c : State) (x : A) (r : Result B F) → Inside {E = E} a b (Ok x) (λ _. OnlyReads) → Inside b c r (λ _ s t. IsTrue s.is_open → GoesOn s t) → Inside a c r (λ _. GoesOn)
reads_then_goes a b c x (Ok y) first second = record {
  ok = λ clean inside. let before = first.ok (omega (arith, second.crash.clean)) inside in goes_then a b c (reads_goes a b before) (second.ok clean before.mode before.is_open);
  err = λ clean inside. tt;
  crash = quiet_then a b c first.crash second.crash;
}
reads_then_goes a b c x (Err e) first second = record {
  ok = λ clean inside. tt;
  err = λ clean inside. let before = first.ok (omega (arith, second.crash.clean)) inside in goes_keeps a b c (reads_goes a b before) (second.err clean before.mode);
  crash = quiet_then a b c first.crash second.crash;
}

-- the same of one that goes on whether the connection is open or not
pub reads_goes_on : {A B E F : Type 0} (a b c : State) (x : A) (r : Result B F) → Inside {E = E} a b (Ok x) (λ _. OnlyReads) → Inside b c r (λ _. GoesOn) → Inside a c r (λ _. GoesOn)
reads_goes_on a b c x (Ok y) first second = reads_then_goes a b c x (Ok y) first (record { ok = λ clean inside open'. second.ok clean inside; err = second.err; crash = second.crash })
reads_goes_on a b c x (Err e) first second = reads_then_goes a b c x (Err e) first (record { ok = λ clean inside. tt; err = second.err; crash = second.crash })

-- a call that reads has gone on
pub read_goes_on : {A B E F : Type 0} (a b : State) (x : A) (y : B) → Inside {E = E} a b (Ok x) (λ _. OnlyReads) → Inside {E = F} a b (Ok y) (λ _. GoesOn)
read_goes_on a b x y it = record { ok = λ clean inside. reads_goes a b (it.ok clean inside); err = λ clean inside. tt; crash = it.crash }

-- ---- any number of writes inside a transaction

module _ (a b : State) (crash : Survives a b (λ _. ⊥)) (stays : HasCleanDisk b → IsTrue a.in_transaction → Stays a b) where
  -- it goes on behind them
  pub stays_on : {A E : Type 0} (x : A) → Inside {E = E} a b (Ok x) (λ _ s t. IsTrue s.is_open → GoesOn s t)
  stays_on x = record {
    ok = λ clean inside was. let it = stays clean inside in record { was_open = was; is_open = it.open_still was; now_is = refl; committed_is = it.kept.committed (it.open_still was); mode = it.inside };
    err = λ clean inside. tt;
    crash = crash;
  }

  -- the next one fails
  pub stays_failed : {A B E F : Type 0} (Fault : F → Type 0) (c : State) (e : E) (r : Result B F) (P : A → State → State → Type 0) (Q : B → State → State → Type 0) → Inside b c (Err e) P → IsErrAnd r Fault → Inside a c r Q
  stays_failed Fault c e (Ok x) P Q next failed = absurd failed
  stays_failed Fault c e (Err f) P Q next failed = record {
    ok = λ clean inside. tt;
    err = λ clean inside.
        let before = stays (omega (arith, next.crash.clean)) inside in
        let last = next.err clean before.inside in
        record { was_open = λ o. before.kept.was_open (last.was_open o); committed = λ o. last.committed o ∙ before.kept.committed (last.was_open o) };
    crash = quiet_then a b c crash next.crash;
  }
