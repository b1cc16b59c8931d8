-- Calls on a connection that a transaction borrows: what one has done, and one after the other.
use Rattle.zeb_packed.proofs.Cited.{◌∙◌, Result, Ok, Err, IfOk, IfOk-weaker, IsTrue, arith, refl, Trees, State, state, HasCleanDisk, GoesOn, GoesOnOpenOf, OnlyReads, goes_keeps, goes_then, on_err, on_err_so, quiet_still, quiet_then, reads_goes}
use Rattle.std.specs.Borrow.{MutBor}
use Rattle.sqlite.specs.Held.{Held}
use Rattle.sqlite_trees.specs.declared.store.Store.{Ghosts}
use Rattle.zeb_register.specs.Connections.{InsideOf, LooksInsideOf}

-- nothing is called
pub open_still : {S A E : Type 0} {store : Ghosts S} (a : MutBor (Held S)) {x : A} → GoesOnOpenOf {E = E} store a a (Ok x)
open_still {S} {A} {E} {store} a =
    let s = state store a.now in
    record {
      same = refl;
      does = λ opened. record {
        ok = λ clean inside. record { was_open = opened; is_open = opened; now_is = refl; committed_is = refl; mode = inside };
        err = λ clean inside. tt;
        crash = quiet_still s;
      };
      crash = quiet_still s;
    }

module _ {S A E : Type 0} {store : Ghosts S} {a b : MutBor (Held S)} where
  -- what an accepted call has done means this
  pub does_so : {B F : Type 0} {x : A} {y : B} {One : A → State → State → Type 0} {Two : B → State → State → Type 0} → InsideOf {E = E} store a b (Ok x) One → (One x (state store a.now) (state store b.now) → Two y (state store a.now) (state store b.now))
      → InsideOf {E = F} store a b (Ok y) Two
  does_so call so = record { same = call.same; does = record { ok = λ clean inside. so (call.does.ok clean inside); err = λ clean inside. tt; crash = call.does.crash } }

  -- the same, whatever the call answers
  pub works_so : {r : Result A E} {One Two : A → State → State → Type 0} → InsideOf store a b r One → ((x : A) → IsTrue (state store a.now).in_transaction → One x (state store a.now) (state store b.now) → Two x (state store a.now) (state store b.now)) → InsideOf store a b r Two
  works_so {r} call so = record { same = call.same; does = record { ok = λ clean inside. IfOk-weaker r _ _ (λ x one. so x inside one) (call.does.ok clean inside); err = call.does.err; crash = call.does.crash } }

  -- a call behind which the transaction goes on
  pub open_of : {r : Result A E} {Done : A → State → State → Type 0} → InsideOf store a b r Done → ((x : A) → IsTrue (state store a.now).is_open → Done x (state store a.now) (state store b.now) → GoesOn (state store a.now) (state store b.now)) → GoesOnOpenOf store a b r
  open_of {r} {Done} call goes = record {
    same = call.same;
    does = λ opened. record { ok = λ clean inside. IfOk-weaker r _ _ (λ x done. goes x opened done) (call.does.ok clean inside); err = call.does.err; crash = call.does.crash };
    crash = call.does.crash;
  }

  -- its answer is handed on otherwise
  pub open_ok : {B F : Type 0} {x : A} {y : B} → GoesOnOpenOf {E = E} store a b (Ok x) → GoesOnOpenOf {E = F} store a b (Ok y)
  open_ok call = record {
    same = call.same;
    does = λ opened. record { ok = (call.does opened).ok; err = λ clean inside. tt; crash = call.crash };
    crash = call.crash;
  }

  pub open_err : {B F : Type 0} {e : E} → GoesOnOpenOf {A = A} store a b (Err e) → (r : Result B F) → IfOk r (λ _. ⊥) → GoesOnOpenOf store a b r
  open_err call r refused = record {
    same = call.same;
    does = λ opened. record { ok = λ clean inside. IfOk-weaker r _ _ (λ x none. absurd none) refused; err = λ clean inside. on_err r _ ((call.does opened).err clean inside); crash = call.crash };
    crash = call.crash;
  }

  -- one that is accepted, and then another
  pub open_then : {B F : Type 0} {c : MutBor (Held S)} {x : A} {r : Result B F} → GoesOnOpenOf {E = E} store a b (Ok x) → GoesOnOpenOf store b c r → GoesOnOpenOf store a c r
  open_then {B} {F} {c} {x} {r} one two =
      let first = state store a.now in
      let mid = state store b.now in
      let last = state store c.now in
      record {
        same = two.same ∙ one.same;
        does = λ opened. record {
          ok = λ clean inside.
              let was : HasCleanDisk mid = omega (arith, two.crash.clean) in
              let goes = (one.does opened).ok was inside in
              IfOk-weaker r _ _ (λ y done. goes_then first mid last goes done) ((two.does goes.is_open).ok clean goes.mode);
          err = λ clean inside.
              let was : HasCleanDisk mid = omega (arith, two.crash.clean) in
              let goes = (one.does opened).ok was inside in
              on_err_so r _ _ (λ kept. goes_keeps first mid last goes kept) ((two.does goes.is_open).err clean goes.mode);
          crash = quiet_then first mid last one.crash two.crash;
        };
        crash = quiet_then first mid last one.crash two.crash;
      }

  -- a look tells that the connection is open
  pub reads_then : {B F : Type 0} {c : MutBor (Held S)} {x : A} {r : Result B F} {R : Trees → E → Type 0} {D : Trees → A → Type 0} → LooksInsideOf store a b (Ok x) R D → GoesOnOpenOf store b c r → InsideOf store a c r (λ _. GoesOn)
  reads_then {B} {F} {c} {x} {r} look two =
      let one : InsideOf store a b (Ok x) (λ _. OnlyReads) = record { same = look.same; does = look.looks.call } in
      let first = state store a.now in
      let mid = state store b.now in
      let both = open_then {x = x} (open_of one (λ y opened reads. reads_goes first mid reads)) two in
      let opened : HasCleanDisk (state store c.now) → IsTrue first.in_transaction → IsTrue first.is_open = λ clean inside.
      let was : HasCleanDisk mid = omega (arith, two.crash.clean) in
      (reads_goes first mid (one.does.ok was inside)).was_open in
      record { same = both.same; does = record { ok = λ clean inside. (both.does (opened clean inside)).ok clean inside; err = λ clean inside. (both.does (opened clean inside)).err clean inside; crash = both.crash } }
