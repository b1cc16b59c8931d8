-- What calls that look at tables leave of a connection, one after the other.
use Rattle.std.specs.Prelude.{IfOk, IsTrue}
use Rattle.zeb_image.proofs.Cited.{◌≡◌, false, Result, Ok, Err, arith, State, HasCleanDisk, IsUnchanged, Survives, ChangesNothing, unchanged_then, nothing_then, quiet_then}
use Rattle.zeb_image.specs.Looking.{Looks}
use Rattle.zeb_register.specs.Calls.{Reading}

-- every call so far was accepted, and left all that is seen as it was
pub record HasLooked (old new : State) : Type 0 where
  pub idle : old.in_transaction ≡ false → new.in_transaction ≡ false
  pub ok : HasCleanDisk new → IsUnchanged old new
  pub same : HasCleanDisk new → old.in_transaction ≡ false → ChangesNothing old new
  pub crash : Survives old new (λ _. ⊥)

clean_before : (a b : State) → Survives a b (λ _. ⊥) → HasCleanDisk b → HasCleanDisk a
clean_before a b crash clean = omega (arith, crash.clean)

-- one more, whose answer says that it left it so
pub looked_then : {A E : Type 0} (Shown : A → State → State → Type 0) (a b c : State) (last : Result A E) → HasLooked a b → Reading b c last Shown → (HasCleanDisk c → IsUnchanged b c) → HasLooked a c
looked_then Shown a b c last before reading unchanged = record {
  idle = λ i. reading.idle (before.idle i);
  ok = λ clean. unchanged_then a b c (before.ok (clean_before b c reading.crash clean)) (unchanged clean);
  same = λ clean i. nothing_then a b c (before.same (clean_before b c reading.crash clean) i) (reading.same clean (before.idle i));
  crash = quiet_then a b c before.crash reading.crash;
}

-- what they leave, whatever was made of their answers
pub looked : {A E : Type 0} (whole : A → Type 0) (a b : State) (r : Result A E) → HasLooked a b → Reading a b r (λ x. Looks (whole x))
looked whole a b (Ok x) before = record { idle = before.idle; ok = λ clean. (let it = before.ok clean in (it.0.was_open, λ _. it)); same = before.same; crash = before.crash }
looked whole a b (Err e) before = record { idle = before.idle; ok = λ _. tt; same = before.same; crash = before.crash }

-- the last call ends the look before the end of the tables
pub ended : {A B E F : Type 0} (whole : A → Type 0) (Shown : B → State → State → Type 0) (a b c : State) (r : Result A E) (last : Result B F) → IfOk r (λ x. whole x → ⊥)
    → HasLooked a b → Reading b c last Shown → Reading a c r (λ x. Looks (whole x))
ended {A} {B} {E} {F} whole Shown a b c r last part before reading = record {
  idle = λ i. reading.idle (before.idle i);
  ok = λ clean. opened r part (before.ok (clean_before b c reading.crash clean)).0.was_open;
  same = λ clean i. nothing_then a b c (before.same (clean_before b c reading.crash clean) i) (reading.same clean (before.idle i));
  crash = quiet_then a b c before.crash reading.crash;
}
  where
    opened : (r : Result A E) → IfOk r (λ x. whole x → ⊥) → IsTrue a.is_open → IfOk r (λ x. Looks (whole x) a c)
    opened (Ok x) part was = (was, λ w. absurd (part w))
    opened (Err e) part was = tt
