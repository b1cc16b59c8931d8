-- A call that changes no open connection, behind one that asked and so left it open.
use Rattle.zeb_leaves.proofs.Cited.{Asks, IsReasonedError, IsStore, IsUnchanged, Ok, Err, Reading, Result, State, Trees}
use Rattle.std.specs.Bool.{IsTrue}
use Rattle.sqlite.specs.declared.error.Error.{Error}
use Rattle.zeb_register.proofs.AsksInTurn.{asks_behind}
use Rattle.zeb_register.proofs.HandedOn.{clean_before}
use Rattle.zeb_register.specs.Clauses.{Tells}

module _ {A B : Type 0} (a b c : State) (x : A) (P : Trees → A → Type 0) (Q : Trees → B → Type 0) (first : Asks a b (Ok x) P) where
  pub asks_open : (r : Result B Error) → Reading b c r (λ _ old new. IsTrue old.is_open → IsUnchanged old new) → Tells b c r Q → IsReasonedError b c r → Asks b c r Q
  asks_open (Ok y) call value refused = record {
    call = record { idle = call.idle; ok = λ clean. call.ok clean (first.call.ok (clean_before b c call.crash clean)).0.is_open; same = call.same; crash = call.crash };
    value = value;
    refused = refused;
  }
  asks_open (Err e) call value refused = record { call = record { idle = call.idle; ok = λ clean. tt; same = call.same; crash = call.crash }; value = value; refused = refused }

  pub asks_open_behind : {C : Type 0} (y : B) (z : C) (R : Trees → C → Type 0) → Reading {E = Error} b c (Ok y) (λ _ old new. IsTrue old.is_open → IsUnchanged old new) → Tells {E = Error} b c (Ok y) Q
      → (IsStore a → P a.now.trees x → Q a.now.trees y → R a.now.trees z) → Asks a c (Ok z) R
  asks_open_behind y z R call value so = asks_behind a b c x y z P Q R first (asks_open (Ok y) call value (λ clean store. tt)) so
