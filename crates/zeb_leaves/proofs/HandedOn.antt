-- What a call answers that hands on a refusal, or that ends with another call.
use Rattle.zeb_leaves.proofs.Cited.{State, Trees, IsStore, Ok, Err, Result, ◌≡◌, refl, subst, sym, Answers, LooksInto, RegFault}
use Rattle.std.specs.Result.{IsErrAnd}
use Rattle.zeb_register.proofs.LooksInTurn.{looks_handed, looks_so}

pub answers_so : {A E : Type 0} (Refused Harmed : E → Type 0) (Done Told : A → Type 0) (r : Result A E) → ((fault : E) → Refused fault → Harmed fault) → ((x : A) → Done x → Told x) → Answers Refused Done r → Answers Harmed Told r
answers_so Refused Harmed Done Told (Ok x) refused done it = done x it
answers_so Refused Harmed Done Told (Err e) refused done it = refused e it

-- a refusal is handed on as it was met
pub refused_met : {A E : Type 0} (Refused : E → Type 0) (Done : A → Type 0) (r : Result A E) (fault : E) → IsErrAnd r (λ met. met ≡ fault) → Refused fault → Answers Refused Done r
refused_met Refused Done (Ok x) fault failed told = absurd failed
refused_met Refused Done (Err e) fault failed told = subst Refused (sym failed) told

-- what a call finds is told by one that ends with it
pub looks_ended : {A : Type 0} (a b : State) (r : Result A RegFault) (D E : Trees → Type 0) (F G : Trees → A → Type 0) → LooksInto D F a b r → (IsStore a → D a.now.trees → E a.now.trees) → (IsStore a → (x : A) → F a.now.trees x → G a.now.trees x)
    → LooksInto E G a b r
looks_ended a b (Ok x) D E F G it damaged so = looks_so a b x x D E F G it (λ store. so store x)
looks_ended a b (Err fault) D E F G it damaged so = looks_handed a b fault (Err fault) D E F G it refl damaged
