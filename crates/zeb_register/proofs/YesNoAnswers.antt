-- Answers of yes and no.
use Rattle.zeb_register.proofs.Cited.{◌≡◌, ◌↔◌, Bool, true, false, IsTrue, Option, Some, None, refl, IfSome, MatchOption}

pub told : (P : Type 0) (answer : Bool) → (answer ≡ true → P) → (answer ≡ false → ¬ P) → IsTrue answer ↔ P
told P true yes' no' = (λ _. yes' refl, λ _. refl)
told P false yes' no' = (λ h. absurd (let e : false ≡ true = h in cc), λ p. absurd (no' refl p))

-- a second question is asked where the first is answered yes
pub both_so : (P Q : Type 0) (first answer : Bool) → first ≡ true → IsTrue first ↔ P → IsTrue answer ↔ Q → IsTrue answer ↔ (P × Q)
both_so P Q first answer yes' one second = (λ h. (one.0 yes', second.0 h), λ both. second.1 both.1)

pub no_so : (P Q : Type 0) (first : Bool) → first ≡ false → IsTrue first ↔ P → IsTrue false ↔ (P × Q)
no_so P Q first no' one = (λ h. absurd (let e : false ≡ true = h in cc), λ both. let yes' : first ≡ true = one.1 both.0 in absurd cc)

pub told_so : (P Q : Type 0) (answer : Bool) → P ↔ Q → IsTrue answer ↔ P → IsTrue answer ↔ Q
told_so P Q answer so is = (λ h. so.0 (is.0 h), λ q. is.1 (so.1 q))

pub match_so : {X : Type 0} (N M : Type 0) (S R : X → Type 0) (found : Option X) → (N → M) → ((x : X) → S x → R x) → MatchOption found N S → MatchOption found M R
match_so N M S R None none some is = none is
match_so N M S R (Some x) none some is = some x is

pub some_so : {X : Type 0} (N : Type 0) (S R : X → Type 0) (found : Option X) → ((x : X) → S x → R x) → MatchOption found N S → IfSome found R
some_so N S R None some is = tt
some_so N S R (Some x) some is = some x is
