-- A result of which the value is taken, or another one in its place; and what is made of a value.
use Rattle.zeb_program.proofs.Cited.{◌≡◌, ◌∙◌, ap, refl, subst, sym, Option, Some, Result, Ok, Err, IfErr, IfOk, IsErrAnd, MatchResult}

-- what is said of a value, and of one that is made of it
pub made_of : {T E V F : Type 0} (from : Result T E) (to : Result V F) (P : T → Type 0) (Q : T → V → Type 0) (R : V → Type 0) (why : E → F)
    → IfOk from P → IfOk from (λ value. IfOk to (Q value)) → IfErr from (λ fault. to ≡ Err (why fault)) → ((value : T) (made : V) → P value → Q value made → R made) → IfOk to R
made_of (Ok value) (Ok made) P Q R why one both never so = so value made one both
made_of (Ok value) (Err fault) P Q R why one both never so = tt
made_of (Err none) (Ok made) P Q R why one both never so = absurd cc
made_of (Err none) (Err fault) P Q R why one both never so = tt

pub ok_is_no_err : {T E : Type 0} (value : T) (fault : E) (Goal : Type 0) → Ok value ≡ Err fault → Goal
ok_is_no_err value fault Goal e = absurd cc

-- what is said of a result stays so, and what follows from it, where a part of its fault is taken
pub narrowed_so : {T F E : Type 0} (from : Result T F) (to : Result T E) (part : F → E) (P Q : T → Type 0) → ((value : T) → P value → Q value) → IfOk from P → MatchResult from (λ value. to ≡ Ok value) (λ fault. to ≡ Err (part fault)) → IfOk to Q
narrowed_so (Ok value) to part P Q so said is = subst (λ r. IfOk r Q) (sym is) (so value said)
narrowed_so (Err fault) to part P Q so said is = subst (λ r. IfOk r Q) (sym is) tt

-- what is said of a value, and what is said of it or of a fault
pub both_so : {T E : Type 0} (r : Result T E) (P Q : T → Type 0) (R : E → Type 0) → IfOk r P → MatchResult r Q R → IfOk r (λ value. P value × Q value)
both_so (Ok value) P Q R one two = (one, two)
both_so (Err fault) P Q R one two = tt

pub narrowed_fault : {T F E : Type 0} (from : Result T F) (to : Result T E) (part : F → E) (P : F → Type 0) (Q : E → Type 0) → ((fault : F) → P fault → Q (part fault)) → IfErr from P → MatchResult from (λ value. to ≡ Ok value) (λ fault. to ≡ Err (part fault)) → IfErr to Q
narrowed_fault (Ok value) to part P Q so said is = subst (λ r. IfErr r Q) (sym is) tt
narrowed_fault (Err fault) to part P Q so said is = subst (λ r. IfErr r Q) (sym is) (so fault said)

-- a fault that has two parts
pub given_err : {T A B : Type 0} (from : Result T (A × B)) (to : Result T (Option A × B)) (back : A) (why : B) → IsErrAnd from (λ fault. (fault.0 ≡ back) × (fault.1 ≡ why))
    → MatchResult from (λ value. to ≡ Ok value) (λ fault. to ≡ Err (Some fault.0, fault.1)) → to ≡ Err (Some back, why)
given_err (Ok value) to back why said is = absurd said
given_err (Err fault) to back why said is = is ∙ ap (λ one. Err (Some one, fault.1)) said.0 ∙ ap (λ other. Err (Some back, other)) said.1

abbrev pair : (A B : Type 0) → A → B → A × B
pair A B one other = (one, other)

abbrev pub failing : (T A B : Type 0) → A → B → Result T (A × B)
failing T A B one other = Err (one, other)

err_same : {T E : Type 0} (r : Result T E) (one other : E) → r ≡ Err one → r ≡ Err other → one ≡ other
err_same r one other is e = cc

both_same : (T A B : Type 0) (a c : A) (b d : B) → failing T A B a b ≡ failing T A B c d → pair A B a b ≡ pair A B c d
both_same T A B a c b d e = err_same (failing T A B a b) (pair A B a b) (pair A B c d) refl e

pub first_same : (T A B : Type 0) (a c : A) (b d : B) → failing T A B a b ≡ failing T A B c d → a ≡ c
first_same T A B a c b d e = ap (λ (both : A × B). both.0) (both_same T A B a c b d e)

pub second_same : (T A B : Type 0) (a c : A) (b d : B) → failing T A B a b ≡ failing T A B c d → b ≡ d
second_same T A B a c b d e = ap (λ (both : A × B). both.1) (both_same T A B a c b d e)

pub holds_of : {T E : Type 0} (r : Result T E) (value : T) (P : T → Type 0) → r ≡ Ok value → P value → IfOk r P
holds_of r value P is said = subst (λ it. IfOk it P) (sym is) said

-- what is passed on by `?`
pub passed_failure : {A E : Type 0} (P : E → Type 0) (r : Result A E) (why : E) → r ≡ Err why → P why → IfErr r P
passed_failure P r why is h = subst (λ it. IfErr it P) (sym is) h
