-- Lists of checks: the first that applies, over lists one after the other.
use Rattle.zeb_query.proofs.Cited.{◌≡◌, ℕ, Bool, true, false, cond, List, [], ◌∷◌, ◌++◌, Option, Some, None, refl, ap, ◌∙◌, Result, Ok, Err, IfOk, not, is_none, unwrap_or, digits_value, number_of, is_number, Check, check, checked_by, first_that_applies, written, Refusal, Gives, answered, ◌>>=◌, passed, kept_or, QueryFault}

-- what is made of an answer
pub answered_then : {A B : Type 0} (o : Option Refusal) (x : A) (f : A → B) → (answered o x >>= λ y. Ok (f y)) ≡ answered o (f x)
answered_then None x f = refl
answered_then (Some refusal) x f = refl

-- one part after the other
pub then_checks : {X Y : Type 0} (r : Result X Refusal) (next : X → Result Y Refusal) (cs ds : List Check) (x : X) (y : Y)
    → r ≡ checked_by cs x → next x ≡ checked_by ds y → (r >>= next) ≡ checked_by (cs ++ ds) y
then_checks {X} {Y} r next cs ds x y e h = ap (λ q. q >>= next) e ∙ go cs
  where
    go : (cs : List Check) → (checked_by cs x >>= next) ≡ checked_by (cs ++ ds) y
    go [] = h
    go (c ∷ cs) = elim c.applies as (λ p. (answered (cond p (Some c.refusal) (first_that_applies cs)) x >>= next) ≡ answered (cond p (Some c.refusal) (first_that_applies (cs ++ ds))) y) [
      | true ↦ refl
      | false ↦ go cs
    ]

-- a check, and then another part
pub passed_then : {Y : Type 0} (c : Check) (next : Unit {0} → Result Y Refusal) (cs : List Check) (y : Y) → next tt ≡ checked_by cs y → (passed c >>= next) ≡ checked_by (c ∷ cs) y
passed_then c next cs y h = elim c.applies as (λ p. (cond p (Err c.refusal) (Ok tt) >>= next) ≡ answered (cond p (Some c.refusal) (first_that_applies cs)) y) [
  | true ↦ refl
  | false ↦ h
]

-- a value that is kept, or the check of it, and then another part
pub kept_then : {X Y : Type 0} (number place : ℕ) (text : Option (List ℕ)) (o : Option X) (d : X) (next : X → Result Y Refusal) (cs : List Check) (y : Y)
    → next (unwrap_or o d) ≡ checked_by cs y → (kept_or number place text o >>= next) ≡ checked_by (check place number (written text) (is_none o) ∷ cs) y
kept_then number place text (Some x) d next cs y h = h
kept_then number place text None d next cs y h = refl

-- the same of a number
pub number_then : {Y : Type 0} (number place most : ℕ) (text : List ℕ) (next : ℕ → Result Y Refusal) (cs : List Check) (y : Y)
    → next (digits_value 10 text) ≡ checked_by cs y → (kept_or number place (Some text) (number_of most text) >>= next) ≡ checked_by (check place number text (not (is_number most text)) ∷ cs) y
number_then number place most text next cs y h = elim (is_number most text) as (λ b. (kept_or number place (Some text) (cond b (Some (digits_value 10 text)) None) >>= next) ≡ checked_by (check place number text (not b) ∷ cs) y) [
  | true ↦ h
  | false ↦ refl
]

-- what an answer is where none applies
pub answered_ok : {X : Type 0} (o : Option Refusal) (x y : X) → answered o x ≡ Ok y → (o ≡ None) × (x ≡ y)
answered_ok None x y e = (refl, cc)
answered_ok (Some refusal) x y e = absurd cc

-- what holds of each answer of a definition holds of what a call gives
pub given_ok : {X Y : Type 0} (view : X → Y) (P : Y → Type 0) (r : Result X QueryFault) (expected : Result Y Refusal)
    → Gives view r expected → ((y : Y) → expected ≡ Ok y → P y) → IfOk r (λ x. P (view x))
given_ok view P (Ok x) expected gives holds = holds (view x) gives
given_ok view P (Err fault) expected gives holds = tt

-- no check of a list applies where neither its first one does nor one of the others
pub none-cons : (c : Check) (cs : List Check) → first_that_applies (c ∷ cs) ≡ None → (c.applies ≡ false) × (first_that_applies cs ≡ None)
none-cons c cs e = elim c.applies as (λ p. cond p (Some c.refusal) (first_that_applies cs) ≡ None → (p ≡ false) × (first_that_applies cs ≡ None)) [
  | true ↦ λ e'. absurd cc
  | false ↦ λ e'. (refl, e')
] e

pub none-append : (cs ds : List Check) → first_that_applies (cs ++ ds) ≡ None → (first_that_applies cs ≡ None) × (first_that_applies ds ≡ None)
none-append [] ds e = (refl, e)
none-append (c ∷ cs) ds e = elim c.applies as (λ p. cond p (Some c.refusal) (first_that_applies (cs ++ ds)) ≡ None
    → (cond p (Some c.refusal) (first_that_applies cs) ≡ None) × (first_that_applies ds ≡ None)) [
      | true ↦ λ e'. absurd cc
      | false ↦ λ e'. none-append cs ds e'
    ] e

pub true_of_not : (b : Bool) → not b ≡ false → b ≡ true
true_of_not true e = refl
true_of_not false e = absurd cc
