-- Lists that have just the members that are P.
use Rattle.zeb_search.proofs.Cited.{◌≡◌, ◌↔◌, ℕ, List, [], Ordering, sym, subst, inl, inr, nat_cmp, Has, Operator, AreJoined, AreJust, AreNumbers}
use Rattle.std.specs.List.Sorted.{IsStrictlySortedBy}
use Rattle.zeb_query.specs.declared.plans.Operator.TheVariants as operator

module _ {X : Type 0} {cmp : X → X → Ordering} where
  pub just_same : (P Q : X → Type 0) (list : List X) → ((x : X) → P x ↔ Q x) → AreJust cmp P list → AreJust cmp Q list
  just_same P Q list same are = record {
    rising = are.rising;
    each = λ x. (λ h. (same x).0 ((are.each x).0 h), λ q. (are.each x).1 ((same x).1 q));
  }

  pub just_none : (P : X → Type 0) → ((x : X) → ¬ P x) → AreJust cmp P []
  unfolding IsStrictlySortedBy
  just_none P none = record { rising = tt; each = λ x. (λ h. absurd h, λ p. absurd (none x p)) }

-- what each of two lists has, under an operator
pub joined_same : (operator : Operator) (P Q R S : Type 0) → P ↔ R → Q ↔ S → AreJoined operator P Q ↔ AreJoined operator R S
joined_same operator.And P Q R S left right = (λ h. (left.0 h.0, right.0 h.1), λ h. (left.1 h.0, right.1 h.1))
joined_same operator.Or P Q R S left right = (
  λ h. elim h [ inl p ↦ inl (left.0 p) | inr q ↦ inr (right.0 q) ],
  λ h. elim h [ inl r ↦ inl (left.1 r) | inr s ↦ inr (right.1 s) ],
)
joined_same operator.Not P Q R S left right = (λ h. (left.0 h.0, λ s. h.1 (right.1 s)), λ h. (left.1 h.0, λ q. h.1 (right.0 q)))

-- a list that rises has its own numbers
pub own_numbers : (numbers : List ℕ) → IsStrictlySortedBy nat_cmp numbers → AreNumbers (Has numbers) numbers
own_numbers numbers rising = record { rising = rising; each = λ n. (λ h. h, λ h. h) }

-- what is told of two lists, of the numbers that they have
pub joined_numbers : (operator : Operator) (P Q : ℕ → Type 0) (left right lefts rights numbers : List ℕ) → lefts ≡ left → rights ≡ right → AreNumbers P left → AreNumbers Q right
    → (IsStrictlySortedBy nat_cmp lefts → IsStrictlySortedBy nat_cmp rights → AreNumbers (λ n. AreJoined operator (Has lefts n) (Has rights n)) numbers)
    → AreNumbers (λ n. AreJoined operator (P n) (Q n)) numbers
joined_numbers operator P Q left right lefts rights numbers is_left is_right one other joins =
    let first = subst (AreNumbers P) (sym is_left) one in
    let second = subst (AreNumbers Q) (sym is_right) other in
    just_same (λ n. AreJoined operator (Has lefts n) (Has rights n)) (λ n. AreJoined operator (P n) (Q n)) numbers
    (λ n. joined_same operator (Has lefts n) (Has rights n) (P n) (Q n) (first.each n) (second.each n)) (joins first.rising second.rising)
