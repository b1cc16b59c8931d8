-- The bytes of a number are its shortest form.
use Rattle.zeb_blocks.proofs.Cited.{◌≡◌, ℕ, zero, suc, ◌+◌, ◌/◌, ◌%◌, ◌^◌, ◌<◌, ◌≤◌, List, [], ◌∷◌, length, sym, ◌∙◌, ap, inl, inr, arith, cases_lt}
use Rattle.zeb_blocks.specs.Numbers.{groups, uleb}
use Rattle.zeb_blocks.proofs.Bytes.{groups-one, groups-high, uleb-low, uleb-high}
use Rattle.zeb_lower_laws.specs.ShortestForms.{IsOneNumber, IsShortestForm, number_of}

one_more : (byte : ℕ) (bytes : List ℕ) → 128 ≤ byte → byte < 256 → IsOneNumber bytes → IsOneNumber (byte ∷ bytes)
one_more byte [] high fits one = absurd one
one_more byte (next ∷ bytes) high fits one = (high, fits, one)

groups_one : (more n : ℕ) → n < 128 ^ (suc more) → IsOneNumber (groups more n)
groups_one zero n fits = let low : n < 128 = omega arith in rw (groups-one 0 n low) low
groups_one (suc more) n fits = elim (cases_lt n 128) [
  | inl low ↦ rw (groups-one (suc more) n low) low
  | inr high ↦ rw (groups-high more n high) (one_more (n % 128 + 128) (groups more (n / 128)) (omega arith) (omega arith) (groups_one more (n / 128) (omega arith)))
]

number_of-groups : (more n : ℕ) → n < 128 ^ (suc more) → number_of (groups more n) ≡ n
number_of-groups zero n fits = let low : n < 128 = omega arith in rw (groups-one 0 n low) (omega arith)
number_of-groups (suc more) n fits = elim (cases_lt n 128) [
  | inl low ↦ rw (groups-one (suc more) n low) (omega arith)
  | inr high ↦ let rest = number_of-groups more (n / 128) (omega arith) in rw (groups-high more n high, rest) (omega arith)
]

shortest : (other : List ℕ) (n : ℕ) → n < 2 ^ 64 → IsOneNumber other → number_of other ≡ n → length (uleb n) ≤ length other
shortest [] n fits one is = absurd one
shortest (byte ∷ []) n fits one is = let low : n < 128 = omega arith in rw (uleb-low n low) (omega arith)
shortest (byte ∷ next ∷ other) n fits one is = elim (cases_lt n 128) [
  | inl low ↦ rw (uleb-low n low) (omega arith)
  | inr high ↦
      let rest = shortest (next ∷ other) (n / 128) (omega arith) one.2 (omega arith) in
      rw (uleb-high n high fits) (omega (arith, rest))
]

uleb_one : (n : ℕ) → n < 2 ^ 64 → IsOneNumber (uleb n)
unfolding uleb
uleb_one n fits = groups_one 9 n (omega arith)

number_of-uleb : (n : ℕ) → n < 2 ^ 64 → number_of (uleb n) ≡ n
unfolding uleb
number_of-uleb n fits = number_of-groups 9 n (omega arith)

pub uleb_shortest : (n : ℕ) → n < 2 ^ 64 → IsShortestForm n (uleb n)
uleb_shortest n fits = record { one = uleb_one n fits; makes = number_of-uleb n fits; shortest = λ other one is. shortest other n fits one is }

-- one number of so many bytes
same_bytes : (xs ys : List ℕ) → IsOneNumber xs → IsOneNumber ys → length xs ≡ length ys → number_of xs ≡ number_of ys → xs ≡ ys
same_bytes [] ys one other long same = absurd one
same_bytes (x ∷ xs) [] one other long same = absurd other
same_bytes (x ∷ []) (y ∷ []) one other long same = ap (λ (b : ℕ). b ∷ []) (omega arith)
same_bytes (x ∷ []) (y ∷ y' ∷ ys) one other long same = absurd (omega arith)
same_bytes (x ∷ x' ∷ xs) (y ∷ []) one other long same = absurd (omega arith)
same_bytes (x ∷ x' ∷ xs) (y ∷ y' ∷ ys) one other long same =
    let first : x ≡ y = omega arith in
    let rest = same_bytes (x' ∷ xs) (y' ∷ ys) one.2 other.2 (omega arith) (omega arith) in
    (λ i. first i ∷ rest i)

pub shortest_only : (n : ℕ) (bytes : List ℕ) → n < 2 ^ 64 → IsShortestForm n bytes → bytes ≡ uleb n
shortest_only n bytes fits form =
    let one = form.shortest (uleb n) (uleb_one n fits) (number_of-uleb n fits) in
    let other = shortest bytes n fits form.one form.makes in
    same_bytes bytes (uleb n) form.one (uleb_one n fits) (omega (arith, one, other)) (form.makes ∙ sym (number_of-uleb n fits))
