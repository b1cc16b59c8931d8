-- The number at the front of the bytes is told by them, and so is what stands behind it.
use Rattle.zeb_blocks.proofs.Cited.{◌≡◌, ℕ, zero, suc, ◌+◌, ◌*◌, ◌/◌, ◌%◌, ◌^◌, ◌<◌, ◌≤◌, List, ◌∷◌, ◌++◌, refl, sym, ◌∙◌, ap, inl, inr, arith, cases_lt, lt-ltb, le-ltb}
use Rattle.zeb_blocks.specs.Numbers.{groups, uleb}
use Rattle.zeb_blocks.specs.Left.{number_at, behind}
use Rattle.zeb_blocks.proofs.Bytes.{groups-one, groups-high}

low_front : (n : ℕ) (rest : List ℕ) → n < 128 → number_at (n ∷ rest) ≡ n
unfolding number_at
low_front n rest low = rw (lt-ltb n 128 low) refl

low_behind : (n : ℕ) (rest : List ℕ) → n < 128 → behind (n ∷ rest) ≡ rest
unfolding behind
low_behind n rest low = rw (lt-ltb n 128 low) refl

high_front : (byte : ℕ) (rest : List ℕ) → 128 ≤ byte → number_at (byte ∷ rest) ≡ byte % 128 + 128 * number_at rest
unfolding number_at
high_front byte rest high = rw (le-ltb byte 128 high) refl

high_behind : (byte : ℕ) (rest : List ℕ) → 128 ≤ byte → behind (byte ∷ rest) ≡ behind rest
unfolding behind
high_behind byte rest high = rw (le-ltb byte 128 high) refl

number_at-groups : (more n : ℕ) (rest : List ℕ) → n < 128 ^ (suc more) → number_at (groups more n ++ rest) ≡ n
number_at-groups zero n rest fits = let low : n < 128 = omega arith in rw (groups-one 0 n low) (low_front n rest low)
number_at-groups (suc more) n rest fits = elim (cases_lt n 128) [
  | inl low ↦ rw (groups-one (suc more) n low) (low_front n rest low)
  | inr high ↦
      let rest_is = number_at-groups more (n / 128) rest (omega arith) in
      let front = high_front (n % 128 + 128) (groups more (n / 128) ++ rest) (omega arith) in
      rw (groups-high more n high) (front ∙ ap (λ (m : ℕ). (n % 128 + 128) % 128 + 128 * m) rest_is ∙ omega arith)
]

behind-groups : (more n : ℕ) (rest : List ℕ) → n < 128 ^ (suc more) → behind (groups more n ++ rest) ≡ rest
behind-groups zero n rest fits = let low : n < 128 = omega arith in rw (groups-one 0 n low) (low_behind n rest low)
behind-groups (suc more) n rest fits = elim (cases_lt n 128) [
  | inl low ↦ rw (groups-one (suc more) n low) (low_behind n rest low)
  | inr high ↦ rw (groups-high more n high) (high_behind (n % 128 + 128) (groups more (n / 128) ++ rest) (omega arith) ∙ behind-groups more (n / 128) rest (omega arith))
]

pub number_at-uleb : (n : ℕ) (rest : List ℕ) → n < 2 ^ 64 → number_at (uleb n ++ rest) ≡ n
unfolding uleb
number_at-uleb n rest fits = number_at-groups 9 n rest (omega arith)

pub behind-uleb : (n : ℕ) (rest : List ℕ) → n < 2 ^ 64 → behind (uleb n ++ rest) ≡ rest
unfolding uleb
behind-uleb n rest fits = behind-groups 9 n rest (omega arith)

pub same_number : (n m : ℕ) (left right : List ℕ) → n < 2 ^ 64 → m < 2 ^ 64 → uleb n ++ left ≡ uleb m ++ right → n ≡ m
same_number n m left right fits fits' same = sym (number_at-uleb n left fits) ∙ ap number_at same ∙ number_at-uleb m right fits'

pub same_behind : (n m : ℕ) (left right : List ℕ) → n < 2 ^ 64 → m < 2 ^ 64 → uleb n ++ left ≡ uleb m ++ right → left ≡ right
same_behind n m left right fits fits' same = sym (behind-uleb n left fits) ∙ ap behind same ∙ behind-uleb m right fits'
