-- What the shortest form of a number is, for the laws of numbers (ULEB128: DWARF 5, 7.6).
use Rattle.std.specs.Prelude.{◌≡◌, ℕ, ◌+◌, ◌*◌, ◌%◌, ◌<◌, ◌≤◌, List, [], ◌∷◌, length}

-- the number that bytes make: the low seven bits of each, the first byte's lowest
abbrev pub number_of : List ℕ → ℕ
number_of [] = 0
number_of (byte ∷ bytes) = byte % 128 + 128 * number_of bytes

-- the bytes of one number: each but the last has its high bit set
abbrev pub IsOneNumber : List ℕ → Type 0
IsOneNumber [] = ⊥
IsOneNumber (byte ∷ []) = byte < 128
IsOneNumber (byte ∷ next ∷ bytes) = (128 ≤ byte) × (byte < 256) × IsOneNumber (next ∷ bytes)

-- these bytes make the number, and no fewer do (ULEB128)
pub record IsShortestForm (n : ℕ) (bytes : List ℕ) : Type 0 where
  pub one : IsOneNumber bytes
  pub makes : number_of bytes ≡ n
  pub shortest : (other : List ℕ) → IsOneNumber other → number_of other ≡ n → length bytes ≤ length other
