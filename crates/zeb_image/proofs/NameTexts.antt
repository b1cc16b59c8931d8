-- The names of databases are texts.
use Rattle.zeb_image.proofs.Cited.{◌≡◌, ◌||◌, ◌==◌, ℕ, ◌<◌, true, List, length, get_or, IsTrue, IsUtf8, inl, inr, arith, is_ascii_alphanumeric, is_in_range, and_parts, cases_lt, eqb-true, leb-true, or_cases, get_or_past, IsUtf8-from_ascii, IsDatabaseName, is_name_byte}

range_low : (lo hi b : ℕ) → hi < 128 → is_in_range lo hi b ≡ true → b < 128
range_low lo hi b low h = let parts = and_parts _ _ h in omega (arith, low, leb-true b hi parts.1)

alphanumeric_low : (b : ℕ) → is_ascii_alphanumeric b ≡ true → b < 128
alphanumeric_low b h =
    elim (or_cases (is_in_range 48 57 b || is_in_range 65 90 b) (is_in_range 97 122 b) h) [
      | inl front ↦ elim (or_cases (is_in_range 48 57 b) (is_in_range 65 90 b) front) [
        | inl digit ↦ range_low 48 57 b (omega arith) digit
        | inr upper ↦ range_low 65 90 b (omega arith) upper
      ]
      | inr lower ↦ range_low 97 122 b (omega arith) lower
    ]

name_byte_low : (b : ℕ) → IsTrue (is_name_byte b) → b < 128
name_byte_low b h =
    elim (or_cases (is_ascii_alphanumeric b || (b == 45) || (b == 95)) (b == 46) h) [
      | inl front ↦ elim (or_cases (is_ascii_alphanumeric b || (b == 45)) (b == 95) front) [
        | inl first ↦ elim (or_cases (is_ascii_alphanumeric b) (b == 45) first) [
          | inl plain ↦ alphanumeric_low b plain
          | inr hyphen ↦ omega (arith, eqb-true b 45 hyphen)
        ]
        | inr underscore ↦ omega (arith, eqb-true b 95 underscore)
      ]
      | inr dot ↦ omega (arith, eqb-true b 46 dot)
    ]

-- a name is UTF-8
pub name_text : (name : List ℕ) → IsDatabaseName name → IsUtf8 name
name_text name is = IsUtf8-from_ascii name (λ i. elim (cases_lt i (length name)) [
  | inl within ↦ name_byte_low (get_or name i 0) (is.bytes i 0 within)
  | inr past ↦ (let e = get_or_past name i 0 past in omega (arith, e))
])
