-- The bytes of a number, read from the front.
use Rattle.zeb_blocks.proofs.Cited.{◌≡◌, ◌≢◌, ℕ, zero, suc, ◌+◌, ◌*◌, ◌/◌, ◌%◌, ◌^◌, ◌<◌, ◌≤◌, List, [], ◌∷◌, ◌++◌, length, refl, sym, ◌∙◌, ap, inl, inr, arith, cases_lt, lt-ltb, le-ltb, mul-add, mul_assoc, mul-le-mul_left, mul-le-mul_right}
use Rattle.zeb_blocks.specs.Numbers.{groups, uleb}

pub groups-one : (more n : ℕ) → n < 128 → groups more n ≡ n ∷ []
unfolding groups
groups-one zero n low = refl
groups-one (suc more) n low = rw (lt-ltb n 128 low) refl

pub groups-high : (more n : ℕ) → 128 ≤ n → groups (suc more) n ≡ (n % 128 + 128) ∷ groups more (n / 128)
unfolding groups
groups-high more n high = rw (le-ltb n 128 high) refl

-- where so many groups hold the number, more of them are not used
pub groups-more : (more n : ℕ) → n < 128 ^ (suc more) → groups (suc more) n ≡ groups more n
groups-more zero n fits = groups-one 1 n (omega arith) ∙ sym (groups-one 0 n (omega arith))
groups-more (suc more) n fits = elim (cases_lt n 128) [
  | inl low ↦ groups-one (suc (suc more)) n low ∙ sym (groups-one (suc more) n low)
  | inr high ↦ groups-high (suc more) n high ∙ ap (λ (bytes : List ℕ). (n % 128 + 128) ∷ bytes) (groups-more more (n / 128) (omega arith)) ∙ sym (groups-high more n high)
]

pub uleb-low : (n : ℕ) → n < 128 → uleb n ≡ n ∷ []
unfolding uleb
uleb-low n low = groups-one 9 n low

pub uleb-high : (n : ℕ) → 128 ≤ n → n < 2 ^ 64 → uleb n ≡ (n % 128 + 128) ∷ uleb (n / 128)
unfolding uleb
uleb-high n high fits = groups-high 8 n high ∙ ap (λ (bytes : List ℕ). (n % 128 + 128) ∷ bytes) (sym (groups-more 8 (n / 128) (omega arith)))

-- the bytes of no number are none
pub begins_none : (n : ℕ) (rest : List ℕ) → n < 2 ^ 64 → [] ≡ uleb n ++ rest → ⊥
begins_none n rest fits same = elim (cases_lt n 128) [
  | inl low ↦ let e = rw (uleb-low n low) at same in cc
  | inr high ↦ let e = rw (uleb-high n high fits) at same in cc
]

-- a byte below 128 is its number
pub begins_low : (n byte : ℕ) (left rest : List ℕ) → n < 2 ^ 64 → byte < 128 → byte ∷ left ≡ uleb n ++ rest → (n ≡ byte) × (left ≡ rest)
begins_low n byte left rest fits small same = elim (cases_lt n 128) [
  | inl low ↦ let e = rw (uleb-low n low) at same in (cc, cc)
  | inr high ↦ let e = rw (uleb-high n high fits) at same in let f : byte ≡ n % 128 + 128 = cc in absurd (omega arith)
]

-- another is the lowest group of its number
pub begins_high : (n byte : ℕ) (left rest : List ℕ) → n < 2 ^ 64 → 128 ≤ byte → byte ∷ left ≡ uleb n ++ rest → (128 ≤ n) × (n % 128 + 128 ≡ byte) × (left ≡ uleb (n / 128) ++ rest)
begins_high n byte left rest fits large same = elim (cases_lt n 128) [
  | inl low ↦ let e = rw (uleb-low n low) at same in let f : byte ≡ n = cc in absurd (omega arith)
  | inr high ↦ let e = rw (uleb-high n high fits) at same in (high, cc, cc)
]

pub joins_high : (n byte : ℕ) (rest : List ℕ) → 128 ≤ byte → byte < 256 → 1 ≤ n → byte % 128 + 128 * n < 2 ^ 64 → byte ∷ (uleb n ++ rest) ≡ uleb (byte % 128 + 128 * n) ++ rest
joins_high n byte rest large fits some small =
    let whole = byte % 128 + 128 * n in
    let e = uleb-high whole (omega arith) small in
    let head : whole % 128 + 128 ≡ byte = omega arith in
    let tail : whole / 128 ≡ n = omega arith in
    rw (e, head, tail) refl

-- no number stands at the front of the bytes
abbrev pub Nothing : List ℕ → Type 0
Nothing bytes = (n : ℕ) (rest : List ℕ) → n < 2 ^ 64 → bytes ≢ uleb n ++ rest

-- the number at the front of the bytes is the value and, by the scale, the number of 1 or more at the front of those left
pub record Continues (bytes left : List ℕ) (value scale : ℕ) : Type 0 where
  pub scaled : 128 ≤ scale
  pub sound : (n : ℕ) (rest : List ℕ) → 1 ≤ n → value + scale * n < 2 ^ 64 → left ≡ uleb n ++ rest → bytes ≡ uleb (value + scale * n) ++ rest
  pub whole : (n : ℕ) (rest : List ℕ) → n < 2 ^ 64 → bytes ≡ uleb n ++ rest → (high : ℕ) × (1 ≤ high) × (n ≡ value + scale * high) × (left ≡ uleb high ++ rest)

-- what the scale multiplies is no larger than the product
scaled_le : (scale n : ℕ) → 1 ≤ scale → n ≤ scale * n
scaled_le scale n some = omega (arith, mul-le-mul_right n some)

pub continues_first : (byte : ℕ) (left : List ℕ) → 128 ≤ byte → byte < 256 → Continues (byte ∷ left) left (byte % 128) 128
continues_first byte left large fits = record {
  scaled = omega arith;
  sound = λ n rest some small same. rw same (joins_high n byte rest large fits some small);
  whole = λ n rest small same. let b = begins_high n byte left rest small large same in (n / 128, omega (arith, b.0), omega (arith, b.1, b.0), b.2);
}

grow : (value scale group high : ℕ) → value + scale * (group + 128 * high) ≡ (value + scale * group) + scale * 128 * high
grow value scale group high = omega (arith, mul-add scale group (128 * high), mul_assoc scale 128 high)

-- the number is above what stands at its front
high_fits : (n value scale high : ℕ) → n < 2 ^ 64 → 128 ≤ scale → n ≡ value + scale * high → high < 2 ^ 64
high_fits n value scale high small scaled is = omega (arith, scaled_le scale high (omega arith))

pub continues_more : (bytes left : List ℕ) (byte value scale : ℕ) → Continues bytes (byte ∷ left) value scale → 128 ≤ byte → byte < 256 → Continues bytes left (value + scale * (byte % 128)) (scale * 128)
continues_more bytes left byte value scale so_far large fits = record {
  scaled = omega (arith, so_far.scaled);
  sound = λ n rest some small same.
      let e = grow value scale (byte % 128) n in
      let scaled = so_far.scaled in
      let below : value + scale * (byte % 128 + 128 * n) < 2 ^ 64 = omega arith in
      let one = scaled_le scale (byte % 128 + 128 * n) (omega arith) in
      let here : byte ∷ left ≡ uleb (byte % 128 + 128 * n) ++ rest = rw same (joins_high n byte rest large fits some (omega arith)) in
      rw (← e) (so_far.sound (byte % 128 + 128 * n) rest (omega arith) below here);
  whole = λ n rest small same.
      let (high, some, is, begins) = so_far.whole n rest small same in
      let b = begins_high high byte left rest (high_fits n value scale high small so_far.scaled is) large begins in
      let e : high ≡ byte % 128 + 128 * (high / 128) = omega (arith, b.1) in
      (high / 128, omega (arith, b.0), is ∙ ap (λ (m : ℕ). value + scale * m) e ∙ grow value scale (byte % 128) (high / 128), b.2);
}

pub continues_ends : (bytes left : List ℕ) (byte value scale : ℕ) → Continues bytes (byte ∷ left) value scale → byte ≢ 0 → byte < 128 → value + scale * (byte % 128) < 2 ^ 64 → bytes ≡ uleb (value + scale * (byte % 128)) ++ left
continues_ends bytes left byte value scale so_far some small fits =
    let e : byte % 128 ≡ byte = omega arith in
    let one : 1 ≤ byte % 128 = omega arith in
    so_far.sound (byte % 128) left one fits (rw (e, uleb-low byte small) refl)

pub nothing_empty : (bytes : List ℕ) → length bytes ≡ 0 → Nothing bytes
nothing_empty [] none n rest small same = begins_none n rest small same
nothing_empty (byte ∷ bytes) none n rest small same = omega arith

pub nothing_ended : (bytes left : List ℕ) (value scale : ℕ) → Continues bytes left value scale → length left ≡ 0 → Nothing bytes
nothing_ended bytes (byte ∷ left) value scale so_far none n rest small same = omega arith
nothing_ended bytes [] value scale so_far none n rest small same =
    let (high, some, is, begins) = so_far.whole n rest small same in
    begins_none high rest (high_fits n value scale high small so_far.scaled is) begins

pub nothing_padded : (bytes left : List ℕ) (value scale : ℕ) → Continues bytes (0 ∷ left) value scale → Nothing bytes
nothing_padded bytes left value scale so_far n rest small same =
    let (high, some, is, begins) = so_far.whole n rest small same in
    let b = begins_low high 0 left rest (high_fits n value scale high small so_far.scaled is) (omega arith) begins in
    absurd (omega (arith, b.0))

pub nothing_large : (bytes left : List ℕ) (byte value scale : ℕ) → Continues bytes (byte ∷ left) value scale → byte < 256 → ¬ (value + scale * (byte % 128) < 2 ^ 64) → Nothing bytes
nothing_large bytes left byte value scale so_far fits large n rest small same =
    let (high, some, is, begins) = so_far.whole n rest small same in
    let high_small = high_fits n value scale high small so_far.scaled is in
    let group : byte % 128 ≤ high = elim (cases_lt byte 128) [
      | inl low ↦ let b = begins_low high byte left rest high_small low begins in omega (arith, b.0)
      | inr more ↦ let b = begins_high high byte left rest high_small more begins in omega (arith, b.1)
    ] in
    let scaled = mul-le-mul_left scale group in
    large (omega arith)

pub nothing_long : (bytes left : List ℕ) (byte value scale : ℕ) → Continues bytes (byte ∷ left) value scale → 128 ≤ byte → ¬ (scale * 128 < 2 ^ 64) → Nothing bytes
nothing_long bytes left byte value scale so_far more large n rest small same =
    let (high, some, is, begins) = so_far.whole n rest small same in
    let b = begins_high high byte left rest (high_fits n value scale high small so_far.scaled is) more begins in
    let scaled = mul-le-mul_left scale b.0 in
    large (omega arith)

-- ---- a number below 2^14 takes two bytes at most

pub nothing_small : (bytes : List ℕ) → Nothing bytes → (n : ℕ) (rest : List ℕ) → n < 2 ^ 14 → bytes ≢ uleb n ++ rest
nothing_small bytes none n rest small same = none n rest (omega arith) same

pub small_ends : (first second : ℕ) (rest : List ℕ) → 128 ≤ first → first < 256 → 1 ≤ second → second < 128 → first ∷ second ∷ rest ≡ uleb (first % 128 + 128 * second) ++ rest
small_ends first second rest large fits some low = sym (ap (λ (b : List ℕ). first ∷ (b ++ rest)) (uleb-low second low)) ∙ joins_high second first rest large fits some (omega arith)

pub small_longer : (first second : ℕ) (left : List ℕ) → 128 ≤ first → 128 ≤ second → (n : ℕ) (rest : List ℕ) → n < 2 ^ 14 → first ∷ second ∷ left ≢ uleb n ++ rest
small_longer first second left large more n rest small same =
    let one = begins_high n first (second ∷ left) rest (omega arith) large same in
    let two = begins_high (n / 128) second left rest (omega arith) more one.2 in
    absurd (omega (arith, two.0))

-- ---- a number takes ten bytes at most
length-groups : (more n : ℕ) → length (groups more n) ≤ more + 1
unfolding groups
length-groups zero n = omega arith
length-groups (suc more) n = elim (cases_lt n 128) [
  | inl low ↦ rw (groups-one (suc more) n low) (omega arith)
  | inr high ↦ rw (groups-high more n high) (omega (arith, length-groups more (n / 128)))
]

pub length-uleb : (n : ℕ) → length (uleb n) ≤ 10
unfolding uleb
length-uleb n = length-groups 9 n
