-- Lemmas on numbers of ASCII digits.
use Rattle.zeb_marc.proofs.Cited.{◌≡◌, ℕ, ◌+◌, ◌-◌, ◌*◌, ◌^◌, ◌<◌, ◌≤◌, true, List, length, get_or, take, ap, ◌∙◌, arith, is_ascii_digit, digit_value, digits_value, pow-le-pow_right, common_steps, digits_value_more, nat_tests}
use Rattle.zeb_marc.specs.Leader.{are_digits, number_of}

pub digit_value-digit : (c : ℕ) → 48 ≤ c → c ≤ 57 → digit_value c ≡ c - 48
digit_value-digit c low high = grind (arith, nat_tests)

pub number_of-take_more : (digits : List ℕ) (i : ℕ) → i < length digits → 48 ≤ get_or digits i 0 → get_or digits i 0 ≤ 57 → number_of (take (i + 1) digits) ≡ number_of (take i digits) * 10 + (get_or digits i 0 - 48)
unfolding number_of
number_of-take_more digits i lt low high = digits_value_more 10 digits i lt ∙ ap (λ (d : ℕ). digits_value 10 (take i digits) * 10 + d) (digit_value-digit (get_or digits i 0) low high)

-- the powers of ten that at most five digits reach
pub pow_ten-le : (i : ℕ) → i ≤ 5 → 10 ^ i ≤ 100000
pow_ten-le i le = let pos : 0 < 10 = omega arith in pow-le-pow_right pos {j = 5} le

pub are_digits-take_more : (digits : List ℕ) (i : ℕ) → i < length digits → are_digits (take i digits) ≡ true → is_ascii_digit (get_or digits i 0) ≡ true → are_digits (take (i + 1) digits) ≡ true
unfolding are_digits
are_digits-take_more digits i lt so_far digit = grind (arith, common_steps)
