-- What the runs of digits of a text give.
use Rattle.zeb_text.proofs.Cited.{◌≡◌, ℕ, zero, suc, ◌+◌, ◌*◌, ◌-◌, ◌^◌, ◌<◌, ◌≤◌, true, cond, nat_le, List, [], ◌∷◌, ◌++◌, filter, length, get_or, map, take, refl, ap, subst, ◌∙◌, arith, add-zero, add-suc, add-one, le-leb, lt-leb, pow-suc, is_ascii_digit, digit_value, digits_value, digits_value_after, nat_tests, take_more, numbers_of}
use Rattle.zeb_text.specs.Words.{runs_of}
use Rattle.zeb_text.specs.Numbers.{numerals_of}

pub numbers_of-run : (text run rest : List ℕ) → runs_of is_ascii_digit text ≡ run ∷ runs_of is_ascii_digit rest → numbers_of text ≡ map (digits_value 10) (cond (nat_le (length run) 18) (run ∷ numerals_of rest) (numerals_of rest))
unfolding numerals_of
numbers_of-run text run rest e = ap (λ runs. map (digits_value 10) (filter (λ digits. nat_le (length digits) 18) runs)) e

pub numbers_of-none : (text : List ℕ) → runs_of is_ascii_digit text ≡ [] → numbers_of text ≡ []
unfolding numerals_of
numbers_of-none text e = ap (λ runs. map (digits_value 10) (filter (λ digits. nat_le (length digits) 18) runs)) e

digits_value_after-append : (n : ℕ) (xs ys : List ℕ) → digits_value_after 10 n (xs ++ ys) ≡ digits_value_after 10 (digits_value_after 10 n xs) ys
digits_value_after-append n [] ys = refl
digits_value_after-append n (x ∷ xs) ys = digits_value_after-append (n * 10 + digit_value x) xs ys

pub digits_value-push : (xs : List ℕ) (x : ℕ) → digits_value 10 (xs ++ x ∷ []) ≡ digits_value 10 xs * 10 + digit_value x
digits_value-push xs x = digits_value_after-append 0 xs (x ∷ [])

pub digits_value-more : (xs : List ℕ) (i : ℕ) → i < length xs → digits_value 10 (take (i + 1) xs) ≡ digits_value 10 (take i xs) * 10 + digit_value (get_or xs i 0)
digits_value-more xs i lt = ap (digits_value 10) (take_more xs i 0 lt) ∙ digits_value-push (take i xs) (get_or xs i 0)

pub digit_range : (c : ℕ) → is_ascii_digit c ≡ true → (48 ≤ c) × (c ≤ 57) × (digit_value c ≡ c - 48)
digit_range c h = grind (arith, nat_tests)

ten_more : (k : ℕ) → 10 ^ (k + 1) ≡ 10 ^ k * 10
ten_more k = rw add-one (pow-suc 10 k)

pub tens_rise : (i k : ℕ) → 10 ^ i ≤ 10 ^ (i + k)
tens_rise i zero = rw add-zero (omega arith)
tens_rise i (suc k) = rw (add-suc, pow-suc) (omega (arith, tens_rise i k))

pub tens_mono : (i j : ℕ) → i ≤ j → 10 ^ i ≤ 10 ^ j
tens_mono i j le = let e : i + (j - i) ≡ j = omega arith in subst (λ n. 10 ^ i ≤ 10 ^ n) e (tens_rise i (j - i))

-- one more digit of at most 18
pub one_more_digit : (value i n digit : ℕ) → value < 10 ^ i → i < n → n ≤ 18 → digit ≤ 9 → (value * 10 + digit < 10 ^ (i + 1)) × (value * 10 + digit < 10 ^ 18)
one_more_digit value i n digit small inside short nine =
    let more = ten_more i in
    let all = tens_mono (i + 1) 18 (omega arith) in
    (omega arith, omega arith)

-- a run that is kept
pub numbers_of-short : (text run rest : List ℕ) → runs_of is_ascii_digit text ≡ run ∷ runs_of is_ascii_digit rest → length run ≤ 18 → numbers_of text ≡ digits_value 10 run ∷ numbers_of rest
numbers_of-short text run rest e short =
    numbers_of-run text run rest e ∙ ap (λ kept. map (digits_value 10) (cond kept (run ∷ numerals_of rest) (numerals_of rest))) (le-leb (length run) 18 short)

-- a run that is passed over
pub numbers_of-long : (text run rest : List ℕ) → runs_of is_ascii_digit text ≡ run ∷ runs_of is_ascii_digit rest → 18 < length run → numbers_of text ≡ numbers_of rest
numbers_of-long text run rest e long =
    numbers_of-run text run rest e ∙ ap (λ kept. map (digits_value 10) (cond kept (run ∷ numerals_of rest) (numerals_of rest))) (lt-leb (length run) 18 long)
