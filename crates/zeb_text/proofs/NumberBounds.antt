-- The numbers of a text are below 10 ^ 18, since their runs have at most 18 digits.
use Rattle.zeb_text.proofs.Cited.{◌≡◌, ℕ, ◌^◌, ◌<◌, ◌≤◌, true, List, [], ◌∷◌, filter, length, map, nat_le, All, inl, inr, arith, is_ascii_digit, AllPass, AllDigits, digits_value, cases_Bool, nat_tests, digits_value-lt, All-cons, All-head, All-nil, All-tail, numbers_of}
use Rattle.zeb_text.specs.Words.{runs_of}
use Rattle.zeb_text.specs.Numbers.{numerals_of}
use Rattle.zeb_text.proofs.DigitLemmas.{digit_range, tens_mono}
use Rattle.zeb_text.proofs.MaximalRuns.{AllRuns, runs_are_runs}

AllDigits-from_pass : (run : List ℕ) → AllPass is_ascii_digit run → AllDigits 10 run
AllDigits-from_pass [] all = tt
AllDigits-from_pass (c ∷ run) all =
    let digit = digit_range c (All-head (λ d. is_ascii_digit d ≡ true) c run all) in
    (omega arith, AllDigits-from_pass run (All-tail (λ d. is_ascii_digit d ≡ true) c run all))

is_short : (n : ℕ) → nat_le n 18 ≡ true → n ≤ 18
is_short n short = grind (arith, nat_tests)

value_below : (run : List ℕ) → AllPass is_ascii_digit run → length run ≤ 18 → digits_value 10 run < 10 ^ 18
value_below run digits short =
    let low = digits_value-lt 10 run (AllDigits-from_pass run digits) in
    let high = tens_mono (length run) 18 short in
    omega arith

values_below : (runs : List (List ℕ)) → AllRuns is_ascii_digit runs
    → All (λ n. n < 10 ^ 18) (map (digits_value 10) (filter (λ digits. nat_le (length digits) 18) runs))
values_below [] all = All-nil (λ n. n < 10 ^ 18)
values_below (run ∷ runs) all =
    let rest = values_below runs all.2 in
    elim (cases_Bool (nat_le (length run) 18)) [
      | inl short ↦ rw short (All-cons (λ n. n < 10 ^ 18) (digits_value 10 run) _ (value_below run all.1 (is_short (length run) short)) rest)
      | inr long ↦ rw long rest
    ]

pub numbers_below : (text : List ℕ) → All (λ number. number < 10 ^ 18) (numbers_of text)
unfolding numerals_of
numbers_below text = values_below (runs_of is_ascii_digit text) (runs_are_runs is_ascii_digit text)
