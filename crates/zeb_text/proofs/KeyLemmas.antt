-- The key of a number has 18 digits, which write the number.
use Rattle.zeb_text.proofs.Cited.{◌≡◌, ℕ, zero, suc, ◌+◌, ◌-◌, ◌*◌, ◌^◌, ◌<◌, ◌≤◌, true, false, List, [], ◌∷◌, ◌++◌, length, replicate, refl, sym, ap, subst, ◌∙◌, arith, lit<, digit_value, is_ascii_digit, AllPass, list_all, and_parts, and_from, nat_tests, decimal, format_spec, AllDigits, digits_value, digits_value_after, pow-suc, digits_value-lt, digit_value_digit, digit_from_value, decimal_is_IsNumeral, length-decimal-le, append-nil, length-append, length-replicate, nat_cmp, ordering_then, nat_cmp_is, Less, Greater, slice_cmp, All-cons, All-head, All-nil, All-tail}
use Rattle.std.specs.Fmt.{padded_integral, char_count}
use Rattle.zeb_text.specs.Numbers.{number_key}
use Rattle.zeb_text.proofs.DigitLemmas.{digit_range}

-- what `{:018}` writes
pub key_text : (n : ℕ) → padded_integral (format_spec 32 0 4 18 (2 ^ 64 - 1)) false [] (decimal n) ≡ number_key n
unfolding padded_integral char_count number_key
key_text n =
    let zeros : 18 - length (decimal n) - 0 - 0 ≡ 18 - length (decimal n) = omega arith in
    rw (zeros, append-nil)

-- ---- texts of digits

leading_zeros : (k n : ℕ) (digits : List ℕ) → digits_value_after 10 0 (replicate k 48 ++ digits) ≡ digits_value_after 10 0 digits
leading_zeros zero n digits = refl
leading_zeros (suc k) n digits = leading_zeros k n digits

all_zeros : (k : ℕ) (digits : List ℕ) → AllDigits 10 digits → AllDigits 10 (replicate k 48 ++ digits)
all_zeros zero digits all = all
all_zeros (suc k) digits all = (lit< tt, all_zeros k digits all)

module _ (n : ℕ) (small : n < 10 ^ 18) where
  fits : n < 2 ^ 64
  fits = omega arith

  pub value_of_key : digits_value 10 (number_key n) ≡ n
  unfolding number_key
  value_of_key = leading_zeros (18 - length (decimal n)) n (decimal n) ∙ (decimal_is_IsNumeral n fits).1

  pub digits_of_key : AllDigits 10 (number_key n)
  unfolding number_key
  digits_of_key = all_zeros (18 - length (decimal n)) (decimal n) (decimal_is_IsNumeral n fits).0.1

  pub length_of_key : length (number_key n) ≡ 18
  unfolding number_key
  length_of_key = omega (arith, length-append (replicate (18 - length (decimal n)) 48) (decimal n), length-replicate {A = ℕ} (18 - length (decimal n)) 48, length-decimal-le 18 n (omega arith) small fits)

-- ---- two texts of digits of one length and one value are one text

value_after : (n : ℕ) (digits : List ℕ) → digits_value_after 10 n digits ≡ n * 10 ^ length digits + digits_value 10 digits
value_after n [] = omega arith
value_after n (c ∷ digits) =
    let first = value_after (n * 10 + digit_value c) digits in
    let after = value_after (0 * 10 + digit_value c) digits in
    rw (first, after, pow-suc) (omega arith)

-- the first digit and the rest
value_cons : (c : ℕ) (digits : List ℕ) → digits_value 10 (c ∷ digits) ≡ digit_value c * 10 ^ length digits + digits_value 10 digits
value_cons c digits = rw (value_after (0 * 10 + digit_value c) digits) (omega arith)

-- a quotient and a remainder
pub parts : (p a b r s : ℕ) → r < p → s < p → a * p + r ≡ b * p + s → (a ≡ b) × (r ≡ s)
parts p zero zero r s r_small s_small e = (refl, omega arith)
parts p zero (suc b) r s r_small s_small e = absurd (omega arith)
parts p (suc a) zero r s r_small s_small e = absurd (omega arith)
parts p (suc a) (suc b) r s r_small s_small e = let inner = parts p a b r s r_small s_small (omega arith) in (ap suc inner.0, inner.1)

same_digit : (x y : ℕ) → digit_value x < 10 → digit_value y < 10 → digit_value x ≡ digit_value y → x ≡ y
same_digit x y x_digit y_digit e =
    let x_is = digit_value_digit x (digit_from_value x x_digit) in
    let y_is = digit_value_digit y (digit_from_value y y_digit) in
    omega arith

pub same_digits : (xs ys : List ℕ) → AllDigits 10 xs → AllDigits 10 ys → length xs ≡ length ys → digits_value 10 xs ≡ digits_value 10 ys → xs ≡ ys
same_digits [] [] x_all y_all long same = refl
same_digits [] (y ∷ ys) x_all y_all long same = absurd (omega arith)
same_digits (x ∷ xs) [] x_all y_all long same = absurd (omega arith)
same_digits (x ∷ xs) (y ∷ ys) x_all y_all long same =
    let tails : length xs ≡ length ys = omega arith in
    let whole : digit_value x * 10 ^ length xs + digits_value 10 xs ≡ digit_value y * 10 ^ length xs + digits_value 10 ys =
    sym (value_cons x xs) ∙ same ∙ value_cons y ys ∙ ap (λ n. digit_value y * 10 ^ n + digits_value 10 ys) (sym tails) in
    let below = subst (λ n. digits_value 10 ys < 10 ^ n) (sym tails) (digits_value-lt 10 ys y_all.1) in
    let split = parts (10 ^ length xs) (digit_value x) (digit_value y) (digits_value 10 xs) (digits_value 10 ys) (digits_value-lt 10 xs x_all.1) below whole in
    ap (λ z. z ∷ xs) (same_digit x y x_all.0 y_all.0 split.0) ∙ ap (λ zs. y ∷ zs) (same_digits xs ys x_all.1 y_all.1 tails split.1)

-- ---- the test of a key

pub digits_from_all : (ds : List ℕ) → list_all is_ascii_digit ds ≡ true → AllDigits 10 ds
digits_from_all [] all = tt
digits_from_all (c ∷ ds) all =
    let both = and_parts (is_ascii_digit c) (list_all is_ascii_digit ds) all in
    let digit = digit_range c both.0 in
    (omega arith, digits_from_all ds both.1)

digit_test : (c : ℕ) → (48 ≤ c) × (c ≤ 57) → is_ascii_digit c ≡ true
digit_test c range = grind (arith, nat_tests)

pub all_from_digits : (ds : List ℕ) → AllDigits 10 ds → list_all is_ascii_digit ds ≡ true
all_from_digits [] all = refl
all_from_digits (c ∷ ds) all = and_from (is_ascii_digit c) (list_all is_ascii_digit ds) (digit_test c (digit_from_value c all.0)) (all_from_digits ds all.1)

-- a text of 18 digits is the key of its value
pub is_key : (ds : List ℕ) → AllDigits 10 ds → length ds ≡ 18 → (digits_value 10 ds < 10 ^ 18) × (ds ≡ number_key (digits_value 10 ds))
is_key ds all long =
    let small : digits_value 10 ds < 10 ^ 18 = subst (λ n. digits_value 10 ds < 10 ^ n) long (digits_value-lt 10 ds all) in
    let n = digits_value 10 ds in
    (small, same_digits ds (number_key n) all (digits_of_key n small) (long ∙ sym (length_of_key n small)) (sym (value_of_key n small)))

-- ---- the order of keys

digit_order : (x y : ℕ) → digit_value x < 10 → digit_value y < 10 → nat_cmp x y ≡ nat_cmp (digit_value x) (digit_value y)
digit_order x y x_digit y_digit =
    let x_is = digit_value_digit x (digit_from_value x x_digit) in
    let y_is = digit_value_digit y (digit_from_value y y_digit) in
    grind (arith, nat_tests)

shifted : (k x y : ℕ) → nat_cmp (k + x) (k + y) ≡ nat_cmp x y
shifted k x y = grind (arith, nat_tests)

next_order : (x y : ℕ) → nat_cmp (suc x) (suc y) ≡ nat_cmp x y
next_order x y = grind (arith, nat_tests)

-- the greater first part decides, and else the rests do
parts_order : (p a b r s : ℕ) → r < p → s < p → nat_cmp (a * p + r) (b * p + s) ≡ ordering_then (nat_cmp a b) (nat_cmp r s)
parts_order p zero zero r s r_small s_small =
    let left : 0 * p + r ≡ r = omega arith in
    let right : 0 * p + s ≡ s = omega arith in
    rw (left, right)
parts_order p zero (suc b) r s r_small s_small = sym (nat_cmp_is (0 * p + r) (suc b * p + s) Less (omega arith)) ∙ ap (λ o. ordering_then o (nat_cmp r s)) (nat_cmp_is 0 (suc b) Less (omega arith))
parts_order p (suc a) zero r s r_small s_small = sym (nat_cmp_is (suc a * p + r) (0 * p + s) Greater (omega arith)) ∙ ap (λ o. ordering_then o (nat_cmp r s)) (nat_cmp_is (suc a) 0 Greater (omega arith))
parts_order p (suc a) (suc b) r s r_small s_small =
    let left : suc a * p + r ≡ p + (a * p + r) = omega arith in
    let right : suc b * p + s ≡ p + (b * p + s) = omega arith in
    rw (left, right, shifted p (a * p + r) (b * p + s), next_order a b) (parts_order p a b r s r_small s_small)

digits_order : (xs ys : List ℕ) → AllDigits 10 xs → AllDigits 10 ys → length xs ≡ length ys → slice_cmp nat_cmp xs ys ≡ nat_cmp (digits_value 10 xs) (digits_value 10 ys)
digits_order [] [] x_all y_all long = refl
digits_order [] (y ∷ ys) x_all y_all long = absurd (omega arith)
digits_order (x ∷ xs) [] x_all y_all long = absurd (omega arith)
digits_order (x ∷ xs) (y ∷ ys) x_all y_all long =
    let tails : length xs ≡ length ys = omega arith in
    let below = subst (λ n. digits_value 10 ys < 10 ^ n) (sym tails) (digits_value-lt 10 ys y_all.1) in
    let y_value : digits_value 10 (y ∷ ys) ≡ digit_value y * 10 ^ length xs + digits_value 10 ys = value_cons y ys ∙ ap (λ n. digit_value y * 10 ^ n + digits_value 10 ys) (sym tails) in
    ap (λ o. ordering_then o (slice_cmp nat_cmp xs ys)) (digit_order x y x_all.0 y_all.0)
    ∙ ap (ordering_then (nat_cmp (digit_value x) (digit_value y))) (digits_order xs ys x_all.1 y_all.1 tails)
    ∙ sym (parts_order (10 ^ length xs) (digit_value x) (digit_value y) (digits_value 10 xs) (digits_value 10 ys) (digits_value-lt 10 xs x_all.1) below)
    ∙ ap (λ v. nat_cmp (digit_value x * 10 ^ length xs + digits_value 10 xs) v) (sym y_value)
    ∙ ap (λ v. nat_cmp v (digits_value 10 (y ∷ ys))) (sym (value_cons x xs))

pub keys_order : (m n : ℕ) → m < 10 ^ 18 → n < 10 ^ 18 → slice_cmp nat_cmp (number_key m) (number_key n) ≡ nat_cmp m n
keys_order m n m_small n_small =
    digits_order (number_key m) (number_key n) (digits_of_key m m_small) (digits_of_key n n_small) (length_of_key m m_small ∙ sym (length_of_key n n_small))
    ∙ ap (λ v. nat_cmp v (digits_value 10 (number_key n))) (value_of_key m m_small) ∙ ap (nat_cmp m) (value_of_key n n_small)

All-from_digits : (ds : List ℕ) → AllDigits 10 ds → AllPass is_ascii_digit ds
All-from_digits [] all = All-nil (λ c. is_ascii_digit c ≡ true)
All-from_digits (c ∷ ds) all = All-cons (λ d. is_ascii_digit d ≡ true) c ds (digit_test c (digit_from_value c all.0)) (All-from_digits ds all.1)

pub key_digits : (n : ℕ) → n < 10 ^ 18 → (length (number_key n) ≡ 18) × AllPass is_ascii_digit (number_key n)
key_digits n small = (length_of_key n small, All-from_digits (number_key n) (digits_of_key n small))

digits_from_All : (ds : List ℕ) → AllPass is_ascii_digit ds → AllDigits 10 ds
digits_from_All [] all = tt
digits_from_All (c ∷ ds) all =
    let digit = digit_range c (All-head (λ d. is_ascii_digit d ≡ true) c ds all) in
    (omega arith, digits_from_All ds (All-tail (λ d. is_ascii_digit d ≡ true) c ds all))

pub key_of_digits : (ds : List ℕ) → length ds ≡ 18 → AllPass is_ascii_digit ds → (n : ℕ) × (n < 10 ^ 18) × (number_key n ≡ ds)
key_of_digits ds long all =
    let key = is_key ds (digits_from_All ds all) long in
    (digits_value 10 ds, key.0, sym key.1)
