-- What `parse` reads where a text is a number.
use Rattle.zeb_query.proofs.Cited.{◌≡◌, ℕ, ◌<◌, ◌≤◌, ◌^◌, Bool, true, false, List, [], ◌∷◌, Option, Some, length, refl, ap, sym, ◌∙◌, arith, IfSome, nat_lt, nat_le, list_all, is_ascii_digit, all_ascii_digits, digits_value, ParsesUnsigned, numerals_by_value, tells_all_ascii_digits, IsNumeralModel, parse_gives, digits_value_short, nat_tests, is_number, number_of}
use Rattle.std.proofs.Common.{◌&&◌, Result, Ok}

all_digits : (text : List ℕ) → list_all is_ascii_digit text ≡ all_ascii_digits text
all_digits [] = refl
all_digits (c ∷ cs) = ap (λ b. is_ascii_digit c && b) (all_digits cs)

own : IsNumeralModel (λ ds. all_ascii_digits ds ≡ true) (digits_value 10)
own = numerals_by_value _ tells_all_ascii_digits

-- the parts of the test
pub and_parts : (a b : Bool) → (a && b) ≡ true → (a ≡ true) × (b ≡ true)
and_parts true b e = (refl, e)
and_parts false b e = absurd (cc)

pub parts_of_number : (most : ℕ) (text : List ℕ) → is_number most text ≡ true → (0 < length text) × (length text ≤ most) × (all_ascii_digits text ≡ true)
parts_of_number most text is =
    let p : (nat_lt 0 (length text) ≡ true) × ((nat_le (length text) most && list_all is_ascii_digit text) ≡ true) = and_parts _ _ is in
    let q : (nat_le (length text) most ≡ true) × (list_all is_ascii_digit text ≡ true) = and_parts _ _ p.1 in
    (grind (arith, nat_tests), grind (arith, nat_tests), sym (all_digits text) ∙ q.1)

-- what `parse` and then `ok` give
pub parsed : {E : Type 0} (most : ℕ) (text : List ℕ) (r : Result ℕ E) → most ≤ 18 → is_number most text ≡ true → ParsesUnsigned 64 10 text r → r ≡ Ok (digits_value 10 text)
parsed most text r small is h =
    let p = parts_of_number most text is in
    let b : digits_value 10 text < 10 ^ 18 = digits_value_short own text 18 p.2 (omega arith) in
    parse_gives own 64 text r h p.2 p.0 (omega arith)

pub number_below : (most : ℕ) (text : List ℕ) → is_number most text ≡ true → digits_value 10 text < 10 ^ most
number_below most text is =
    let p = parts_of_number most text is in
    digits_value_short own text most p.2 p.1

pub number_of-is : (most : ℕ) (text : List ℕ) → is_number most text ≡ true → Some (digits_value 10 text) ≡ number_of most text
number_of-is most text is = rw is refl

pub IfSome-is : (P : ℕ → Type 0) (o : Option ℕ) (n : ℕ) → o ≡ Some n → P n → IfSome o P
IfSome-is P o n is holds = rw is holds
