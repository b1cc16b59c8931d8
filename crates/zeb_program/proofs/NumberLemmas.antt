-- What `parse` reads where a text is a number.
use Rattle.zeb_program.proofs.Cited.{◌≡◌, ℕ, ◌<◌, ◌≤◌, ◌^◌, true, List, [], ◌∷◌, ◌&&◌, Result, Ok, Some, length, refl, ap, sym, ◌∙◌, arith, nat_lt, nat_le, is_ascii_digit, list_all, all_ascii_digits, and_parts, nat_tests}
use Rattle.std.specs.Str.Parse.{digits_value, ParsesUnsigned}
use Rattle.std.proofs.lemmas.Str.Parse.{numerals_by_value, tells_all_ascii_digits, IsNumeralModel, parse_gives, digits_value_short}
use Rattle.zeb_program.specs.Numbers.{is_number, number_of}

all_digits : (text : List ℕ) → list_all is_ascii_digit text ≡ all_ascii_digits text
all_digits [] = refl
all_digits (c ∷ cs) = ap (λ b. is_ascii_digit c && b) (all_digits cs)

own : IsNumeralModel (λ ds. all_ascii_digits ds ≡ true) (digits_value 10)
own = numerals_by_value _ tells_all_ascii_digits

parts : (text : List ℕ) → is_number text ≡ true → (0 < length text) × (length text ≤ 9) × (all_ascii_digits text ≡ true)
parts text is =
    let p = and_parts (nat_lt 0 (length text)) (nat_le (length text) 9 && list_all is_ascii_digit text) is in
    let q = and_parts (nat_le (length text) 9) (list_all is_ascii_digit text) p.1 in
    let some : nat_lt 0 (length text) ≡ true = p.0 in
    let few : nat_le (length text) 9 ≡ true = q.0 in
    (grind (arith, nat_tests), grind (arith, nat_tests), sym (all_digits text) ∙ q.1)

pub parsed : {E : Type 0} (text : List ℕ) (r : Result ℕ E) → is_number text ≡ true → ParsesUnsigned 32 10 text r → r ≡ Ok (digits_value 10 text)
parsed text r is h =
    let p = parts text is in
    let b : digits_value 10 text < 10 ^ 9 = digits_value_short own text 9 p.2 p.1 in
    parse_gives own 32 text r h p.2 p.0 (omega arith)

pub number_is : (text : List ℕ) → is_number text ≡ true → Some (digits_value 10 text) ≡ number_of text
number_is text is = rw is refl
