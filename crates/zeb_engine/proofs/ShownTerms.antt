-- How terms are printed.
use Rattle.zeb_engine.proofs.Cited.{◌≡◌, ◌≢◌, ◌==◌, ◌&&◌, ◌<◌, ◌^◌, ℕ, Bool, true, List, length, ap, inl, inr, refl, is_ascii_digit, decimal, list_all, digits_value, and_parts, and_from, cases_Bool, eqb-true, eq-eqb, number_key, value_of_key, digits_of_key, length_of_key, digits_from_all, all_from_digits, is_key, shown_number}

abbrev is_digits : List ℕ → Bool
is_digits term = length term == 18 && list_all is_ascii_digit term

pub shown_key : (n : ℕ) → n < 10 ^ 18 → shown_number (number_key n) ≡ decimal n
shown_key n small =
    let test : is_digits (number_key n) ≡ true = and_from (length (number_key n) == 18) (list_all is_ascii_digit (number_key n)) (eq-eqb (length (number_key n)) 18 (length_of_key n small)) (all_from_digits (number_key n) (digits_of_key n small)) in
    rw test (ap decimal (value_of_key n small))

pub shown_other : (term : List ℕ) → ((n : ℕ) → n < 10 ^ 18 → term ≢ number_key n) → shown_number term ≡ term
shown_other term none = elim (cases_Bool (is_digits term)) [
  | inl is ↦
      let both = and_parts (length term == 18) (list_all is_ascii_digit term) is in
      let key = is_key term (digits_from_all term both.1) (eqb-true (length term) 18 both.0) in
      absurd (none (digits_value 10 term) key.0 key.1)
  | inr other ↦ rw other refl
]
