-- 64 bits number the units of a record.
use Rattle.zeb_marc.proofs.Cited.{◌≡◌, ℕ, suc, ◌-◌, ◌<◌, ◌≤◌, ◌^◌, true, leb, None, List, [], ◌∷◌, ◌++◌, length, take, drop, refl, sym, ap, subst, length-take, length-drop, arith, AllByRecursion, flat_map, list_all, is_ascii_digit, digit_value, AllDigits, leb-true, nat_tests, digits_value-lt, LengthDigits, LengthRange, Truncated, check, record_length, base_address, announced_checks, slice_checks, layout_checks, leader_checks, FieldText, fields_in, directory_checks, directory_of, data_area, IsRecord, Content, contents_of, numbered_from}
use Rattle.zeb_marc.specs.Leader.{are_digits, number_of}
use Rattle.zeb_marc.specs.Records.{first_fault, fields_of}
use Rattle.zeb_marc.specs.Contents.{units_of}
use Rattle.zeb_marc.proofs.Entries.{first_failing-append_none, first_failing-cons, both_true}
use Rattle.zeb_marc.proofs.Pieces.{units_fit}

pub all-append : {X : Type 0} (P : X → Type 0) (xs ys : List X) → AllByRecursion P xs → AllByRecursion P ys → AllByRecursion P (xs ++ ys)
all-append P [] ys h k = k
all-append P (x ∷ xs) ys h k = (h.0, all-append P xs ys h.1 k)

digit_below : (c : ℕ) → is_ascii_digit c ≡ true → digit_value c < 10
digit_below c e = grind (arith, nat_tests)

all_digits : (digits : List ℕ) → list_all is_ascii_digit digits ≡ true → AllDigits 10 digits
all_digits [] e = tt
all_digits (c ∷ digits) e = let both = both_true (is_ascii_digit c) (list_all is_ascii_digit digits) e in (digit_below c both.0, all_digits digits both.1)

pub number_of-below : (digits : List ℕ) → are_digits digits ≡ true → number_of digits < 10 ^ length digits
unfolding are_digits number_of
number_of-below digits e = digits_value-lt 10 digits (all_digits digits e)

-- a record is no longer than five digits say
record_is_short : (text : List ℕ) → first_fault text ≡ None → length text ≤ 99999
unfolding first_fault
record_is_short text e =
    let leader = (first_failing-append_none (leader_checks text) (directory_checks (data_area text) (directory_of text)) e).0 in
    let parts = first_failing-append_none (slice_checks text) (check (leb (length text) (record_length text)) LengthRange ∷ layout_checks text) leader in
    let whole = first_failing-cons (check (leb (length text) (record_length text)) LengthRange) (layout_checks text) parts.1 in
    let announced = (first_failing-append_none (announced_checks text) (check (leb (record_length text) (length text)) Truncated ∷ []) parts.0).0 in
    let a = first_failing-cons (check (leb 5 (length text)) Truncated) (check (are_digits (take 5 text)) LengthDigits ∷ check (leb 26 (record_length text)) LengthRange ∷ []) announced in
    let b = first_failing-cons (check (are_digits (take 5 text)) LengthDigits) (check (leb 26 (record_length text)) LengthRange ∷ []) a.1 in
    let long : 5 ≤ length text = leb-true _ _ a.0 in
    let five : length (take 5 text) ≡ 5 = omega (arith, length-take 5 text) in
    let below : record_length text < 10 ^ 5 = subst (λ (k : ℕ). record_length text < 10 ^ k) five (number_of-below (take 5 text) b.0) in
    omega (arith, below, leb-true (length text) (record_length text) whole.0)

length-numbered_from : (n : ℕ) (contents : List Content) → length (numbered_from n contents) ≡ length contents
length-numbered_from n [] = refl
length-numbered_from n (c ∷ contents) = ap suc (length-numbered_from (suc n) contents)

pub few_units : (text : List ℕ) (fields : List FieldText) → IsRecord text fields → length (units_of fields) < 2 ^ 64
unfolding fields_of units_of
few_units text fields is =
    let short = record_is_short text is.sound in
    let area : length (data_area text) ≤ 99999 = omega (arith, length-take (length text - 1 - base_address text) (drop (base_address text) text), length-drop (base_address text) text) in
    let directory : length (directory_of text) ≤ 99999 = omega (arith, length-take (base_address text - 1 - 24) (drop 24 text), length-drop 24 text) in
    let fits = units_fit (data_area text) (directory_of text) area directory in
    subst (λ (f : List FieldText). length (numbered_from 1 (flat_map contents_of f)) < 2 ^ 64) (sym is.fields_are)
    (rw (length-numbered_from 1 (flat_map contents_of (fields_in (data_area text) (directory_of text)))) fits)
