-- Reading words one after another.
use Rattle.zeb_profile.proofs.Cited.{◌≡◌, ℕ, ◌+◌, ◌<◌, ◌≤◌, List, [], ◌∷◌, ◌++◌, length, drop, get_or, map, suc, true, false, refl, ◌∙◌, arith, rules, add-one, drop-cons, Result, Ok, Err, Bor, if◌then◌else◌, list_all, list_any, is_ascii_digit, digits_value, ParsesUnsigned, IsNumeralModel, numerals_by_value, parse_gives, digits_value_short, Target, DuplicateTarget, ◌>>=◌, target_of, same_target, targets_after}

-- the texts of ASCII digits, and their values
pub numerals : IsNumeralModel (λ ds. list_all is_ascii_digit ds ≡ true) (digits_value 10)
numerals = numerals_by_value _ (search rules)

-- one to nine digits are a number below 2 ^ 32
pub number_parsed : {E : Type 0} (word : List ℕ) (r : Result ℕ E) → ParsesUnsigned 32 10 word r → list_all is_ascii_digit word ≡ true → 0 < length word → length word ≤ 9 → r ≡ Ok (digits_value 10 word)
number_parsed word r h digits some short = parse_gives numerals 32 word r h digits some (omega (arith, digits_value_short numerals word 9 digits short))

-- the next of the parts between commas
pub targets_after-drop : (left : List Target) (parts : List (Bor (List ℕ))) (i : ℕ) (d : Bor (List ℕ)) → i < length parts
    → targets_after left (map (λ part. part.now) (drop i parts))
    ≡ (target_of (get_or parts i d).now >>= λ target. if list_any (same_target target) left then Err DuplicateTarget else targets_after (left ++ target ∷ []) (map (λ part. part.now) (drop (i + 1) parts)))
targets_after-drop left parts i d h = let e : i + 1 ≡ suc i = add-one i in rw (drop-cons parts i d, e) refl

-- it is among those to its left, or it comes behind them
pub targets_after-again : (left : List Target) (parts : List (Bor (List ℕ))) (i : ℕ) (d : Bor (List ℕ)) (target : Target) → i < length parts
    → target_of (get_or parts i d).now ≡ Ok target → list_any (same_target target) left ≡ true
    → targets_after left (map (λ part. part.now) (drop i parts)) ≡ Err DuplicateTarget
targets_after-again left parts i d target h reads among = targets_after-drop left parts i d h ∙ rw (reads, among) refl

pub targets_after-further : (left : List Target) (parts : List (Bor (List ℕ))) (i : ℕ) (d : Bor (List ℕ)) (target : Target) → i < length parts
    → target_of (get_or parts i d).now ≡ Ok target → list_any (same_target target) left ≡ false
    → targets_after left (map (λ part. part.now) (drop i parts)) ≡ targets_after (left ++ target ∷ []) (map (λ part. part.now) (drop (i + 1) parts))
targets_after-further left parts i d target h reads new = targets_after-drop left parts i d h ∙ rw (reads, new) refl
