-- Numbers that texts say, and what the parser makes of them.
use Rattle.zeb_words.proofs.Cited.{◌≡◌, ◌∙◌, ◌==◌, ◌<◌, ◌^◌, ℕ, Bool, refl, sym, ap, subst, [], ◌∷◌, Option, Some, None, true, false, cond, drop, arith, pos, unwrap_or, IsNumeral, digits_value, starts_with_minus, without_leading_plus, ne_eqb, ints, digit_from_value, without_minus, IsSignedIn, SaysNumber, IsNumberRead}
use Rattle.zeb_words.specs.Grammar.{Text}

minus_off : (t : Text) → without_minus t ≡ cond (starts_with_minus t) (drop 1 t) t
minus_off [] = refl
minus_off (x ∷ xs) = go (x == 45)
  where
    go : (b : Bool) → unwrap_or (cond b (Some xs) None) (x ∷ xs) ≡ cond b xs (x ∷ xs)
    go true = refl
    go false = refl

no_plus : (ds : Text) → IsNumeral 10 ds → without_leading_plus ds ≡ ds
no_plus [] h = refl
no_plus (d ∷ ds) h =
    let plus : (d == 43) ≡ false = ne_eqb _ _ (λ e. omega (arith, digit_from_value d h.1.0)) in
    ap (λ (b : Bool). drop (cond b 1 0) (d ∷ ds)) plus

-- what passed is read as the number that it says
pub passed_says : (least most other n : ℕ) (t : Text) → most < 2 ^ 32 → IsSignedIn (pos least) (pos most) t → IsNumberRead (Some (without_minus t)) other n
    → SaysNumber least most t n
passed_says least most other n t fits passed read = by (starts_with_minus t) refl
  where
    told : IsNumeral 10 (without_leading_plus (without_minus t)) → digits_value 10 (without_leading_plus (without_minus t)) < 2 ^ 32
        → n ≡ digits_value 10 (without_leading_plus (without_minus t))
    told = read.value (without_minus t) refl

    by : (b : Bool) → starts_with_minus t ≡ b → SaysNumber least most t n
    by true minus =
        let low = rw minus at passed.2 in
        let numeral : IsNumeral 10 (drop 1 t) = rw minus at passed.0 in
        let bare : without_minus t ≡ drop 1 t = minus_off t ∙ ap (λ b. cond b (drop 1 t) t) minus in
        let same : without_leading_plus (without_minus t) ≡ drop 1 t = ap without_leading_plus bare ∙ no_plus (drop 1 t) numeral in
        let zero : digits_value 10 (drop 1 t) ≡ 0 = omega (arith, ints) in
        let is : n ≡ digits_value 10 (drop 1 t) =
        subst (λ u. IsNumeral 10 u → digits_value 10 u < 2 ^ 32 → n ≡ digits_value 10 u) same told numeral (omega arith) in
        record { digits = passed.0; value = rw (minus, is, zero) refl; at_least = omega (arith, ints); at_most = omega arith }
    by false minus =
        let low = rw minus at passed.2 in
        let high = rw minus at passed.3 in
        let numeral : IsNumeral 10 (without_leading_plus t) = rw minus at passed.0 in
        let bare : without_minus t ≡ t = minus_off t ∙ ap (λ b. cond b (drop 1 t) t) minus in
        let same : without_leading_plus (without_minus t) ≡ without_leading_plus t = ap without_leading_plus bare in
        let is : n ≡ digits_value 10 (without_leading_plus t) =
        subst (λ u. IsNumeral 10 u → digits_value 10 u < 2 ^ 32 → n ≡ digits_value 10 u) same told numeral (omega (arith, ints)) in
        record { digits = passed.0; value = rw (minus, is) refl; at_least = omega (arith, ints); at_most = omega (arith, ints) }

-- a text that says a number of the range passes, and is read as it
pub says_passes : (least most n : ℕ) (t : Text) → most < 2 ^ 32 → SaysNumber least most t n → IsSignedIn (pos least) (pos most) t
says_passes least most n t fits says =
    let small : n < 2 ^ 32 = omega (arith, says.at_most) in
    let low = says.at_least in
    let high = says.at_most in
    (says.digits, rw says.value (omega (arith, ints)), rw says.value (omega (arith, ints)), rw says.value (omega (arith, ints)))

value_read : (least most n : ℕ) (t : Text) → SaysNumber least most t n → n ≡ digits_value 10 (without_leading_plus (without_minus t))
value_read least most n t says = by (starts_with_minus t) refl
  where
    by : (b : Bool) → starts_with_minus t ≡ b → n ≡ digits_value 10 (without_leading_plus (without_minus t))
    by true minus =
        let numeral : IsNumeral 10 (drop 1 t) = rw minus at says.digits in
        let value = rw minus at says.value in
        let bare : without_minus t ≡ drop 1 t = minus_off t ∙ ap (λ b. cond b (drop 1 t) t) minus in
        let same : without_leading_plus (without_minus t) ≡ drop 1 t = ap without_leading_plus bare ∙ no_plus (drop 1 t) numeral in
        let is : n ≡ digits_value 10 (drop 1 t) = omega (arith, ints) in
        is ∙ sym (ap (digits_value 10) same)
    by false minus =
        let value = rw minus at says.value in
        let bare : without_minus t ≡ t = minus_off t ∙ ap (λ b. cond b (drop 1 t) t) minus in
        let is : n ≡ digits_value 10 (without_leading_plus t) = omega (arith, ints) in
        is ∙ sym (ap (λ u. digits_value 10 (without_leading_plus u)) bare)

pub says_read : (least most other n : ℕ) (t : Text) → SaysNumber least most t n → IsNumberRead (Some (without_minus t)) other n
says_read least most other n t says = record {
  absent = λ e. let bad : Some (without_minus t) ≡ None = e in cc;
  value = λ u e numeral fits. value_read least most n t says ∙ ap (λ u. digits_value 10 (without_leading_plus u)) (unwrapped u e);
}
  where
    unwrapped : (u : Text) → ◌≡◌ {A = Option Text} (Some (without_minus t)) (Some u) → without_minus t ≡ u
    unwrapped u e = cc
