use Rattle.zeb_text.proofs.Cited.{◌≡◌, ◌<◌, ◌^◌, length, Ok, sym, ap, ◌∙◌, arith, rules, tests, is_ascii_digit, list_all, AllDigits, digits_value, false≢true, YieldsList-from_bytes, all_from_yields_List, numerals_by_value, tells_digits, parse_gives}
use Rattle.zeb_text.specs.Numbers.{number_key}
use Rattle.zeb_text.proofs.KeyLemmas.{all_from_digits, digits_from_all, digits_of_key, length_of_key, is_key}
use Rattle.zeb_text.proofs.numerals.number_of_key.Goals as goal
use Rattle.zeb_text.proofs.numerals.number_of_key.Goals.{After-parse, then-key-ne-KEY_DIGITS-via-then-key-ne-KEY_DIGITS, then-key-ne-KEY_DIGITS-via-else-key-ne-KEY_DIGITS+then-not-all}

pub returns-then-key-ne-KEY_DIGITS-clause-none : goal.returns-then-key-ne-KEY_DIGITS-clause-none
returns-then-key-ne-KEY_DIGITS-clause-none c =
    λ n small e. elim c.then-key-ne-KEY_DIGITS.branch [
      | then-key-ne-KEY_DIGITS-via-then-key-ne-KEY_DIGITS w ↦ w.if-key-ne-KEY_DIGITS.true (ap length e ∙ length_of_key n small)
      | then-key-ne-KEY_DIGITS-via-else-key-ne-KEY_DIGITS+then-not-all w ↦
          let all = all_from_yields_List is_ascii_digit _ _ _ w.all.ensures.ran (YieldsList-from_bytes c.args.key.now cc) (λ x b q k. search (rules, tests)) in
          let digits = ap (list_all is_ascii_digit) e ∙ all_from_digits (number_key n) (digits_of_key n small) in
          false≢true (sym w.if-not-all.true ∙ all ∙ digits)
    ]

-- what is read is the value of the digits
parsed : (c : After-parse) → (c.parse.result ≡ Ok (digits_value 10 c.args.key.now)) × (digits_value 10 c.args.key.now < 10 ^ 18) × (c.args.key.now ≡ number_key (digits_value 10 c.args.key.now))
parsed c =
    let key = c.args.key.now in
    let all = all_from_yields_List is_ascii_digit _ _ _ c.all.ensures.ran (YieldsList-from_bytes key cc) (λ x b q k. search (rules, tests)) in
    let digits = digits_from_all key (sym all ∙ c.if-not-all.false) in
    let long : length key ≡ 18 = omega arith in
    let is = is_key key digits long in
    (parse_gives (numerals_by_value (AllDigits 10) tells_digits) 64 key c.parse.result c.parse.ensures.value.0 digits (omega arith) (omega (arith, is.0)), is.0, is.1)

pub returns-clause-found : goal.returns-clause-found
returns-clause-found c =
    let is = parsed (goal.at.returns-clause-found c).After-parse in
    rw (c.ok.ensures.value, is.0) (is.1, is.2)

pub returns-clause-none : goal.returns-clause-none
returns-clause-none c =
    let is = parsed (goal.at.returns-clause-none c).After-parse in
    rw (c.ok.ensures.value, is.0) tt
