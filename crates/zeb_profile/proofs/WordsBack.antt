-- What a word was read as, written and read again.
use Rattle.zeb_profile.proofs.Cited.{◌≡◌, ℕ, ◌==◌, codes, subst, inl, inr, ◌<◌, ◌≤◌, ◌^◌, List, [], ◌∷◌, ◌++◌, length, Bool, true, ◌&&◌, ◌||◌, Some, None, Ok, arith, refl, ap, ◌∙◌, list_all, is_ascii_alphabetic, is_ascii_alphanumeric, is_ascii_digit, is_ascii_graphic, is_in_range, decimal, encode_utf8_all, digits_value, and_from, and_parts, cases_Bool, eqb-true, le-leb, leb-true, lt-ltb, ltb-true, or_cases, decimal_nonempty, digits_decimal, digits_value-decimal, length-decimal-le, All-weaker, AllPass-from_list_all, list_all-from_AllPass, encode_ascii, digits_value_short, UnitPattern, pattern_text, is_name, is_name_byte, has_tag_bytes, is_use_number, name_of, number_of, pattern_of}
use Rattle.zeb_profile.proofs.PlainWords.{IsPlain, graphic_range}
use Rattle.zeb_profile.proofs.WordReads.{numerals}

-- ---- classes of bytes
range_within : (lo hi b : ℕ) → 33 ≤ lo → hi ≤ 126 → is_in_range lo hi b ≡ true → is_ascii_graphic b ≡ true
range_within lo hi b low high h =
    let parts = and_parts _ _ h in
    let above : lo ≤ b = leb-true lo b parts.0 in
    let below : b ≤ hi = leb-true b hi parts.1 in
    and_from _ _ (le-leb 33 b (omega (arith, above, low))) (le-leb b 126 (omega (arith, below, high)))

alphanumeric_graphic : (b : ℕ) → is_ascii_alphanumeric b ≡ true → is_ascii_graphic b ≡ true
alphanumeric_graphic b h =
    elim (or_cases (is_in_range 48 57 b || is_in_range 65 90 b) (is_in_range 97 122 b) h) [
      | inl front ↦ elim (or_cases (is_in_range 48 57 b) (is_in_range 65 90 b) front) [
        | inl digit ↦ range_within 48 57 b (omega arith) (omega arith) digit
        | inr upper ↦ range_within 65 90 b (omega arith) (omega arith) upper
      ]
      | inr lower ↦ range_within 97 122 b (omega arith) (omega arith) lower
    ]

digit_graphic : (b : ℕ) → is_ascii_digit b ≡ true → is_ascii_graphic b ≡ true
digit_graphic b h = range_within 48 57 b (omega arith) (omega arith) h

pub name_byte_graphic : (b : ℕ) → is_name_byte b ≡ true → is_ascii_graphic b ≡ true
name_byte_graphic b h =
    elim (or_cases (is_ascii_alphanumeric b) _ h) [
      | inl e ↦ alphanumeric_graphic b e
      | inr e ↦ elim (or_cases _ _ e) [
        | inl hyphen ↦ rw (eqb-true b 45 hyphen) refl
        | inr underscore ↦ rw (eqb-true b 95 underscore) refl
      ]
    ]

alphabetic_name_byte : (b : ℕ) → is_ascii_alphabetic b ≡ true → is_name_byte b ≡ true
alphabetic_name_byte b h =
    elim (or_cases (is_in_range 65 90 b) (is_in_range 97 122 b) h) [
      | inl e ↦ grind (arith, e)
      | inr e ↦ grind (arith, e)
    ]

pub all_weaker : (p q : ℕ → Bool) → ((b : ℕ) → p b ≡ true → q b ≡ true) → (word : List ℕ) → list_all p word ≡ true → list_all q word ≡ true
all_weaker p q weaker word h = list_all-from_AllPass q word (All-weaker (λ b. p b ≡ true) (λ b. q b ≡ true) weaker word (AllPass-from_list_all p word h))

-- ---- PATTERN
tag_graphic : (a b c : ℕ) → has_tag_bytes (a ∷ b ∷ c ∷ []) ≡ true → list_all is_ascii_graphic (a ∷ b ∷ c ∷ []) ≡ true
tag_graphic a b c h = all_weaker is_ascii_alphanumeric is_ascii_graphic alphanumeric_graphic (a ∷ b ∷ c ∷ []) h

encoded : (b : ℕ) (rest : List ℕ) → is_ascii_graphic b ≡ true → encode_utf8_all (b ∷ rest) ≡ b ∷ encode_utf8_all rest
encoded b rest h =
    let range = graphic_range b h in
    let small : b < 128 = omega (arith, range.1) in
    rw (encode_ascii b small) refl

encoded_tag : (a b c : ℕ) → list_all is_ascii_graphic (a ∷ b ∷ c ∷ []) ≡ true → encode_utf8_all (a ∷ b ∷ c ∷ []) ≡ a ∷ b ∷ c ∷ []
encoded_tag a b c h =
    let first = and_parts (is_ascii_graphic a) _ h in
    let second = and_parts (is_ascii_graphic b) _ first.1 in
    let third = and_parts (is_ascii_graphic c) _ second.1 in
    encoded a (b ∷ c ∷ []) first.0 ∙ ap (λ rest. a ∷ rest) (encoded b (c ∷ []) second.0) ∙ ap (λ rest. a ∷ b ∷ rest) (encoded c [] third.0)

coded_graphic : (a b c sign code : ℕ) → list_all is_ascii_graphic (a ∷ b ∷ c ∷ []) ≡ true → sign ≡ 36 → is_ascii_graphic code ≡ true
    → list_all is_ascii_graphic (a ∷ b ∷ c ∷ sign ∷ code ∷ []) ≡ true
coded_graphic a b c sign code tag dollar coded =
    let first = and_parts (is_ascii_graphic a) _ tag in
    let second = and_parts (is_ascii_graphic b) _ first.1 in
    let third = and_parts (is_ascii_graphic c) _ second.1 in
    rw (first.0, second.0, third.0, dollar, coded) refl

-- the patterns of a tag alone, and of a tag and a code
back_alone : (a b c : ℕ) (pattern : UnitPattern) → pattern_of (a ∷ b ∷ c ∷ []) ≡ Ok pattern → (pattern_text pattern ≡ a ∷ b ∷ c ∷ []) × IsPlain (a ∷ b ∷ c ∷ [])
back_alone a b c pattern h =
    elim (cases_Bool (has_tag_bytes (a ∷ b ∷ c ∷ []))) [
      | inl e ↦
          let graphic = tag_graphic a b c e in
          let is = rw e at h in
          let same : record { tag = a ∷ b ∷ c ∷ []; code = None } ≡ pattern = cc in
          (rw (← same) (ap (λ tag. tag ++ []) (encoded_tag a b c graphic)), record { some = omega arith; graphic = graphic })
      | inr e ↦ let bad = rw e at h in absurd (cc)
    ]

back_coded : (a b c sign code : ℕ) (pattern : UnitPattern) → pattern_of (a ∷ b ∷ c ∷ sign ∷ code ∷ []) ≡ Ok pattern
    → (pattern_text pattern ≡ a ∷ b ∷ c ∷ sign ∷ code ∷ []) × IsPlain (a ∷ b ∷ c ∷ sign ∷ code ∷ [])
back_coded a b c sign code pattern h =
    elim (cases_Bool (has_tag_bytes (a ∷ b ∷ c ∷ []) && ((sign == 36) && is_ascii_graphic code))) [
      | inl e ↦
          let both = and_parts (has_tag_bytes (a ∷ b ∷ c ∷ [])) _ e in
          let behind = and_parts (sign == 36) _ both.1 in
          let dollar : sign ≡ 36 = eqb-true sign 36 behind.0 in
          let graphic = tag_graphic a b c both.0 in
          let is = rw e at h in
          let same : record { tag = a ∷ b ∷ c ∷ []; code = Some code } ≡ pattern = cc in
          let written : encode_utf8_all (a ∷ b ∷ c ∷ []) ++ (codes "$" ++ encode_utf8_all (code ∷ [])) ≡ a ∷ b ∷ c ∷ sign ∷ code ∷ [] =
          rw (encoded_tag a b c graphic, encoded code [] behind.1, dollar) refl in
          (rw (← same) written, record { some = omega arith; graphic = coded_graphic a b c sign code graphic dollar behind.1 })
      | inr e ↦ let bad = rw e at h in absurd (cc)
    ]

-- the text of a pattern is the word that it was read from
pub pattern_back : (word : List ℕ) (pattern : UnitPattern) → pattern_of word ≡ Ok pattern → (pattern_text pattern ≡ word) × IsPlain word
pattern_back [] pattern h = absurd (cc)
pattern_back (a ∷ []) pattern h = absurd (cc)
pattern_back (a ∷ b ∷ []) pattern h = absurd (cc)
pattern_back (a ∷ b ∷ c ∷ []) pattern h = back_alone a b c pattern h
pattern_back (a ∷ b ∷ c ∷ d ∷ []) pattern h = absurd (cc)
pattern_back (a ∷ b ∷ c ∷ sign ∷ code ∷ []) pattern h = back_coded a b c sign code pattern h
pattern_back (a ∷ b ∷ c ∷ d ∷ e ∷ f ∷ rest) pattern h = absurd (cc)

-- ---- NUMBER
value_back : (word : List ℕ) → is_use_number word ≡ true → (number_of (decimal (digits_value 10 word)) ≡ Ok (digits_value 10 word)) × IsPlain (decimal (digits_value 10 word))
value_back word h =
    let n : ℕ = digits_value 10 word in
    let above = and_parts _ _ h in
    let short = and_parts _ _ above.0 in
    let some = and_parts (list_all is_ascii_digit word) _ short.0 in
    let positive : 0 < n = ltb-true 0 n above.1 in
    let bounded : n < 10 ^ 9 = digits_value_short numerals word 9 some.0 (leb-true (length word) 9 short.1) in
    let fits : n < 2 ^ 64 = omega (arith, bounded) in
    let digits : list_all is_ascii_digit (decimal n) ≡ true = digits_decimal numerals n fits in
    let value : digits_value 10 (decimal n) ≡ n = digits_value-decimal numerals n fits in
    let filled : 0 < length (decimal n) = decimal_nonempty n fits in
    let few : length (decimal n) ≤ 9 = length-decimal-le 9 n (omega arith) bounded fits in
    let is_number : is_use_number (decimal n) ≡ true =
    rw (digits, lt-ltb 0 (length (decimal n)) filled, le-leb (length (decimal n)) 9 few, value, lt-ltb 0 n positive) refl in
    (rw (is_number, value) refl, record { some = filled; graphic = all_weaker is_ascii_digit is_ascii_graphic digit_graphic (decimal n) digits })

-- a number that was read, written without leading zeros, is read again
pub number_back : (word : List ℕ) (number : ℕ) → number_of word ≡ Ok number → (number_of (decimal number) ≡ Ok number) × IsPlain (decimal number)
number_back word number h =
    elim (cases_Bool (is_use_number word)) [
      | inl e ↦
          let is = rw e at h in
          let same : digits_value 10 word ≡ number = cc in
          subst (λ (n : ℕ). (number_of (decimal n) ≡ Ok n) × IsPlain (decimal n)) same (value_back word e)
      | inr e ↦ let bad = rw e at h in absurd (cc)
    ]

-- ---- NAME
pub name_plain : (name : List ℕ) → is_name name ≡ true → list_all is_name_byte name ≡ true
name_plain [] h = refl
name_plain (first ∷ others) h =
    let both = and_parts _ _ h in
    let bytes = and_parts (is_ascii_alphabetic first) _ both.0 in
    and_from _ _ (alphabetic_name_byte first bytes.0) bytes.1

pub name_word : (name : List ℕ) → is_name name ≡ true → IsPlain name
name_word [] h = absurd (cc)
name_word (first ∷ others) h = record {
  some = omega arith;
  graphic = all_weaker is_name_byte is_ascii_graphic name_byte_graphic (first ∷ others) (name_plain (first ∷ others) h);
}

pub name_back : (word name : List ℕ) → name_of word ≡ Ok name → (name ≡ word) × (is_name name ≡ true)
name_back word name h =
    elim (cases_Bool (is_name word)) [
      | inl e ↦
          let is = rw e at h in
          let same : name ≡ word = cc in
          (same, rw same e)
      | inr e ↦ let bad = rw e at h in absurd (cc)
    ]
