-- The runs of ASCII characters in a text are those in its bytes.
use Rattle.zeb_text.proofs.Cited.{◌≡◌, ℕ, ◌<◌, Bool, true, false, List, [], ◌∷◌, ◌++◌, length, get_or, map, All, encode_utf8, encode_utf8_all, chars, IsUtf8, filter, nat_le, inl, inr, refl, sym, ap, ◌∙◌, arith, is_ascii_digit, AllPass, digits_value, false_from_ne_true, false≢true, cases_Bool, nat_tests, append_assoc, append-nil, get_or_append_left, inside_one, length-encode, len_utf8_bounds, encode_ascii, encodes-chars, All-nil, All-push, numbers_of}
use Rattle.zeb_text.specs.Words.{runs_of}
use Rattle.zeb_text.specs.Numbers.{numerals_of}
use Rattle.zeb_text.proofs.RunLemmas.{All-from_places, runs_of-other, runs_of-gap, runs_of-run, front_run}

module _ (p : ℕ → Bool) (ascii : (c : ℕ) → p c ≡ true → c < 128) where
  -- no byte of another character passes
  other_bytes : (c : ℕ) → p c ≡ false → All (λ b. p b ≡ false) (encode_utf8 c)
  other_bytes c h =
      All-from_places (λ b. p b ≡ false) (encode_utf8 c)
      (λ k lt. let b = get_or (encode_utf8 c) k 0 in
      false_from_ne_true (p b) (λ passes. let same = inside_one c [] (encode_utf8 c) k (sym (append-nil (encode_utf8 c))) lt (ascii b passes) in
      false≢true (sym h ∙ ap p same ∙ passes)))

  some_byte : (c : ℕ) → 0 < length (encode_utf8 c)
  some_byte c = omega (arith, length-encode c, (len_utf8_bounds c).0)

  first_byte : (c : ℕ) (rest : List ℕ) → p c ≡ false → p (get_or (encode_utf8 c ++ rest) 0 0) ≡ false
  first_byte c rest h =
      let some = some_byte c in
      rw (get_or_append_left (encode_utf8 c) rest 0 0 some) (other_bytes c h 0 0 some)

  -- another character after the run w
  at_other : (w : List ℕ) (c : ℕ) (bytes cs : List ℕ) → AllPass p w → p c ≡ false → runs_of p bytes ≡ runs_of p cs → runs_of p (w ++ (encode_utf8 c ++ bytes)) ≡ runs_of p (w ++ c ∷ cs)
  at_other [] c bytes cs all fails same = runs_of-gap p (encode_utf8 c) bytes (other_bytes c fails) ∙ same ∙ sym (runs_of-other p c cs fails)
  at_other (x ∷ xs) c bytes cs all fails same =
      front_run p (x ∷ xs) (encode_utf8 c ++ bytes) (omega arith) all (λ _. first_byte c bytes fails)
      ∙ ap (λ runs. (x ∷ xs) ∷ runs) (runs_of-gap p (encode_utf8 c) bytes (other_bytes c fails) ∙ same)
      ∙ sym (runs_of-run p x xs c cs all fails)

  runs_of-encodes : (w cs : List ℕ) → AllPass p w → runs_of p (w ++ encode_utf8_all cs) ≡ runs_of p (w ++ cs)
  runs_of-encodes w [] all = refl
  runs_of-encodes w (c ∷ cs) all =
      let grown : p c ≡ true → runs_of p (w ++ encode_utf8_all (c ∷ cs)) ≡ runs_of p (w ++ c ∷ cs) = λ passes.
      ap (λ bytes. runs_of p (w ++ (bytes ++ encode_utf8_all cs))) (encode_ascii c (ascii c passes))
      ∙ ap (runs_of p) (sym (append_assoc w (c ∷ []) (encode_utf8_all cs)))
      ∙ runs_of-encodes (w ++ c ∷ []) cs (All-push (λ d. p d ≡ true) w c all passes)
      ∙ ap (runs_of p) (append_assoc w (c ∷ []) cs) in
      elim (cases_Bool (p c)) [
        | inl passes ↦ grown passes
        | inr fails ↦ at_other w c (encode_utf8_all cs) cs all fails (runs_of-encodes [] cs (All-nil (λ d. p d ≡ true)))
      ]

digit_ascii : (c : ℕ) → is_ascii_digit c ≡ true → c < 128
digit_ascii c h = grind (arith, nat_tests)

-- the numbers of a text, by its bytes
pub numbers_of-bytes : (bytes : List ℕ) → IsUtf8 bytes → numbers_of bytes ≡ numbers_of (chars bytes)
unfolding numerals_of
numbers_of-bytes bytes utf8 =
    ap (λ runs. map (digits_value 10) (filter (λ digits. nat_le (length digits) 18) runs))
    (ap (runs_of is_ascii_digit) (sym (encodes-chars bytes utf8)) ∙ runs_of-encodes is_ascii_digit digit_ascii [] (chars bytes) (All-nil (λ d. is_ascii_digit d ≡ true)))
