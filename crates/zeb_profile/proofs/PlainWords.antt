-- Words of graphic characters, and what lines that are built from them read as.
use Rattle.zeb_profile.proofs.Cited.{◌≡◌, ℕ, ◌+◌, ◌-◌, ◌<◌, ◌≤◌, List, [], ◌∷◌, ◌++◌, length, get_or, drop, take, true, false, arith, refl, ap, ◌∙◌, append_assoc, length-append, nat_lt, All, list_all, filter, position_or_len, slice_split, suffix_len, is_ascii_graphic, and_parts, leb-true, lt-ltb, ne_eqb, or_from, not_from_false, get_or-append_right, take_all, All-get_or, All-weaker, slice_split_at, slice_split_none, AllPass-from_list_all, position_or_len_is, suffix_len_is, is_blank, is_no_blank, trimmed, without_leading_blanks, without_trailing_blanks, words_of}

-- one graphic character or more
pub record IsPlain (word : List ℕ) : Type 0 where
  pub some : 0 < length word
  pub graphic : list_all is_ascii_graphic word ≡ true

pub graphic_range : (b : ℕ) → is_ascii_graphic b ≡ true → (33 ≤ b) × (b ≤ 126)
graphic_range b h = let parts = and_parts _ _ h in (leb-true 33 b parts.0, leb-true b 126 parts.1)

pub graphic_no_blank : (b : ℕ) → is_ascii_graphic b ≡ true → is_blank b ≡ false
graphic_no_blank b h =
    let range : (33 ≤ b) × (b ≤ 126) = graphic_range b h in
    or_from _ _ (ne_eqb b 32 (λ e. absurd (omega (arith, e, range.0)))) (ne_eqb b 9 (λ e. absurd (omega (arith, e, range.0))))

pub plain_no_blanks : (word : List ℕ) → IsPlain word → All (λ b. is_blank b ≡ false) word
plain_no_blanks word h = All-weaker (λ b. is_ascii_graphic b ≡ true) (λ b. is_blank b ≡ false) graphic_no_blank word (AllPass-from_list_all is_ascii_graphic word h.graphic)

-- ---- the words of a line
kept : (word : List ℕ) (words : List (List ℕ)) → 0 < length word → filter (λ w. nat_lt 0 (length w)) (word ∷ words) ≡ word ∷ filter (λ w. nat_lt 0 (length w)) words
kept word words h = rw (lt-ltb 0 (length word) h) refl

pub words_of-plain : (word : List ℕ) → IsPlain word → words_of word ≡ word ∷ []
words_of-plain word h = rw (slice_split_none is_blank word (plain_no_blanks word h)) (kept word [] h.some)

pub words_of-plain_first : (word rest : List ℕ) → IsPlain word → words_of (word ++ 32 ∷ rest) ≡ word ∷ words_of rest
words_of-plain_first word rest h = rw (slice_split_at is_blank word 32 rest (plain_no_blanks word h) refl) (kept word (slice_split is_blank rest) h.some)

pub words_of-two : (keyword word : List ℕ) → IsPlain keyword → IsPlain word → words_of (keyword ++ 32 ∷ word) ≡ keyword ∷ word ∷ []
words_of-two keyword word k h = words_of-plain_first keyword word k ∙ ap (λ words. keyword ∷ words) (words_of-plain word h)

pub words_of-three : (keyword first second : List ℕ) → IsPlain keyword → IsPlain first → IsPlain second → words_of (keyword ++ 32 ∷ ((first ++ 32 ∷ []) ++ second)) ≡ keyword ∷ first ∷ second ∷ []
words_of-three keyword first second k f s =
    let joined : (first ++ 32 ∷ []) ++ second ≡ first ++ 32 ∷ second = append_assoc first (32 ∷ []) second in
    rw joined (words_of-plain_first keyword (first ++ 32 ∷ second) k ∙ ap (λ words. keyword ∷ words) (words_of-two first second f s))

-- ---- the ends of a line
-- a text that begins and ends with a byte that is no blank has no blanks at its ends
pub trimmed-same : (text : List ℕ) → 0 < length text → is_blank (get_or text 0 0) ≡ false → is_blank (get_or text (length text - 1) 0) ≡ false → trimmed text ≡ text
trimmed-same text some first last =
    let front : position_or_len is_no_blank text ≡ 0 = position_or_len_is is_no_blank text 0 0 (omega arith) (λ k h. absurd (omega arith)) (λ h. not_from_false _ first) in
    let back : suffix_len is_blank text ≡ length text - length text = suffix_len_is is_blank text (length text) 0 (omega arith) (λ k low high. absurd (omega arith)) (λ h. last) in
    let whole : without_leading_blanks text ≡ text = ap (λ n. drop n text) front in
    let none : length text - suffix_len is_blank text ≡ length text = omega (arith, back) in
    ap without_trailing_blanks whole ∙ ap (λ n. take n text) none ∙ take_all (length text) text (omega arith)

-- the last byte of a text is that of its last word
pub last_of : (front word : List ℕ) → 0 < length word → get_or (front ++ word) (length (front ++ word) - 1) 0 ≡ get_or word (length word - 1) 0
last_of front word some =
    let e : length (front ++ word) ≡ length front + length word = length-append front word in
    let at : get_or (front ++ word) (length (front ++ word) - 1) 0 ≡ get_or word (length (front ++ word) - 1 - length front) 0 = get_or-append_right front word (length front) (length (front ++ word) - 1) 0 refl (omega (arith, e)) in
    let n : length (front ++ word) - 1 - length front ≡ length word - 1 = omega (arith, e) in
    at ∙ ap (λ i. get_or word i 0) n

pub last_no_blank : (front word : List ℕ) → IsPlain word → is_blank (get_or (front ++ word) (length (front ++ word) - 1) 0) ≡ false
last_no_blank front word h =
    let within : length word - 1 < length word = omega (arith, h.some) in
    ap is_blank (last_of front word h.some) ∙ All-get_or (λ b. is_blank b ≡ false) word (length word - 1) 0 within (plain_no_blanks word h)

pub trimmed-line : (first : ℕ) (front word : List ℕ) → is_blank first ≡ false → IsPlain word → trimmed (first ∷ front ++ word) ≡ first ∷ front ++ word
trimmed-line first front word f h = trimmed-same (first ∷ front ++ word) (omega arith) f (last_no_blank (first ∷ front) word h)
