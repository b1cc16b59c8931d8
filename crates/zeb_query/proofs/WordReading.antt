-- Words that stand in a text one after another are those that are read.
use Rattle.zeb_query.proofs.Cited.{◌≡◌, ◌≢◌, ℕ, ◌+◌, ◌<◌, Bool, true, false, List, [], ◌∷◌, ◌++◌, ◌⊎◌, length, get_or, eqb, encode_utf8, encode_utf8_all, inl, inr, refl, sym, ap, ◌∙◌, arith, append_assoc, length-append, map, not, ◌||◌, len_utf8, AllPass, flat_map, NonePass, ne_eqb, append-nil, All-head, All-tail, length-encode, encode_ascii, encodes-append, char_from_byte, Spelling, Plain, Quoted, Bad, Word, is_blank, Sign, Itself, Escaped, sign_text, meant, is_sign, IsCutOff, IsWritten, is_plain, is_braced, is_quoted, is_open, Begun, unquoted, words_at, in_word, in_quotes, plain_word, quoted_word, with_front}

-- the words of a text that stands after the front, one word after another
abbrev pub AreWordsAfter : List ℕ → List ℕ → List Word → Type 0
AreWordsAfter front text [] = AllPass is_blank text
AreWordsAfter front text (word ∷ words) = (blanks written rest : List ℕ) × (text ≡ blanks ++ (written ++ rest))
    × AllPass is_blank blanks × (word.place ≡ length (encode_utf8_all (front ++ blanks)))
    × IsWritten written rest word.spelling word.text × AreWordsAfter (front ++ (blanks ++ written)) rest words

-- how many bytes characters take
abbrev pub bytes : List ℕ → ℕ
bytes cs = length (encode_utf8_all cs)

bytes-cons : (c : ℕ) (cs : List ℕ) → bytes (c ∷ cs) ≡ len_utf8 c + bytes cs
bytes-cons c cs = length-append (encode_utf8 c) (encode_utf8_all cs) ∙ ap (λ n. n + bytes cs) (length-encode c)

-- ---- one character further

words_at-blank : (at c : ℕ) (cs : List ℕ) → is_blank c ≡ true → words_at at (c ∷ cs) ≡ words_at (at + len_utf8 c) cs
words_at-blank at c cs blank = rw blank refl

words_at-quote : (at : ℕ) (cs : List ℕ) → words_at at (34 ∷ cs) ≡ quoted_word at (in_quotes (at + len_utf8 34) cs)
words_at-quote at cs = refl

words_at-other : (at c : ℕ) (cs : List ℕ) → is_blank c ≡ false → c ≢ 34 → words_at at (c ∷ cs) ≡ plain_word at (with_front (encode_utf8 c) (in_word (at + len_utf8 c) cs))
words_at-other at c cs solid other = rw (solid, ne_eqb c 34 other) refl

in_word-blank : (at c : ℕ) (cs : List ℕ) → is_blank c ≡ true → in_word at (c ∷ cs) ≡ record { text = []; ended = false; words = words_at (at + len_utf8 c) cs }
in_word-blank at c cs blank = rw blank refl

in_word-other : (at c : ℕ) (cs : List ℕ) → is_blank c ≡ false → in_word at (c ∷ cs) ≡ with_front (encode_utf8 c) (in_word (at + len_utf8 c) cs)
in_word-other at c cs solid = rw solid refl

in_quotes-other : (at c : ℕ) (cs : List ℕ) → (eqb c 34 || eqb c 92) ≡ false → in_quotes at (c ∷ cs) ≡ with_front (encode_utf8 c) (in_quotes (at + len_utf8 c) cs)
in_quotes-other at c cs other = let p = or_parts (eqb c 34) (eqb c 92) other in rw (p.0, p.1) refl
  where
    or_parts : (a b : Bool) → (a || b) ≡ false → (a ≡ false) × (b ≡ false)
    or_parts true b e = absurd (cc)
    or_parts false b e = (refl, e)

in_quotes-escape : (at c : ℕ) (cs : List ℕ) → in_quotes at (92 ∷ c ∷ cs) ≡ with_front (encode_utf8 c) (in_quotes ((at + len_utf8 92) + len_utf8 c) cs)
in_quotes-escape at c cs = refl

-- ---- from what stands in the text to what is read

past_blanks : (blanks rest : List ℕ) (at : ℕ) → AllPass is_blank blanks → words_at at (blanks ++ rest) ≡ words_at (at + bytes blanks) rest
past_blanks [] rest at all = ap (λ n. words_at n rest) (omega arith)
past_blanks (c ∷ cs) rest at all =
    words_at-blank at c (cs ++ rest) (All-head (λ d. is_blank d ≡ true) c cs all)
    ∙ past_blanks cs rest (at + len_utf8 c) (All-tail (λ d. is_blank d ≡ true) c cs all)
    ∙ ap (λ n. words_at n rest) (omega (arith, bytes-cons c cs))

past_word : (cs rest : List ℕ) (at : ℕ) → NonePass is_blank cs → IsCutOff rest → in_word at (cs ++ rest) ≡ record { text = encode_utf8_all cs; ended = false; words = words_at (at + bytes cs) rest }
past_word [] [] at none cut = refl
past_word [] (d ∷ ds) at none cut =
    in_word-blank at d ds cut
    ∙ ap (λ ws. record { text = []; ended = false; words = ws })
    (sym (words_at-blank (at + 0) d ds cut ∙ ap (λ n. words_at (n + len_utf8 d) ds) (omega arith)))
past_word (c ∷ cs) rest at none cut =
    in_word-other at c (cs ++ rest) none.0
    ∙ ap (with_front (encode_utf8 c)) (past_word cs rest (at + len_utf8 c) none.1 cut)
    ∙ ap (λ n. record { text = encode_utf8_all (c ∷ cs); ended = false; words = words_at n rest }) (omega (arith, bytes-cons c cs))

with_fronts : (front more : List ℕ) (word : Begun) → with_front front (with_front more word) ≡ with_front (front ++ more) word
with_fronts front more word = ap (λ text. record word { text = text }) (sym (append_assoc front more word.text))

past_signs : (signs : List Sign) (rest : List ℕ) (at : ℕ) → AllPass is_sign signs → in_quotes at (flat_map sign_text signs ++ rest) ≡ with_front (encode_utf8_all (map meant signs)) (in_quotes (at + bytes (flat_map sign_text signs)) rest)
past_signs [] rest at all = ap (λ n. in_quotes n rest) (omega arith)
past_signs (Itself c ∷ signs) rest at all =
    let more = flat_map sign_text signs in
    in_quotes-other at c (more ++ rest) (plain (All-head (λ s. is_sign s ≡ true) (Itself c) signs all))
    ∙ ap (with_front (encode_utf8 c)) (past_signs signs rest (at + len_utf8 c) (All-tail (λ s. is_sign s ≡ true) (Itself c) signs all))
    ∙ with_fronts (encode_utf8 c) (encode_utf8_all (map meant signs)) (in_quotes ((at + len_utf8 c) + bytes more) rest)
    ∙ ap (λ n. with_front (encode_utf8_all (c ∷ map meant signs)) (in_quotes n rest)) (omega (arith, bytes-cons c more))
  where
    not_true : (b : Bool) → not b ≡ true → b ≡ false
    not_true true e = cc
    not_true false e = refl

    plain : not (eqb c 34 || eqb c 92) ≡ true → (eqb c 34 || eqb c 92) ≡ false
    plain e = not_true (eqb c 34 || eqb c 92) e
past_signs (Escaped c ∷ signs) rest at all =
    let more = flat_map sign_text signs in
    in_quotes-escape at c (more ++ rest)
    ∙ ap (with_front (encode_utf8 c)) (past_signs signs rest ((at + len_utf8 92) + len_utf8 c) (All-tail (λ s. is_sign s ≡ true) (Escaped c) signs all))
    ∙ with_fronts (encode_utf8 c) (encode_utf8_all (map meant signs)) (in_quotes (((at + len_utf8 92) + len_utf8 c) + bytes more) rest)
    ∙ ap (λ n. with_front (encode_utf8_all (c ∷ map meant signs)) (in_quotes n rest)) (omega (arith, bytes-cons 92 (c ∷ more), bytes-cons c more))

unquoted-plain : (text : List ℕ) → (0 < length text → get_or text 0 0 ≢ 123) → unquoted text ≡ Plain
unquoted-plain [] other = refl
unquoted-plain (b ∷ bs) other = rw (ne_eqb b 123 (other (omega arith))) refl

unquoted-letter : (c : ℕ) (cs : List ℕ) → c ≢ 123 → unquoted (encode_utf8_all (c ∷ cs)) ≡ Plain
unquoted-letter c cs other =
    let text = encode_utf8_all (c ∷ cs) in
    unquoted-plain text (λ some first. other (char_from_byte text (encode_utf8_all cs) c refl (omega (arith, first)) some ∙ first))

unquoted-brace : (cs : List ℕ) → unquoted (encode_utf8_all (123 ∷ cs)) ≡ Bad
unquoted-brace cs = ap (λ front. unquoted (front ++ encode_utf8_all cs)) (encode_ascii 123 (omega arith))

abbrev pub word_then : ℕ → Spelling → List ℕ → List Word → List Word
word_then at spelling text words = record { place = at; spelling = spelling; text = text } ∷ words

unquoted_at : (c : ℕ) (cs rest : List ℕ) (at : ℕ) → c ≢ 34 → NonePass is_blank (c ∷ cs) → IsCutOff rest → words_at at ((c ∷ cs) ++ rest) ≡ word_then at (unquoted (encode_utf8_all (c ∷ cs))) (encode_utf8_all (c ∷ cs)) (words_at (at + bytes (c ∷ cs)) rest)
unquoted_at c cs rest at other none cut =
    words_at-other at c (cs ++ rest) none.0 other
    ∙ ap (λ word. plain_word at (with_front (encode_utf8 c) word)) (past_word cs rest (at + len_utf8 c) none.1 cut)
    ∙ ap (λ n. word_then at (unquoted (encode_utf8_all (c ∷ cs))) (encode_utf8_all (c ∷ cs)) (words_at n rest)) (omega (arith, bytes-cons c cs))

open_end : (at : ℕ) (last : List ℕ) → (last ≡ []) ⊎ (last ≡ 92 ∷ []) → in_quotes at last ≡ record { text = []; ended = false; words = [] }
open_end at last end = elim end [
  | inl none ↦ ap (in_quotes at) none
  | inr slash ↦ ap (in_quotes at) slash
]

after_signs : (signs : List Sign) (rest tail : List ℕ) (at : ℕ) → AllPass is_sign signs → words_at at ((34 ∷ (flat_map sign_text signs ++ tail)) ++ rest) ≡ quoted_word at (with_front (encode_utf8_all (map meant signs)) (in_quotes ((at + len_utf8 34) + bytes (flat_map sign_text signs)) (tail ++ rest)))
after_signs signs rest tail at all =
    words_at-quote at ((flat_map sign_text signs ++ tail) ++ rest)
    ∙ ap (λ cs. quoted_word at (in_quotes (at + len_utf8 34) cs)) (append_assoc (flat_map sign_text signs) tail rest)
    ∙ ap (quoted_word at) (past_signs signs (tail ++ rest) (at + len_utf8 34) all)

bytes-append : (cs ds : List ℕ) → bytes (cs ++ ds) ≡ bytes cs + bytes ds
bytes-append cs ds = ap length (encodes-append cs ds) ∙ length-append (encode_utf8_all cs) (encode_utf8_all ds)

bytes-quoted : (at : ℕ) (cs : List ℕ) → ((at + len_utf8 34) + bytes cs) + len_utf8 34 ≡ at + bytes (34 ∷ (cs ++ 34 ∷ []))
bytes-quoted at cs = omega (arith, bytes-cons 34 (cs ++ 34 ∷ []), bytes-append cs (34 ∷ []), bytes-cons 34 [])

-- a word that stands in the text is read
word_read : {written rest : List ℕ} {spelling : Spelling} {text : List ℕ} → IsWritten written rest spelling text → (at : ℕ) → words_at at (written ++ rest) ≡ word_then at spelling text (words_at (at + bytes written) rest)
word_read (is_plain c cs rest quote brace none cut) at =
    unquoted_at c cs rest at quote none cut
    ∙ ap (λ s. word_then at s (encode_utf8_all (c ∷ cs)) (words_at (at + bytes (c ∷ cs)) rest)) (unquoted-letter c cs brace)
word_read (is_braced cs rest none cut) at =
    unquoted_at 123 cs rest at (λ e. absurd (omega (arith, e))) (refl, none) cut
    ∙ ap (λ s. word_then at s (encode_utf8_all (123 ∷ cs)) (words_at (at + bytes (123 ∷ cs)) rest)) (unquoted-brace cs)
word_read (is_quoted signs rest all) at =
    let text = encode_utf8_all (map meant signs) in
    after_signs signs rest (34 ∷ []) at all
    ∙ ap (λ cs. record { place = at; spelling = Quoted; text = cs } ∷ words_at (((at + len_utf8 34) + bytes (flat_map sign_text signs)) + len_utf8 34) rest) (append-nil text)
    ∙ ap (λ n. word_then at Quoted text (words_at n rest)) (bytes-quoted at (flat_map sign_text signs))
word_read (is_open signs last all end) at =
    let text = encode_utf8_all (map meant signs) in
    after_signs signs [] last at all
    ∙ ap (λ tail. quoted_word at (with_front text (in_quotes ((at + len_utf8 34) + bytes (flat_map sign_text signs)) tail))) (append-nil last)
    ∙ ap (λ word. quoted_word at (with_front text word)) (open_end ((at + len_utf8 34) + bytes (flat_map sign_text signs)) last end)
    ∙ ap (λ cs. record { place = at; spelling = Bad; text = cs } ∷ []) (append-nil text)

blanks_alone : (text : List ℕ) (at : ℕ) → AllPass is_blank text → words_at at text ≡ []
blanks_alone text at all = ap (words_at at) (sym (append-nil text)) ∙ past_blanks text [] at all

pub words_read : (front text : List ℕ) (words : List Word) → AreWordsAfter front text words → words ≡ words_at (bytes front) text
words_read front text [] all = sym (blanks_alone text (bytes front) all)
words_read front text (word ∷ words) are =
    let blanks = are.0 in
    let written = are.1 in
    let rest = are.2 in
    let place : word.place ≡ bytes front + bytes blanks = are.5 ∙ bytes-append front blanks in
    let past : bytes (front ++ (blanks ++ written)) ≡ (bytes front + bytes blanks) + bytes written =
    omega (arith, bytes-append front (blanks ++ written), bytes-append blanks written) in
    sym (
    ap (words_at (bytes front)) are.3
    ∙ past_blanks blanks (written ++ rest) (bytes front) are.4
    ∙ word_read are.6 (bytes front + bytes blanks)
    ∙ ap (λ n. word_then n word.spelling word.text (words_at ((bytes front + bytes blanks) + bytes written) rest)) (sym place)
    ∙ ap (λ n. word ∷ words_at n rest) (sym past)
    ∙ ap (λ ws. word ∷ ws) (sym (words_read (front ++ (blanks ++ written)) rest words are.7))
    )
