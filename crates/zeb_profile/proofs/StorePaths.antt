-- The path of a `store` line: what its ends are, and the line read again.
use Rattle.zeb_profile.proofs.Cited.{◌≡◌, ℕ, codes, inl, inr, ◌+◌, ◌-◌, ◌<◌, List, [], ◌∷◌, ◌++◌, length, true, false, Ok, arith, refl, ap, sym, ◌∙◌, suc, take, drop, get_or, reverse, position_or_len, suffix_len, cases_lt, both_ways, not-true, get_or-reverse, get_or-take, length-reverse, length-take-le, All-drop, prefix_len_passes, prefix_len_stops, Store, directive_from, directive_of, after_word, is_blank, is_no_blank, trimmed, without_leading_blanks, without_trailing_blanks, words_of}
use Rattle.zeb_profile.proofs.Cuts.{BeginsWith, begins_at_first, words_of-blank, words_of-cut, words_of-first}
use Rattle.zeb_profile.proofs.LinesBack.{IsOneLine, is_line_feed, trimmed_one_line}
use Rattle.zeb_profile.proofs.PlainWords.{IsPlain, last_of, trimmed-same, words_of-plain_first}

-- a text with no blank at its ends
pub record IsTrimmed (text : List ℕ) : Type 0 where
  pub some : 0 < length text
  pub first : is_blank (get_or text 0 0) ≡ false
  pub last : is_blank (get_or text (length text - 1) 0) ≡ false

-- ---- trimming
begins : (text : List ℕ) → 0 < length text → BeginsWith is_no_blank text → is_blank (get_or text 0 0) ≡ false
begins [] some h = absurd (omega arith)
begins (b ∷ bs) some h = not-true _ h

-- not all of a text is blank where its first byte is none
blanks_behind : (text : List ℕ) → 0 < length text → is_blank (get_or text 0 0) ≡ false → suffix_len is_blank text < length text
blanks_behind text some first =
    elim (cases_lt (suffix_len is_blank text) (length text)) [
      | inl h ↦ h
      | inr h ↦
          let at : is_blank (get_or (reverse text) (length text - 1) 0) ≡ true = prefix_len_passes is_blank (reverse text) (length text - 1) 0 (omega (arith, h)) in
          let mirrored : get_or (reverse text) (length text - 1) 0 ≡ get_or text (length text - 1 - (length text - 1)) 0 = get_or-reverse text (length text - 1) 0 (omega arith) in
          let front : length text - 1 - (length text - 1) ≡ 0 = omega arith in
          absurd (both_ways _ first (sym (ap is_blank (mirrored ∙ ap (λ i. get_or text i 0) front)) ∙ at))
    ]

last_kept : (text : List ℕ) → suffix_len is_blank text < length text → is_blank (get_or text (length text - suffix_len is_blank text - 1) 0) ≡ false
last_kept text h =
    let n : ℕ = suffix_len is_blank text in
    let stops : is_blank (get_or (reverse text) n 0) ≡ false = prefix_len_stops is_blank (reverse text) 0 (omega (arith, length-reverse text, h)) in
    let mirrored : get_or (reverse text) n 0 ≡ get_or text (length text - 1 - n) 0 = get_or-reverse text n 0 h in
    let place : length text - n - 1 ≡ length text - 1 - n = omega arith in
    ap (λ i. is_blank (get_or text i 0)) place ∙ sym (ap is_blank mirrored) ∙ stops

-- a text that begins with no blank, without the blanks at its end
trimmed_end : (text : List ℕ) → 0 < length text → is_blank (get_or text 0 0) ≡ false → IsTrimmed (take (length text - suffix_len is_blank text) text)
trimmed_end text some first =
    let behind : suffix_len is_blank text < length text = blanks_behind text some first in
    let n : ℕ = length text - suffix_len is_blank text in
    let long : length (take n text) ≡ n = length-take-le n text (omega arith) in
    let above : 0 < n = omega (arith, behind) in
    let place : length (take n text) - 1 ≡ n - 1 = omega (arith, long) in
    record {
      some = omega (arith, long, above);
      first = ap is_blank (get_or-take n text 0 0 above) ∙ first;
      last = ap (λ i. is_blank (get_or (take n text) i 0)) place ∙ ap is_blank (get_or-take n text (n - 1) 0 (omega (arith, above))) ∙ last_kept text behind;
    }

-- what has a word has none of its blanks left at its ends
pub trimmed_ends : (text : List ℕ) → 0 < length (words_of text) → IsTrimmed (trimmed text)
trimmed_ends text some =
    let start : List ℕ = without_leading_blanks text in
    elim (cases_lt 0 (length start)) [
      | inl above ↦ trimmed_end start above (begins start above (begins_at_first is_no_blank text))
      | inr none ↦ absurd (omega (arith, some, ap length (words_of-blank text start refl (omega (arith, none)))))
    ]

pub words_of-after : (line keyword : List ℕ) (words : List (List ℕ)) → words_of line ≡ keyword ∷ words → words_of (after_word line) ≡ words
words_of-after line keyword words h =
    let start : List ℕ = without_leading_blanks line in
    elim (cases_lt 0 (length start)) [
      | inl above ↦
          let cut : words_of line ≡ take (position_or_len is_blank start) start ∷ words_of (after_word line) =
          words_of-cut line start (take (position_or_len is_blank start) start) (after_word line) (position_or_len is_blank start) refl above refl refl refl in
          cc
      | inr none ↦
          let blank : words_of line ≡ [] = words_of-blank line start refl (omega (arith, none)) in
          absurd (cc)
    ]

-- the path of a line is a part of the line
pub rest_one_line : (line : List ℕ) → IsOneLine line → IsOneLine (trimmed (after_word line))
rest_one_line line one =
    let no = λ (b : ℕ). is_line_feed b ≡ false in
    let start : List ℕ = without_leading_blanks line in
    trimmed_one_line (after_word line)
    (All-drop no (position_or_len is_blank start) start (All-drop no (position_or_len is_no_blank line) line one))

-- ---- the line of a path
some_words : (path : List ℕ) → IsTrimmed path → (first : List ℕ) × (others : List (List ℕ)) × (words_of path ≡ first ∷ others)
some_words [] h = absurd (omega (arith, h.some))
some_words (b ∷ bs) h = (take (position_or_len is_blank (b ∷ bs)) (b ∷ bs), words_of (drop (position_or_len is_blank (b ∷ bs)) (b ∷ bs)), words_of-first b bs h.first)

behind_blank : (path : List ℕ) → without_leading_blanks (32 ∷ path) ≡ without_leading_blanks path
behind_blank path = let more : 1 + position_or_len is_no_blank path ≡ suc (position_or_len is_no_blank path) = omega arith in rw more refl

store_word : IsPlain (codes "store")
store_word = record { some = omega arith; graphic = refl }

pub store_line : (path : List ℕ) → IsTrimmed path → directive_of (codes "store " ++ path) ≡ Ok (Store path)
store_line path h =
    let some = some_words path h in
    let whole : trimmed path ≡ path = trimmed-same path h.some h.first h.last in
    let rest : trimmed (after_word (codes "store " ++ path)) ≡ path = ap without_trailing_blanks (behind_blank path) ∙ whole in
    let words : words_of (codes "store " ++ path) ≡ codes "store" ∷ some.0 ∷ some.1 = words_of-plain_first (codes "store") path store_word ∙ ap (λ words. codes "store" ∷ words) some.2 in
    ap (λ found. directive_from found (trimmed (after_word (codes "store " ++ path)))) words ∙ ap (directive_from (codes "store" ∷ some.0 ∷ some.1)) rest

pub store_line_trimmed : (path : List ℕ) → IsTrimmed path → trimmed (codes "store " ++ path) ≡ codes "store " ++ path
store_line_trimmed path h = trimmed-same (codes "store " ++ path) (omega arith) refl (ap is_blank (last_of (codes "store ") path h.some) ∙ h.last)
