-- Where a text is cut at blanks.
use Rattle.zeb_profile.proofs.Cited.{◌≡◌, ℕ, ◌+◌, ◌<◌, ◌≤◌, List, [], ◌∷◌, length, take, drop, get_or, Bool, true, false, not, nat_lt, nat_eq, arith, refl, ap, sym, ◌∙◌, suc, subst, inl, inr, position_or_len, prefix_len, slice_split, filter, IsUtf8, IsCharBoundary, passes_at_first, prefix_len-le-length, lt-ltb, cases_Bool, eqb-true, or_cases, not-true, is_blank, is_no_blank, without_leading_blanks, words_of}

-- a blank is an ASCII byte
pub blank_is_ascii : (byte : ℕ) → is_blank byte ≡ true → byte < 128
blank_is_ascii byte h =
    elim (or_cases (nat_eq byte 32) (nat_eq byte 9) h) [
      | inl e ↦ omega (arith, eqb-true byte 32 e)
      | inr e ↦ omega (arith, eqb-true byte 9 e)
    ]

-- a text may be cut before a blank
pub boundary_at_blank : (text : List ℕ) (n : ℕ) → n ≤ length text → (n < length text → is_blank (get_or text n 0) ≡ true) → IsCharBoundary text n
boundary_at_blank text n within blank = (within, λ inside large. absurd (omega (arith, blank_is_ascii (get_or text n 0) (blank inside))))

-- and before its first blank
pub boundary_before_blank : (text : List ℕ) → IsUtf8 text → IsCharBoundary text (position_or_len is_blank text)
boundary_before_blank text u = boundary_at_blank text (position_or_len is_blank text) (prefix_len-le-length (λ b. not (is_blank b)) text) (passes_at_first is_blank text 0)

-- the words of a text where p tells the blanks
abbrev words_by : (ℕ → Bool) → List ℕ → List (List ℕ)
words_by p xs = filter (λ word. nat_lt 0 (length word)) (slice_split p xs)

-- leading blanks part no words
words_by-drop : (p : ℕ → Bool) (xs : List ℕ) → words_by p (drop (prefix_len (λ b. not (not (p b))) xs) xs) ≡ words_by p xs
words_by-drop p [] = refl
words_by-drop p (x ∷ xs) =
    elim (cases_Bool (p x)) [
      | inl e ↦
          let more : 1 + prefix_len (λ b. not (not (p b))) xs ≡ suc (prefix_len (λ b. not (not (p b))) xs) = omega arith in
          rw (e, more) (words_by-drop p xs)
      | inr e ↦ simp e
    ]

pub words_of-without_leading_blanks : (text : List ℕ) → words_of (without_leading_blanks text) ≡ words_of text
words_of-without_leading_blanks text = words_by-drop is_blank text

-- the parts after the first
abbrev parts_after : (ℕ → Bool) → List ℕ → List (List ℕ)
parts_after p [] = []
parts_after p (y ∷ ys) = slice_split p ys

split_first : (p : ℕ → Bool) (xs : List ℕ) → slice_split p xs ≡ take (position_or_len p xs) xs ∷ parts_after p (drop (position_or_len p xs) xs)
split_first p [] = refl
split_first p (x ∷ xs) =
    elim (cases_Bool (p x)) [
      | inl e ↦ rw e refl
      | inr e ↦
          let more : 1 + prefix_len (λ b. not (p b)) xs ≡ suc (prefix_len (λ b. not (p b)) xs) = omega arith in
          rw (e, more, split_first p xs) refl
    ]

-- a text is empty or begins with a byte that passes
abbrev pub BeginsWith : (ℕ → Bool) → List ℕ → Type 0
BeginsWith p [] = Unit {0}
BeginsWith p (y ∷ ys) = p y ≡ true

pub begins_at_first : (p : ℕ → Bool) (xs : List ℕ) → BeginsWith p (drop (position_or_len p xs) xs)
begins_at_first p [] = tt
begins_at_first p (x ∷ xs) =
    elim (cases_Bool (p x)) [
      | inl e ↦ rw e e
      | inr e ↦
          let more : 1 + prefix_len (λ b. not (p b)) xs ≡ suc (prefix_len (λ b. not (p b)) xs) = omega arith in
          rw (e, more) (begins_at_first p xs)
    ]

words_by-after : (p : ℕ → Bool) (xs : List ℕ) → BeginsWith p xs → words_by p xs ≡ filter (λ word. nat_lt 0 (length word)) (parts_after p xs)
words_by-after p [] h = refl
words_by-after p (y ∷ ys) h = rw h refl

nonempty_kept : (x : ℕ) (xs : List ℕ) (parts : List (List ℕ)) → filter (λ word. nat_lt 0 (length word)) ((x ∷ xs) ∷ parts) ≡ (x ∷ xs) ∷ filter (λ word. nat_lt 0 (length word)) parts
nonempty_kept x xs parts = rw (lt-ltb 0 (length (x ∷ xs)) (omega arith)) refl

-- the first word of a text that begins with one, and the words of what follows it
words_by-first : (p : ℕ → Bool) (x : ℕ) (xs : List ℕ) → p x ≡ false
    → words_by p (x ∷ xs) ≡ take (position_or_len p (x ∷ xs)) (x ∷ xs) ∷ words_by p (drop (position_or_len p (x ∷ xs)) (x ∷ xs))
words_by-first p x xs h =
    let n : ℕ = prefix_len (λ b. not (p b)) xs in
    let more : 1 + n ≡ suc n = omega arith in
    let rest : words_by p (drop n xs) ≡ filter (λ word. nat_lt 0 (length word)) (parts_after p (drop n xs)) = words_by-after p (drop n xs) (begins_at_first p xs) in
    rw (split_first p (x ∷ xs), h, more, rest) (nonempty_kept x (take n xs) (parts_after p (drop n xs)))

pub words_of-first : (byte : ℕ) (others : List ℕ) → is_blank byte ≡ false
    → words_of (byte ∷ others) ≡ take (position_or_len is_blank (byte ∷ others)) (byte ∷ others) ∷ words_of (drop (position_or_len is_blank (byte ∷ others)) (byte ∷ others))
words_of-first byte others h = words_by-first is_blank byte others h

pub words_of-blank : (text start : List ℕ) → start ≡ without_leading_blanks text → length start ≡ 0 → words_of text ≡ []
words_of-blank text [] e z = sym (words_of-without_leading_blanks text) ∙ ap words_of (sym e)
words_of-blank text (b ∷ bs) e z = absurd (omega arith)

-- the first word is cut off behind the leading blanks and before the next blank
pub words_of-cut : (text start front back : List ℕ) (n : ℕ) → start ≡ without_leading_blanks text → 0 < length start
    → n ≡ position_or_len is_blank start → front ≡ take n start → back ≡ drop n start → words_of text ≡ front ∷ words_of back
words_of-cut text [] front back n e z p f b = absurd (omega arith)
words_of-cut text (x ∷ xs) front back n e z p f b =
    let at : BeginsWith is_no_blank (x ∷ xs) = subst (λ (ys : List ℕ). BeginsWith is_no_blank ys) (sym e) (begins_at_first is_no_blank text) in
    let first : words_of (x ∷ xs) ≡ take (position_or_len is_blank (x ∷ xs)) (x ∷ xs) ∷ words_of (drop (position_or_len is_blank (x ∷ xs)) (x ∷ xs)) = words_of-first x xs (not-true _ at) in
    sym (words_of-without_leading_blanks text) ∙ ap words_of (sym e) ∙ first ∙ rw (f, b, p) refl
