-- A line's directive, written as the canonical text writes it, is read again from what is written.
use Rattle.zeb_profile.proofs.Cited.{◌≡◌, ℕ, codes, inl, inr, ◌<◌, List, [], ◌∷◌, length, true, Ok, arith, refl, ap, sym, ◌∙◌, subst, decimal, ok_or, bytes_eq, cases_Bool, Directive, Store, Identifier, Att, Melm, AllUnits, UnitPattern, FaultyDirective, pattern_text, targets_text, all_of, att_of, directive_from, directive_of, identifier_of, melm_of, one_word, store_of, two_words, after_word, trimmed, words_of, ◌>>=◌, is_name, name_of, number_of, pattern_of, targets_of}
use Rattle.zeb_profile.proofs.LinesBack.{IsOneLine}
use Rattle.zeb_profile.proofs.PlainWords.{IsPlain}
use Rattle.zeb_profile.proofs.StorePaths.{IsTrimmed, rest_one_line, trimmed_ends, words_of-after}
use Rattle.zeb_profile.proofs.TargetsBack.{step_ok, targets_back}
use Rattle.zeb_profile.proofs.WordsBack.{name_back, number_back, pattern_back}

-- ---- what is known of a directive that was read
abbrev pub IsRead : Directive → Type 0
IsRead (Store path) = IsTrimmed path × IsOneLine path
IsRead (Identifier pattern) = (pattern_of (pattern_text pattern) ≡ Ok pattern) × IsPlain (pattern_text pattern)
IsRead (Att number name) = (number_of (decimal number) ≡ Ok number) × IsPlain (decimal number) × (is_name name ≡ true)
IsRead (Melm pattern targets) = (pattern_of (pattern_text pattern) ≡ Ok pattern) × IsPlain (pattern_text pattern)
    × (targets_of (targets_text targets) ≡ Ok targets) × IsPlain (targets_text targets)
IsRead (AllUnits targets) = (targets_of (targets_text targets) ≡ Ok targets) × IsPlain (targets_text targets)

-- a pattern, read again from its text
pattern_again : (word : List ℕ) (pattern : UnitPattern) → pattern_of word ≡ Ok pattern → (pattern_of (pattern_text pattern) ≡ Ok pattern) × IsPlain (pattern_text pattern)
pattern_again word pattern h =
    let back = pattern_back word pattern h in
    (ap pattern_of back.0 ∙ h, subst (λ (text : List ℕ). IsPlain text) (sym back.0) back.1)

identifier_read : (words : List (List ℕ)) (directive : Directive) → identifier_of words ≡ Ok directive → IsRead directive
identifier_read words directive h =
    let word = step_ok (ok_or (one_word words) FaultyDirective) (λ word. pattern_of word >>= λ pattern. Ok (Identifier pattern)) directive h in
    let pattern = step_ok (pattern_of word.0) (λ pattern. Ok (Identifier pattern)) directive word.2 in
    let same : Identifier pattern.0 ≡ directive = cc (pattern.2) in
    subst (λ (d : Directive). IsRead d) same (pattern_again word.0 pattern.0 pattern.1)

att_read : (words : List (List ℕ)) (directive : Directive) → att_of words ≡ Ok directive → IsRead directive
att_read words directive h =
    let both = step_ok (ok_or (two_words words) FaultyDirective) (λ both. number_of both.0 >>= λ number. name_of both.1 >>= λ name. Ok (Att number name)) directive h in
    let number = step_ok (number_of both.0.0) (λ number. name_of both.0.1 >>= λ name. Ok (Att number name)) directive both.2 in
    let name = step_ok (name_of both.0.1) (λ name. Ok (Att number.0 name)) directive number.2 in
    let same : Att number.0 name.0 ≡ directive = cc (name.2) in
    let back = number_back both.0.0 number.0 number.1 in
    subst (λ (d : Directive). IsRead d) same (back.0, back.1, (name_back both.0.1 name.0 name.1).1)

melm_read : (words : List (List ℕ)) (directive : Directive) → melm_of words ≡ Ok directive → IsRead directive
melm_read words directive h =
    let both = step_ok (ok_or (two_words words) FaultyDirective) (λ both. pattern_of both.0 >>= λ pattern. targets_of both.1 >>= λ targets. Ok (Melm pattern targets)) directive h in
    let pattern = step_ok (pattern_of both.0.0) (λ pattern. targets_of both.0.1 >>= λ targets. Ok (Melm pattern targets)) directive both.2 in
    let targets = step_ok (targets_of both.0.1) (λ targets. Ok (Melm pattern.0 targets)) directive pattern.2 in
    let same : Melm pattern.0 targets.0 ≡ directive = cc (targets.2) in
    let first = pattern_again both.0.0 pattern.0 pattern.1 in
    let second = targets_back both.0.1 targets.0 targets.1 in
    subst (λ (d : Directive). IsRead d) same (first.0, first.1, second.0, second.1)

all_read : (words : List (List ℕ)) (directive : Directive) → all_of words ≡ Ok directive → IsRead directive
all_read words directive h =
    let word = step_ok (ok_or (one_word words) FaultyDirective) (λ word. targets_of word >>= λ targets. Ok (AllUnits targets)) directive h in
    let targets = step_ok (targets_of word.0) (λ targets. Ok (AllUnits targets)) directive word.2 in
    let same : AllUnits targets.0 ≡ directive = cc (targets.2) in
    subst (λ (d : Directive). IsRead d) same (targets_back word.0 targets.0 targets.1)

store_read : (words : List (List ℕ)) (rest : List ℕ) (directive : Directive) → (0 < length words → IsTrimmed rest × IsOneLine rest) → store_of words rest ≡ Ok directive → IsRead directive
store_read [] rest directive good h = absurd (cc)
store_read (word ∷ words) rest directive good h =
    let same : Store rest ≡ directive = cc in
    subst (λ (d : Directive). IsRead d) same (good (omega arith))

words_read : (words : List (List ℕ)) (rest : List ℕ) (directive : Directive)
    → ((keyword : List ℕ) (others : List (List ℕ)) → words ≡ keyword ∷ others → 0 < length others → IsTrimmed rest × IsOneLine rest)
    → directive_from words rest ≡ Ok directive → IsRead directive
words_read [] rest directive good h = absurd (cc)
words_read (keyword ∷ words) rest directive good h =
    elim (cases_Bool (bytes_eq keyword (codes "store"))) [
      | inl e ↦ store_read words rest directive (good keyword words refl) (rw e at h)
      | inr no_store ↦ let h1 = rw no_store at h in elim (cases_Bool (bytes_eq keyword (codes "identifier"))) [
        | inl e ↦ identifier_read words directive (rw e at h1)
        | inr no_identifier ↦ let h2 = rw no_identifier at h1 in elim (cases_Bool (bytes_eq keyword (codes "att"))) [
          | inl e ↦ att_read words directive (rw e at h2)
          | inr no_att ↦ let h3 = rw no_att at h2 in elim (cases_Bool (bytes_eq keyword (codes "melm"))) [
            | inl e ↦ melm_read words directive (rw e at h3)
            | inr no_melm ↦ let h4 = rw no_melm at h3 in elim (cases_Bool (bytes_eq keyword (codes "all"))) [
              | inl e ↦ all_read words directive (rw e at h4)
              | inr no_all ↦ let bad = rw no_all at h4 in absurd (cc)
            ]
          ]
        ]
      ]
    ]

-- what a line says is a directive that was read
pub line_read : (line : List ℕ) (directive : Directive) → IsOneLine line → directive_of line ≡ Ok directive → IsRead directive
line_read line directive one h =
    words_read (words_of line) (trimmed (after_word line)) directive
    (λ keyword others e some.
    let words : words_of (after_word line) ≡ others = words_of-after line keyword others e in
    (trimmed_ends (after_word line) (omega (arith, some, ap length words)), rest_one_line line one))
    h
