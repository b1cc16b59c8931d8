-- What trimming and cutting at blanks gives, from what `str` says of its methods at a set of characters.
use Rattle.zeb_program.proofs.Cited.{suc, ◌≡◌, ℕ, ◌+◌, ◌-◌, ◌<◌, ◌⊎◌, inl, inr, Bool, true, false, List, [], ◌∷◌, ◌++◌, length, get_or, take, drop, refl, arith, eqb, sym, ◌∙◌, ap, subst, append_assoc, eqb-true, suc-add, Option, Some, None, reverse, prefix_len, suffix_len, position_or_len, AllByRecursion, IsScalar, char_set_contains, NonePass, NoCharPasses, NoCharPasses-char, drop_of_length-le, encode_ascii, len_utf8_bounds, eqb_tells, length-append, reverse-append, append-nil, length-reverse, reverse-reverse, take-append-drop, take-length, take-append_seam, drop-append_seam, drop-length, is_blank, without_leading, without_trailing, first_word, after_first_word}
use Rattle.std.specs.Str.Pattern.{CutsPrefixes, CutsSuffixes, IsFullyTrimmed, IsTrimStartMatches, IsTrimEndMatches, FindsPrefixBy, FindsSuffixBy, FindsBy, HasCharAt, SplitsAroundMatch}

-- the characters at which the program cuts
abbrev pub blanks : List ℕ
blanks = 32 ∷ 9 ∷ []

abbrev pub AllBlank : List ℕ → Type 0
AllBlank bs = AllByRecursion (λ b. is_blank b ≡ true) bs

-- a list begins with no blank
abbrev pub BeginsOtherwise : List ℕ → Type 0
BeginsOtherwise [] = Unit {0}
BeginsOtherwise (b ∷ bs) = is_blank b ≡ false

-- a blank is space or tab
blank_cases : (c : ℕ) → is_blank c ≡ true → (c ≡ 32) ⊎ (c ≡ 9)
blank_cases c e = elim (eqb_tells 32 c) [
  | inl (_, same) ↦ inl (sym same)
  | inr (no_space, _) ↦ elim (eqb_tells 9 c) [
    | inl (_, same) ↦ inr (sym same)
    | inr (no_tab, _) ↦ absurd (differs no_space no_tab)
  ]
]
  where
    differs : eqb 32 c ≡ false → eqb 9 c ≡ false → ⊥
    differs no_space no_tab = cc

-- what is false where it is true is false
not_true : (v : Bool) → (v ≡ true → v ≡ false) → v ≡ false
not_true true h = h refl
not_true false h = refl

-- blanks and then something else: so many blanks are at its front
prefix_len-blanks : (ws rest : List ℕ) → AllBlank ws → BeginsOtherwise rest → prefix_len is_blank (ws ++ rest) ≡ length ws
prefix_len-blanks [] [] all other = refl
prefix_len-blanks [] (b ∷ bs) all other = rw other refl
prefix_len-blanks (w ∷ ws) rest (blank, all) other = rw blank (omega (arith, prefix_len-blanks ws rest all other))

pub without_leading-blanks : (ws rest : List ℕ) → AllBlank ws → BeginsOtherwise rest → without_leading (ws ++ rest) ≡ rest
without_leading-blanks ws rest all other = rw (prefix_len-blanks ws rest all other, drop-append_seam) refl

abbrev pub EndsOtherwise : List ℕ → Type 0
EndsOtherwise bs = BeginsOtherwise (reverse bs)

AllBlank-append : (vs ws : List ℕ) → AllBlank vs → AllBlank ws → AllBlank (vs ++ ws)
AllBlank-append [] ws all more = more
AllBlank-append (v ∷ vs) ws (blank, all) more = (blank, AllBlank-append vs ws all more)

AllBlank-reverse : (ws : List ℕ) → AllBlank ws → AllBlank (reverse ws)
AllBlank-reverse [] all = tt
AllBlank-reverse (w ∷ ws) (blank, all) = subst AllBlank (sym (reverse-append (w ∷ []) ws)) (AllBlank-append (reverse ws) (w ∷ []) (AllBlank-reverse ws all) (blank, tt))

pub without_trailing-blanks : (ws front : List ℕ) → AllBlank ws → EndsOtherwise front → without_trailing (front ++ ws) ≡ front
without_trailing-blanks ws front all other =
    let count : suffix_len is_blank (front ++ ws) ≡ length ws =
    rw reverse-append (prefix_len-blanks (reverse ws) (reverse front) (AllBlank-reverse ws all) other ∙ length-reverse ws) in
    let kept : length (front ++ ws) - suffix_len is_blank (front ++ ws) ≡ length front = rw (count, length-append) (omega arith) in
    rw (kept, take-append_seam) refl

-- what `str` says of a pattern that is a set of blanks
abbrev pub FrontBlank : List ℕ → Option ℕ → Type 0
FrontBlank s r = (k : ℕ → Bool) → ((c : ℕ) → char_set_contains blanks c ≡ k c) → FindsPrefixBy k s r

abbrev pub BackBlank : List ℕ → Option ℕ → Type 0
BackBlank s r = (k : ℕ → Bool) → ((c : ℕ) → char_set_contains blanks c ≡ k c) → FindsSuffixBy k s r

blank_is_ascii : (c : ℕ) → is_blank c ≡ true → c < 128
blank_is_ascii c e = elim (blank_cases c e) [ inl s ↦ omega (arith, s) | inr t ↦ omega (arith, t) ]

blank_is_scalar : (c : ℕ) → is_blank c ≡ true → IsScalar c
blank_is_scalar c e = elim (blank_cases c e) [ inl s ↦ rw s refl | inr t ↦ rw t refl ]

-- a character at a place, where it is one byte
one_byte : (c : ℕ) (s : List ℕ) (i j : ℕ) → is_blank c ≡ true → HasCharAt c s i j → drop i s ≡ c ∷ drop j s
one_byte c s i j blank here = here.split ∙ ap (λ e. e ++ drop j s) (encode_ascii c (blank_is_ascii c blank))

cut_front : (s r : List ℕ) (ns : List ℕ) → CutsPrefixes FrontBlank s ns r → (ws : List ℕ) × AllBlank ws × (s ≡ ws ++ r)
cut_front s r [] same = ([], tt, sym same)
cut_front s r (n ∷ ns) (m, before, one, rest) =
    let (ws, all, split) = cut_front s m ns before in
    let (c, blank, here) = one is_blank (λ c. refl) in
    let whole : m ≡ c ∷ r = one_byte c m 0 n blank here ∙ ap (λ x. c ∷ x) (sym rest) in
    (ws ++ c ∷ [], AllBlank-append ws (c ∷ []) all (blank, tt), split ∙ ap (λ x. ws ++ x) whole ∙ sym (append_assoc ws (c ∷ []) r))

front_done : (r : List ℕ) → IsFullyTrimmed FrontBlank r → BeginsOtherwise r
front_done [] h = tt
front_done (b ∷ bs) (None, h, f) = not_true (is_blank b) (λ e. h is_blank (λ c. refl) b bs (blank_is_scalar b e) (sym (ap (λ x. x ++ bs) (encode_ascii b (blank_is_ascii b e)))))
front_done (b ∷ bs) (Some n, h, f) =
    let (c, blank, here) = h is_blank (λ c. refl) in
    absurd (omega (arith, f, here.ends, (len_utf8_bounds c).0))

pub trimmed_front : (s r : List ℕ) → IsTrimStartMatches FrontBlank s r → r ≡ without_leading s
trimmed_front s r ((ns, cuts), done) =
    let (ws, all, split) = cut_front s r ns cuts in
    rw split (sym (without_leading-blanks ws r all (front_done r done)))

cut_back : (s r : List ℕ) (ns : List ℕ) → CutsSuffixes BackBlank s ns r → (ws : List ℕ) × AllBlank ws × (s ≡ r ++ ws)
cut_back s r [] same = ([], tt, sym (ap (λ x. x ++ []) same ∙ append-nil s))
cut_back s r (n ∷ ns) (m, before, one, rest) =
    let (ws, all, split) = cut_back s m ns before in
    let (c, blank, here) = one is_blank (λ c. refl) in
    let end : drop (length m - n) m ≡ c ∷ [] = one_byte c m (length m - n) (length m) blank here ∙ ap (λ x. c ∷ x) (drop-length m) in
    let whole : m ≡ r ++ c ∷ [] = sym (take-append-drop (length m - n) m) ∙ ap (λ x. take (length m - n) m ++ x) end ∙ ap (λ x. x ++ c ∷ []) (sym rest) in
    (c ∷ ws, (blank, all), split ∙ ap (λ x. x ++ ws) whole ∙ append_assoc r (c ∷ []) ws)

back_done_at : (r v : List ℕ) → reverse r ≡ v → IsFullyTrimmed BackBlank r → BeginsOtherwise v
back_done_at r [] e h = tt
back_done_at r (b ∷ bs) e (None, h, f) =
    let whole : r ≡ reverse bs ++ b ∷ [] = sym (reverse-reverse r) ∙ ap reverse e ∙ reverse-append (b ∷ []) bs in
    not_true (is_blank b) (λ t. h is_blank (λ c. refl) b (reverse bs) (blank_is_scalar b t) (whole ∙ sym (ap (λ x. reverse bs ++ x) (encode_ascii b (blank_is_ascii b t)))))
back_done_at r (b ∷ bs) e (Some n, h, f) =
    let (c, blank, here) = h is_blank (λ c. refl) in
    absurd (omega (arith, f, here.ends, (len_utf8_bounds c).0))

pub trimmed_back : (s r : List ℕ) → IsTrimEndMatches BackBlank s r → r ≡ without_trailing s
trimmed_back s r ((ns, cuts), done) =
    let (ws, all, split) = cut_back s r ns cuts in
    rw split (sym (without_trailing-blanks ws r all (back_done_at r (reverse r) refl done)))

-- no byte of a list is a blank
abbrev pub HasNoBlank : List ℕ → Type 0
HasNoBlank bs = (k : ℕ) → k < length bs → is_blank (get_or bs k 0) ≡ false

no_space : (cs : List ℕ) → NonePass is_blank cs → NonePass (λ d. eqb d 32) cs
no_space [] none = tt
no_space (c ∷ cs) (other, none) = (not_true (eqb c 32) (λ e. absurd (cc (other, ap is_blank (eqb-true c 32 e)))), no_space cs none)

no_tab : (cs : List ℕ) → NonePass is_blank cs → NonePass (λ d. eqb d 9) cs
no_tab [] none = tt
no_tab (c ∷ cs) (other, none) = (not_true (eqb c 9) (λ e. absurd (cc (other, ap is_blank (eqb-true c 9 e)))), no_tab cs none)

no_blank : (bs : List ℕ) → NoCharPasses is_blank bs → HasNoBlank bs
no_blank bs (cs, spelled, none) k l =
    not_true (is_blank (get_or bs k 0)) (λ e. elim (blank_cases (get_or bs k 0) e) [
      | inl s ↦ absurd (NoCharPasses-char 32 bs k (cs, spelled, no_space cs none) (omega arith) l s)
      | inr t ↦ absurd (NoCharPasses-char 9 bs k (cs, spelled, no_tab cs none) (omega arith) l t)
    ])

position-blank : (front : List ℕ) (c : ℕ) (rest : List ℕ) → HasNoBlank front → is_blank c ≡ true → position_or_len is_blank (front ++ c ∷ rest) ≡ length front
position-blank [] c rest other blank = rw blank refl
position-blank (b ∷ bs) c rest other blank = rw (other 0 (omega arith)) (omega (arith, position-blank bs c rest (λ k l. other (suc k) (omega arith)) blank))

position-none : (front : List ℕ) → HasNoBlank front → position_or_len is_blank front ≡ length front
position-none [] other = refl
position-none (b ∷ bs) other = rw (other 0 (omega arith)) (omega (arith, position-none bs (λ k l. other (suc k) (omega arith))))

-- what `str` says of a search for a blank
abbrev pub FindsBlank : List ℕ → Option (ℕ × ℕ) → Type 0
FindsBlank s r = (k : ℕ → Bool) → ((c : ℕ) → char_set_contains blanks c ≡ k c) → FindsBy k s r

pub split_word : (s front back : List ℕ) → SplitsAroundMatch FindsBlank s front back → (front ≡ first_word s) × (without_leading back ≡ after_first_word s)
split_word s front back (i, j, finds, is_front, is_back, _, _, _) =
    let (none, (c, blank, here)) = finds is_blank (λ c. refl) in
    let whole : s ≡ front ++ c ∷ back =
    sym (take-append-drop i s) ∙ ap (λ x. x ++ drop i s) (sym is_front) ∙ ap (λ x. front ++ x) (one_byte c s i j blank here ∙ ap (λ x. c ∷ x) (sym is_back)) in
    let other : HasNoBlank front = no_blank front (subst (NoCharPasses is_blank) (sym is_front) none) in
    let at : position_or_len is_blank s ≡ length front = rw whole (position-blank front c back other blank) in
    let beyond : drop (length front + 1) (front ++ c ∷ back) ≡ back = drop_after front c back in
    (rw (at, whole) (sym (take-append_seam front (c ∷ back))), rw (at, whole) (ap without_leading (sym beyond)))
  where
    drop_after : (front : List ℕ) (c : ℕ) (back : List ℕ) → drop (length front + 1) (front ++ c ∷ back) ≡ back
    drop_after [] c back = refl
    drop_after (b ∷ bs) c back = rw (suc-add (length bs) 1) (drop_after bs c back)

pub whole_word : (s : List ℕ) → FindsBlank s None → (s ≡ first_word s) × ([] ≡ after_first_word s)
whole_word s finds =
    let at : position_or_len is_blank s ≡ length s = position-none s (no_blank s (finds is_blank (λ c. refl))) in
    (rw at (sym (take-length s)), rw at (ap without_leading (sym (drop_of_length-le s {i = length s + 1} (omega arith)))))
