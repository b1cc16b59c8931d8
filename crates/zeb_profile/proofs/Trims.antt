-- What `trim_start_matches` and `trim_end_matches` give for blanks.
use Rattle.zeb_profile.proofs.Cited.{◌≡◌, ℕ, ◌+◌, ◌-◌, ◌<◌, ◌≤◌, List, [], ◌∷◌, ◌++◌, length, take, drop, get_or, suc, true, false, Bool, not, Option, Some, None, refl, ap, sym, ◌∙◌, subst, arith, inl, inr, append_assoc, append-nil, length-append, take-suc, take_all, take-append-le, get_or-append_right, get_or_append_left, drop_at_char, drop-length, take-append-drop, encode_ascii, prefix_len, suffix_len, suffix_len_is, cases_Bool, cases_eq, eqb-true, ne_eqb, or_cases, All, All-cons, All-nil, char_set_contains, FindsPrefixBy, FindsSuffixBy, CutsPrefixes, CutsSuffixes, IsFullyTrimmed, IsTrimStartMatches, IsTrimEndMatches, IfSome, IsScalar, is_blank, is_no_blank, without_leading_blanks, without_trailing_blanks}
use Rattle.zeb_profile.proofs.Cuts.{blank_is_ascii}

-- the characters that are trimmed are the blanks
blank_in_set : (c : ℕ) → char_set_contains (32 ∷ 9 ∷ []) c ≡ is_blank c
blank_in_set c =
    elim (cases_eq c 32) [
      | inl e ↦ rw e refl
      | inr no_space ↦ elim (cases_eq c 9) [
        | inl e ↦ rw e refl
        | inr no_tab ↦ rw (ne_eqb c 32 no_space, ne_eqb c 9 no_tab, ne_eqb 32 c (λ e. no_space (sym e)), ne_eqb 9 c (λ e. no_tab (sym e))) refl
      ]
    ]

blank_is_scalar : (c : ℕ) → is_blank c ≡ true → IsScalar c
blank_is_scalar c h = elim (or_cases _ _ h) [ inl e ↦ rw (eqb-true c 32 e) refl | inr e ↦ rw (eqb-true c 9 e) refl ]

-- ---- the front

left : (ℕ → Bool) → List ℕ → List ℕ
left p text = drop (prefix_len p text) text

left_skips : (p : ℕ → Bool) (b : ℕ) (bs : List ℕ) → p b ≡ true → left p (b ∷ bs) ≡ left p bs
unfolding left
left_skips p b bs h = let more : 1 + prefix_len p bs ≡ suc (prefix_len p bs) = omega arith in rw (h, more) refl

left_stays : (p : ℕ → Bool) (b : ℕ) (bs : List ℕ) → p b ≡ false → left p (b ∷ bs) ≡ b ∷ bs
unfolding left
left_stays p b bs h = rw h refl

abbrev skipping : List ℕ → List ℕ
skipping text = left (λ b. not (is_no_blank b)) text

twice_not : (b : Bool) → not (not b) ≡ b
twice_not true = refl
twice_not false = refl

skips : (text rest : List ℕ) (c : ℕ) → is_blank c ≡ true → text ≡ c ∷ rest → skipping text ≡ skipping rest
skips text rest c h e = ap skipping e ∙ left_skips (λ b. not (is_no_blank b)) c rest (twice_not (is_blank c) ∙ h)

module _ (R : List ℕ → Option ℕ → Type 0) (tells : (text : List ℕ) (n : Option ℕ) → R text n → FindsPrefixBy is_blank text n) where
  front_at : (text : List ℕ) (n : ℕ) → R text (Some n) → (c : ℕ) × (is_blank c ≡ true) × (text ≡ c ∷ drop n text)
  front_at text n h =
      let found = tells text (Some n) h in
      (found.0, found.1, drop_at_char found.0 text 0 n found.2 (blank_is_ascii found.0 found.1))

  front_cuts : (ns : List ℕ) (text rest : List ℕ) → CutsPrefixes R text ns rest → skipping text ≡ skipping rest
  front_cuts [] text rest h = ap skipping (sym h)
  front_cuts (n ∷ ns) text rest h =
      let at = front_at h.0 n h.2 in
      front_cuts ns text h.0 h.1 ∙ skips h.0 (drop n h.0) at.0 at.1 at.2 ∙ ap skipping (sym h.3)

  front_ends : (text : List ℕ) → R text None → skipping text ≡ text
  unfolding left
  front_ends [] h = refl
  front_ends (b ∷ bs) h =
      elim (cases_Bool (is_blank b)) [
        | inl e ↦
            let no : is_blank b ≡ false = tells (b ∷ bs) None h b bs (blank_is_scalar b e) (ap (λ front. front ++ bs) (sym (encode_ascii b (blank_is_ascii b e)))) in
            absurd (cc)
        | inr e ↦ left_stays (λ b. not (is_no_blank b)) b bs (twice_not (is_blank b) ∙ e)
      ]

  front_done : (text : List ℕ) → IsFullyTrimmed R text → skipping text ≡ text
  front_done text h = by_match h.0 h.1 h.2
    where
      by_match : (o : Option ℕ) → R text o → IfSome o (λ n. n ≡ 0) → skipping text ≡ text
      by_match None found none = front_ends text found
      by_match (Some n) found empty =
          let at = front_at text n found in
          let same : text ≡ at.0 ∷ text = at.2 ∙ ap (λ k. at.0 ∷ drop k text) empty in
          absurd (omega (arith, ap length same))

  front_trimmed : (text rest : List ℕ) → IsTrimStartMatches R text rest → rest ≡ skipping text
  front_trimmed text rest h = sym (front_cuts h.0.0 text rest h.0.1 ∙ front_done rest h.1)

-- ---- the end

module _ (R : List ℕ → Option ℕ → Type 0) (tells : (text : List ℕ) (n : Option ℕ) → R text n → FindsSuffixBy is_blank text n) where
  end_at : (text : List ℕ) (n : ℕ) → R text (Some n) → (c : ℕ) × (is_blank c ≡ true) × (text ≡ take (length text - n) text ++ c ∷ [])
  end_at text n h =
      let found = tells text (Some n) h in (
        found.0,
        found.1,
        sym (take-append-drop (length text - n) text)
            ∙ ap (λ end. take (length text - n) text ++ end) (drop_at_char found.0 text (length text - n) (length text) found.2 (blank_is_ascii found.0 found.1) ∙ ap (λ end. found.0 ∷ end) (drop-length text)),
      )

  -- what is cut off the end is blanks
  end_cuts : (ns : List ℕ) (text rest : List ℕ) → CutsSuffixes R text ns rest → (gone : List ℕ) × (text ≡ rest ++ gone) × All (λ b. is_blank b ≡ true) gone
  end_cuts [] text rest h = ([], sym h ∙ sym (append-nil rest), All-nil (λ b. is_blank b ≡ true))
  end_cuts (n ∷ ns) text rest h =
      let cut = end_cuts ns text h.0 h.1 in
      let at = end_at h.0 n h.2 in
      let whole : h.0 ≡ rest ++ at.0 ∷ [] = at.2 ∙ ap (λ front. front ++ at.0 ∷ []) (sym h.3) in (
        at.0 ∷ cut.0,
        cut.1 ∙ ap (λ front. front ++ cut.0) whole ∙ append_assoc rest (at.0 ∷ []) cut.0,
        All-cons (λ b. is_blank b ≡ true) at.0 cut.0 at.1 cut.2,
      )

  -- and what stays ends with none
  end_done : (text : List ℕ) → IsFullyTrimmed R text → 0 < length text → is_blank (get_or text (length text - 1) 0) ≡ false
  end_done text h some = by_match h.0 h.1 h.2
    where
      by_match : (o : Option ℕ) → R text o → IfSome o (λ n. n ≡ 0) → is_blank (get_or text (length text - 1) 0) ≡ false
      by_match None found none =
          elim (cases_Bool (is_blank (get_or text (length text - 1) 0))) [
            | inl e ↦
                let b : ℕ = get_or text (length text - 1) 0 in
                let front = take (length text - 1) text in
                let whole : text ≡ front ++ b ∷ [] =
                sym (take_all (suc (length text - 1)) text (omega arith)) ∙ take-suc text (length text - 1) 0 (omega arith) in
                tells text None found b front (blank_is_scalar b e) (whole ∙ ap (λ end. front ++ end) (sym (encode_ascii b (blank_is_ascii b e))))
            | inr e ↦ e
          ]
      by_match (Some n) found empty =
          let at = end_at text n found in
          let all : take (length text - n) text ≡ text = ap (λ k. take (length text - k) text) empty ∙ take_all (length text - 0) text (omega arith) in
          let same : text ≡ text ++ at.0 ∷ [] = at.2 ∙ ap (λ front. front ++ at.0 ∷ []) all in
          absurd (omega (arith, ap length same, length-append text (at.0 ∷ [])))

  end_trimmed : (text rest : List ℕ) → IsTrimEndMatches R text rest → rest ≡ without_trailing_blanks text
  end_trimmed text rest h =
      let cut = end_cuts h.0.0 text rest h.0.1 in
      let long : length text ≡ length rest + length cut.0 = ap length cut.1 ∙ length-append rest cut.0 in
      let blanks : (k : ℕ) → length rest ≤ k → k < length text → is_blank (get_or text k 0) ≡ true =
      λ k from_rest in_text.
      subst (λ (bytes : List ℕ). is_blank (get_or bytes k 0) ≡ true) (sym cut.1) (rw (get_or-append_right rest cut.0 (length rest) k 0 refl from_rest) (cut.2 (k - length rest) 0 (omega arith))) in
      let stays : 0 < length rest → is_blank (get_or text (length rest - 1) 0) ≡ false =
      λ some.
      subst (λ (bytes : List ℕ). is_blank (get_or bytes (length rest - 1) 0) ≡ false) (sym cut.1)
      (rw (get_or_append_left rest cut.0 0 (length rest - 1) (omega arith)) (end_done rest h.1 some)) in
      let many : suffix_len is_blank text ≡ length text - length rest = suffix_len_is is_blank text (length rest) 0 (omega arith) (λ k. blanks k) stays in
      let kept : length text - suffix_len is_blank text ≡ length rest = omega arith in
      let front : take (length rest) text ≡ rest = ap (take (length rest)) cut.1 ∙ take-append-le (length rest) rest cut.0 (omega arith) ∙ take_all (length rest) rest (omega arith) in
      sym (ap (λ k. take k text) kept ∙ front)

-- ---- of the calls

abbrev Fronts : List ℕ → Option ℕ → Type 0
Fronts text n = (k : ℕ → Bool) → ((c : ℕ) → char_set_contains (32 ∷ 9 ∷ []) c ≡ k c) → FindsPrefixBy k text n

abbrev Ends : List ℕ → Option ℕ → Type 0
Ends text n = (k : ℕ → Bool) → ((c : ℕ) → char_set_contains (32 ∷ 9 ∷ []) c ≡ k c) → FindsSuffixBy k text n

pub trimmed_start : (text rest : List ℕ) → IsTrimStartMatches Fronts text rest → rest ≡ without_leading_blanks text
unfolding left
trimmed_start text rest h = front_trimmed Fronts (λ bytes n tells. tells is_blank blank_in_set) text rest h

pub trimmed_end : (text rest : List ℕ) → IsTrimEndMatches Ends text rest → rest ≡ without_trailing_blanks text
trimmed_end text rest h = end_trimmed Ends (λ bytes n tells. tells is_blank blank_in_set) text rest h
