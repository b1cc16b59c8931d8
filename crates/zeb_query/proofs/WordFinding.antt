-- Every text has words that stand in it one after another.
use Rattle.zeb_query.proofs.Cited.{◌≡◌, ◌≢◌, ℕ, zero, suc, ◌<◌, ◌≤◌, true, false, List, [], ◌∷◌, ◌++◌, ◌⊎◌, length, eqb, encode_utf8_all, inl, inr, refl, sym, ap, subst, ◌∙◌, arith, append_assoc, length-append, map, AllPass, flat_map, NonePass, cases_Bool, eqb-false, exact_unsigned_eq, append-nil, All-cons, All-nil, Spelling, Plain, Quoted, Bad, Word, is_blank, Sign, Itself, Escaped, sign_text, meant, is_sign, IsCutOff, IsWritten, is_plain, is_braced, is_quoted, is_open}
use Rattle.zeb_query.proofs.WordReading.{AreWordsAfter, bytes}

-- a text as characters that aren't blanks, and what follows them
pub record SplitRun (text : List ℕ) : Type 0 where
  pub run : List ℕ
  pub rest : List ℕ
  pub is : text ≡ run ++ rest
  pub none : NonePass is_blank run
  pub cut : IsCutOff rest

split_run : (text : List ℕ) → SplitRun text
split_run [] = record { run = []; rest = []; is = refl; none = tt; cut = tt }
split_run (c ∷ cs) =
    let more = split_run cs in
    elim (cases_Bool (is_blank c)) [
      | inl blank ↦ record { run = []; rest = c ∷ cs; is = refl; none = tt; cut = blank }
      | inr solid ↦ record { run = c ∷ more.run; rest = more.rest; is = ap (λ ds. c ∷ ds) more.is; none = (solid, more.none); cut = more.cut }
    ]

-- a text as signs, and a closing quote with what follows, or the end
pub record SplitSigns (text : List ℕ) : Type 0 where
  pub signs : List Sign
  pub last : List ℕ
  pub is : text ≡ flat_map sign_text signs ++ last
  pub all : AllPass is_sign signs
  pub end : ((last ≡ []) ⊎ (last ≡ 92 ∷ [])) ⊎ ((rest : List ℕ) × (last ≡ 34 ∷ rest))

one_more : (sign : Sign) (text : List ℕ) → is_sign sign ≡ true → SplitSigns text → SplitSigns (sign_text sign ++ text)
one_more sign text good split = record {
  signs = sign ∷ split.signs;
  last = split.last;
  is = ap (λ cs. sign_text sign ++ cs) split.is ∙ sym (append_assoc (sign_text sign) (flat_map sign_text split.signs) split.last);
  all = All-cons (λ s. is_sign s ≡ true) sign split.signs good split.all;
  end = split.end;
}

-- a character between quotes is a closing quote, a backslash or a sign by itself
kinds : (c : ℕ) → (c ≡ 34) ⊎ ((c ≡ 92) ⊎ (is_sign (Itself c) ≡ true))
kinds c = elim (cases_Bool (eqb c 34)) [
  | inl quote ↦ inl (exact_unsigned_eq c 34 quote)
  | inr other ↦ elim (cases_Bool (eqb c 92)) [
    | inl slash ↦ inr (inl (exact_unsigned_eq c 92 slash))
    | inr letter ↦ inr (inr (rw (other, letter) refl))
  ]
]

split_quote : (c : ℕ) (cs : List ℕ) → c ≡ 34 → SplitSigns (c ∷ cs)
split_quote c cs quote = record { signs = []; last = c ∷ cs; is = refl; all = All-nil (λ s. is_sign s ≡ true); end = inr (cs, ap (λ d. d ∷ cs) quote) }

split_signs : (text : List ℕ) → SplitSigns text
split_signs [] = record { signs = []; last = []; is = refl; all = All-nil (λ s. is_sign s ≡ true); end = inl (inl refl) }
split_signs (c ∷ []) = elim (kinds c) [
  | inl quote ↦ split_quote c [] quote
  | inr other ↦ elim other [
    | inl slash ↦ record { signs = []; last = c ∷ []; is = refl; all = All-nil (λ s. is_sign s ≡ true); end = inl (inr (ap (λ d. d ∷ []) slash)) }
    | inr good ↦ one_more (Itself c) [] good (split_signs [])
  ]
]
split_signs (c ∷ d ∷ ds) =
    let next = split_signs (d ∷ ds) in
    let after = split_signs ds in
    elim (kinds c) [
      | inl quote ↦ split_quote c (d ∷ ds) quote
      | inr other ↦ elim other [
        | inl slash ↦ subst (λ b. SplitSigns (b ∷ d ∷ ds)) (sym slash) (one_more (Escaped d) ds refl after)
        | inr good ↦ one_more (Itself c) (d ∷ ds) good next
      ]
    ]

-- the word at the front of a text
pub record FirstWord (text : List ℕ) : Type 0 where
  pub written : List ℕ
  pub rest : List ℕ
  pub spelling : Spelling
  pub meaning : List ℕ
  pub is : text ≡ written ++ rest
  pub some : 0 < length written
  pub is_written : IsWritten written rest spelling meaning

first_plain : (c : ℕ) (cs : List ℕ) → is_blank c ≡ false → c ≢ 34 → SplitRun cs → FirstWord (c ∷ cs)
first_plain c cs solid quote split =
    let whole : c ∷ cs ≡ (c ∷ split.run) ++ split.rest = ap (λ ds. c ∷ ds) split.is in
    elim (cases_Bool (eqb c 123)) [
      | inl brace ↦
          subst (λ b. FirstWord (b ∷ cs)) (sym (exact_unsigned_eq c 123 brace)) (record {
            written = 123 ∷ split.run;
            rest = split.rest;
            spelling = Bad;
            meaning = encode_utf8_all (123 ∷ split.run);
            is = ap (λ ds. 123 ∷ ds) split.is;
            some = omega arith;
            is_written = is_braced split.run split.rest split.none split.cut;
          })
      | inr other ↦ record {
        written = c ∷ split.run;
        rest = split.rest;
        spelling = Plain;
        meaning = encode_utf8_all (c ∷ split.run);
        is = whole;
        some = omega arith;
        is_written = is_plain c split.run split.rest quote (eqb-false c 123 other) (solid, split.none) split.cut;
      }
    ]

first_quoted : (cs : List ℕ) → SplitSigns cs → FirstWord (34 ∷ cs)
first_quoted cs split =
    let inside = flat_map sign_text split.signs in
    let text = encode_utf8_all (map meant split.signs) in
    elim split.end [
      | inl end ↦ record {
        written = 34 ∷ (inside ++ split.last);
        rest = [];
        spelling = Bad;
        meaning = text;
        is = ap (λ ds. 34 ∷ ds) (split.is ∙ sym (append-nil (inside ++ split.last)));
        some = omega arith;
        is_written = is_open split.signs split.last split.all end;
      }
      | inr closed ↦ record {
        written = 34 ∷ (inside ++ 34 ∷ []);
        rest = closed.0;
        spelling = Quoted;
        meaning = text;
        is = ap (λ ds. 34 ∷ ds) (split.is ∙ ap (λ last. inside ++ last) closed.1 ∙ sym (append_assoc inside (34 ∷ []) closed.0));
        some = omega arith;
        is_written = is_quoted split.signs closed.0 split.all;
      }
    ]

first_word : (c : ℕ) (cs : List ℕ) → is_blank c ≡ false → FirstWord (c ∷ cs)
first_word c cs solid = elim (cases_Bool (eqb c 34)) [
  | inl quote ↦ subst (λ b. FirstWord (b ∷ cs)) (sym (exact_unsigned_eq c 34 quote)) (first_quoted cs (split_signs cs))
  | inr other ↦ first_plain c cs solid (eqb-false c 34 other) (split_run cs)
]

-- a blank more at the front
blank_before : (front : List ℕ) (c : ℕ) (cs : List ℕ) (words : List Word) → is_blank c ≡ true → AreWordsAfter (front ++ c ∷ []) cs words → AreWordsAfter front (c ∷ cs) words
blank_before front c cs [] blank all = All-cons (λ d. is_blank d ≡ true) c cs blank all
blank_before front c cs (word ∷ words) blank are =
    let before : (more : List ℕ) → (front ++ c ∷ []) ++ more ≡ front ++ c ∷ more = λ more. append_assoc front (c ∷ []) more in (
      c ∷ are.0,
      are.1,
      are.2,
      ap (λ ds. c ∷ ds) are.3,
      All-cons (λ d. is_blank d ≡ true) c are.0 blank are.4,
      are.5 ∙ ap bytes (before are.0),
      are.6,
      subst (λ f. AreWordsAfter f are.2 words) (before (are.0 ++ are.1)) are.7,
    )

pub words_within : (most : ℕ) (front text : List ℕ) → length text ≤ most → (words : List Word) × AreWordsAfter front text words
words_within most front [] few = ([], All-nil (λ d. is_blank d ≡ true))
words_within zero front (c ∷ cs) few = absurd (omega arith)
words_within (suc most) front (c ∷ cs) few = elim (cases_Bool (is_blank c)) [
  | inl blank ↦
      let more = words_within most (front ++ c ∷ []) cs (omega arith) in
      (more.0, blank_before front c cs more.0 blank more.1)
  | inr solid ↦
      let first = first_word c cs solid in
      let shorter : length first.rest ≤ most = omega (arith, ap length first.is, length-append first.written first.rest, first.some) in
      let more = words_within most (front ++ first.written) first.rest shorter in (
        record { place = bytes (front ++ []); spelling = first.spelling; text = first.meaning } ∷ more.0,
        ([], first.written, first.rest, first.is, All-nil (λ d. is_blank d ≡ true), refl, first.is_written, more.1),
      )
]
