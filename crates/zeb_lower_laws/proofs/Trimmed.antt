-- A line's text without the blanks at its ends is what `trimmed` gives, and nothing else is; and its words are its maximal runs.
use Rattle.zeb_profile.proofs.Cited.{◌≡◌, ℕ, ◌+◌, ◌-◌, List, [], ◌∷◌, ◌++◌, length, take, drop, reverse, filter, Bool, true, false, not, refl, sym, ap, subst, ◌∙◌, arith, inl, inr, suc, fun_ext, cases_Bool, and_parts, and_from, append-nil, take-append-drop, take-append-le, take_all, length-append, length-reverse, list_all, list_all-append, prefix_len, suffix_len, slice_split, nat_lt, lt-ltb, is_blank, is_no_blank, trimmed, without_leading_blanks, without_trailing_blanks, words_of}
use Rattle.std.proofs.lemmas.List.{reverse-append, reverse-reverse, length-drop}
use Rattle.zeb_text.specs.Words.{AreRuns, is_not_empty, runs_of}
use Rattle.zeb_text.proofs.MaximalRuns.{are_the_runs, runs-are}
use Rattle.zeb_lower_laws.specs.ProfileLaws.{IsTrimmed}

twice_not : (b : Bool) → not (not b) ≡ b
twice_not true = refl
twice_not false = refl

-- ---- the blanks at the front
abbrev BeginsWithNone : List ℕ → Type 0
BeginsWithNone text = (byte : ℕ) (rest : List ℕ) → text ≡ byte ∷ rest → is_blank byte ≡ false

skips : (b : ℕ) (bs : List ℕ) → is_blank b ≡ true → without_leading_blanks (b ∷ bs) ≡ without_leading_blanks bs
skips b bs e =
    let n : ℕ = prefix_len (λ c. not (is_no_blank c)) bs in
    let more : 1 + n ≡ suc n = omega arith in
    rw (e, more) refl

stays : (b : ℕ) (bs : List ℕ) → is_blank b ≡ false → without_leading_blanks (b ∷ bs) ≡ b ∷ bs
stays b bs e = rw e refl

leads : (text : List ℕ) → (gap : List ℕ) × (text ≡ gap ++ without_leading_blanks text) × (list_all is_blank gap ≡ true) × BeginsWithNone (without_leading_blanks text)
leads [] = ([], refl, refl, λ byte rest e. cc)
leads (b ∷ bs) =
    elim (cases_Bool (is_blank b)) [
      | inl e ↦
          let later = leads bs in (
            b ∷ later.0,
            ap (λ l. b ∷ l) later.1 ∙ ap (λ l. b ∷ (later.0 ++ l)) (sym (skips b bs e)),
            and_from (is_blank b) (list_all is_blank later.0) e later.2,
            subst BeginsWithNone (sym (skips b bs e)) later.3,
          )
      | inr e ↦ (
        [],
        sym (stays b bs e),
        refl,
        subst BeginsWithNone (sym (stays b bs e)) (λ byte rest same. let first : b ≡ byte = cc in subst (λ c. is_blank c ≡ false) first e),
      )
    ]

past : (gap rest : List ℕ) → list_all is_blank gap ≡ true → without_leading_blanks (gap ++ rest) ≡ without_leading_blanks rest
past [] rest all = refl
past (b ∷ gap) rest all =
    let parts = and_parts (is_blank b) (list_all is_blank gap) all in
    skips b (gap ++ rest) parts.0 ∙ past gap rest parts.1

keeps : (text : List ℕ) → BeginsWithNone text → without_leading_blanks text ≡ text
keeps [] none = refl
keeps (b ∷ bs) none = stays b bs (none b bs refl)

-- ---- those at the end are at the front of the text the other way round
turned : (b : ℕ) (bs : List ℕ) → reverse (b ∷ bs) ≡ reverse bs ++ b ∷ []
turned b bs = reverse-append (b ∷ []) bs

all_turned : (bs : List ℕ) → list_all is_blank bs ≡ true → list_all is_blank (reverse bs) ≡ true
all_turned [] all = refl
all_turned (b ∷ bs) all =
    let parts = and_parts (is_blank b) (list_all is_blank bs) all in
    ap (list_all is_blank) (turned b bs) ∙ list_all-append is_blank (reverse bs) (b ∷ [])
    ∙ and_from (list_all is_blank (reverse bs)) (list_all is_blank (b ∷ [])) (all_turned bs parts.1) (and_from (is_blank b) true parts.0 refl)

taken_front : (front back : List ℕ) (k : ℕ) → k ≡ length front → take k (front ++ back) ≡ front
taken_front front back k is = take-append-le k front back (omega (arith, is)) ∙ take_all k front (omega (arith, is))

back_is : (text : List ℕ) → without_trailing_blanks text ≡ reverse (without_leading_blanks (reverse text))
back_is text =
    let n : ℕ = suffix_len is_blank text in
    let m : ℕ = prefix_len (λ c. not (is_no_blank c)) (reverse text) in
    let same : n ≡ m = ap (λ (p : ℕ → Bool). prefix_len p (reverse text)) (sym (fun_ext (λ c. twice_not (is_blank c)))) in
    let left : List ℕ = drop m (reverse text) in
    let gone : List ℕ = take m (reverse text) in
    let whole : text ≡ reverse left ++ reverse gone =
    sym (reverse-reverse text) ∙ ap reverse (sym (take-append-drop m (reverse text))) ∙ reverse-append gone left in
    let long : length text - n ≡ length (reverse left) =
    omega (arith, same, length-reverse left, length-reverse text, length-drop m (reverse text)) in
    ap (take (length text - n)) whole ∙ taken_front (reverse left) (reverse gone) (length text - n) long

-- ---- both
pub is_trimmed : (text : List ℕ) → IsTrimmed text (trimmed text)
is_trimmed text =
    let front = leads text in
    let begun : List ℕ = without_leading_blanks text in
    let back = leads (reverse begun) in
    let left : List ℕ = without_leading_blanks (reverse begun) in
    let is : trimmed text ≡ reverse left = back_is begun in
    let whole : begun ≡ reverse left ++ reverse back.0 = sym (reverse-reverse begun) ∙ ap reverse back.1 ∙ reverse-append back.0 left in
    subst (IsTrimmed text) (sym is) (record {
      before = front.0;
      after = reverse back.0;
      whole = front.1 ∙ ap (λ l. front.0 ++ l) whole;
      blanks = (front.2, all_turned back.0 back.2);
      begins = λ byte rest e. front.3 byte (rest ++ reverse back.0) (whole ∙ ap (λ l. l ++ reverse back.0) e);
      ends = λ rest byte e. back.3 byte (reverse rest) (sym (reverse-reverse left) ∙ ap reverse e ∙ reverse-append rest (byte ∷ []));
    })

-- blanks behind a text that begins and ends with none
behind : (text after : List ℕ) → list_all is_blank after ≡ true → ((rest : List ℕ) (byte : ℕ) → text ≡ rest ++ byte ∷ [] → is_blank byte ≡ false)
    → without_trailing_blanks (text ++ after) ≡ text
behind text after all ends =
    back_is (text ++ after)
    ∙ ap (λ l. reverse (without_leading_blanks l)) (reverse-append text after)
    ∙ ap reverse (past (reverse after) (reverse text) (all_turned after all)
    ∙ keeps (reverse text) (λ byte rest e. ends (reverse rest) byte (sym (reverse-reverse text) ∙ ap reverse e ∙ turned byte rest)))
    ∙ reverse-reverse text

begun_is : (text after : List ℕ) → BeginsWithNone text → list_all is_blank after ≡ true
    → without_trailing_blanks (without_leading_blanks (text ++ after)) ≡ without_trailing_blanks (text ++ after)
begun_is [] after begins all =
    ap without_trailing_blanks (ap without_leading_blanks (sym (append-nil after)) ∙ past after [] all)
    ∙ sym (behind [] after all (λ rest byte e. absurd (omega (arith, ap length e, length-append rest (byte ∷ [])))))
begun_is (b ∷ bs) after begins all = ap without_trailing_blanks (stays b (bs ++ after) (begins b bs refl))

pub only_trimmed : (text left : List ℕ) → IsTrimmed text left → left ≡ trimmed text
only_trimmed text left is =
    let front : without_leading_blanks text ≡ without_leading_blanks (left ++ is.after) =
    ap without_leading_blanks is.whole ∙ past is.before (left ++ is.after) is.blanks.0 in
    sym (ap without_trailing_blanks front ∙ begun_is left is.after is.begins is.blanks.1 ∙ behind left is.after is.blanks.1 is.ends)

-- ---- words
some_bytes : (word : List ℕ) → nat_lt 0 (length word) ≡ is_not_empty word
some_bytes [] = refl
some_bytes (b ∷ bs) = lt-ltb 0 (length (b ∷ bs)) (omega arith)

words_are : (text : List ℕ) → runs_of is_no_blank text ≡ words_of text
unfolding runs_of
words_are text =
    ap (λ (p : ℕ → Bool). filter is_not_empty (slice_split p text)) (fun_ext (λ c. twice_not (is_blank c)))
    ∙ ap (λ (p : List ℕ → Bool). filter p (slice_split is_blank text)) (sym (fun_ext some_bytes))

pub are_words : (text : List ℕ) → AreRuns is_no_blank text (words_of text)
are_words text = subst (AreRuns is_no_blank text) (words_are text) (runs-are is_no_blank text)

pub only_words : (text : List ℕ) (words : List (List ℕ)) → AreRuns is_no_blank text words → words ≡ words_of text
only_words text words are = are_the_runs is_no_blank text words are ∙ words_are text
