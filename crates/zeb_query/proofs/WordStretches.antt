-- The stretches of a text, one after another, and so its words.
use Rattle.zeb_query.proofs.Cited.{◌≡◌, ℕ, List, [], ◌∷◌, ◌++◌, length, refl, sym, ap, subst, ◌∙◌, arith, append_assoc, map, AllPass, flat_map, append-nil, Word, is_blank, IsWritten, Stretch, stretch_text, stretch_word, IsStretch, AreWords, words_at}
use Rattle.zeb_query.proofs.WordReading.{AreWordsAfter, bytes, words_read}
use Rattle.zeb_query.proofs.WordFinding.{words_within}

pub record AreStretches (front text : List ℕ) (words : List Word) : Type 0 where
  pub stretches : List Stretch
  pub blanks : List ℕ
  pub text_is : text ≡ flat_map stretch_text stretches ++ blanks
  pub words_are : words ≡ map stretch_word stretches
  pub blank : AllPass is_blank blanks
  pub each : (before after : List Stretch) (stretch : Stretch) → stretches ≡ before ++ stretch ∷ after
      → IsStretch (front ++ flat_map stretch_text before) stretch (flat_map stretch_text after ++ blanks)

words_from : (front : List ℕ) (stretches : List Stretch) (blanks : List ℕ) → AllPass is_blank blanks → ((before after : List Stretch) (stretch : Stretch) → stretches ≡ before ++ stretch ∷ after → IsStretch (front ++ flat_map stretch_text before) stretch (flat_map stretch_text after ++ blanks)) → AreWordsAfter front (flat_map stretch_text stretches ++ blanks) (map stretch_word stretches)
words_from front [] blanks blank each = blank
words_from front (s ∷ ss) blanks blank each =
    let here = each [] ss s refl in
    let more = flat_map stretch_text ss in (
      s.blanks,
      s.written,
      more ++ blanks,
      append_assoc (s.blanks ++ s.written) more blanks ∙ append_assoc s.blanks s.written (more ++ blanks),
      here.blank,
      here.place ∙ ap (λ f. bytes (f ++ s.blanks)) (append-nil front),
      here.is_written,
      words_from (front ++ stretch_text s) ss blanks blank (λ before after stretch e.
          subst (λ f. IsStretch f stretch (flat_map stretch_text after ++ blanks)) (sym (append_assoc front (stretch_text s) (flat_map stretch_text before)))
          (each (s ∷ before) after stretch (ap (λ ts. s ∷ ts) e))),
    )

first_same : {s t : Stretch} {ss ts : List Stretch} → s ∷ ss ≡ t ∷ ts → s ≡ t
first_same e = cc

rest_same : {s t : Stretch} {ss ts : List Stretch} → s ∷ ss ≡ t ∷ ts → ss ≡ ts
rest_same e = cc

each_from : (front : List ℕ) (s : Stretch) (ss : List Stretch) (blanks : List ℕ) → IsStretch front s (flat_map stretch_text ss ++ blanks) → ((before after : List Stretch) (stretch : Stretch) → ss ≡ before ++ stretch ∷ after → IsStretch ((front ++ stretch_text s) ++ flat_map stretch_text before) stretch (flat_map stretch_text after ++ blanks)) → (before after : List Stretch) (stretch : Stretch) → s ∷ ss ≡ before ++ stretch ∷ after → IsStretch (front ++ flat_map stretch_text before) stretch (flat_map stretch_text after ++ blanks)
each_from front s ss blanks here each [] after stretch e =
    subst (λ t. IsStretch (front ++ []) t (flat_map stretch_text after ++ blanks)) (first_same e)
    (subst (λ ts. IsStretch (front ++ []) s (flat_map stretch_text ts ++ blanks)) (rest_same e)
    (subst (λ f. IsStretch f s (flat_map stretch_text ss ++ blanks)) (sym (append-nil front)) here))
each_from front s ss blanks here each (b ∷ before) after stretch e =
    subst (λ t. IsStretch (front ++ (stretch_text t ++ flat_map stretch_text before)) stretch (flat_map stretch_text after ++ blanks)) (first_same e)
    (subst (λ f. IsStretch f stretch (flat_map stretch_text after ++ blanks)) (append_assoc front (stretch_text s) (flat_map stretch_text before))
    (each before after stretch (rest_same e)))

stretches_from : (front text : List ℕ) (words : List Word) → AreWordsAfter front text words → AreStretches front text words
stretches_from front text [] all = record {
  stretches = [];
  blanks = text;
  text_is = refl;
  words_are = refl;
  blank = all;
  each = λ before after stretch e. absurd (none before after stretch e);
}
  where
    none : (before after : List Stretch) (stretch : Stretch) → [] ≡ before ++ stretch ∷ after → ⊥
    none [] after stretch e = cc
    none (b ∷ bs) after stretch e = cc
stretches_from front text (word ∷ words) are =
    let s : Stretch = record { blanks = are.0; written = are.1; word = word } in
    let more = stretches_from (front ++ (are.0 ++ are.1)) are.2 words are.7 in
    let here : IsStretch front s (flat_map stretch_text more.stretches ++ more.blanks) =
    record { blank = are.4; place = are.5; is_written = subst (λ rest. IsWritten are.1 rest word.spelling word.text) more.text_is are.6 } in
    record {
      stretches = s ∷ more.stretches;
      blanks = more.blanks;
      text_is = are.3 ∙ sym (append_assoc are.0 are.1 are.2) ∙ ap (λ cs. (are.0 ++ are.1) ++ cs) more.text_is
          ∙ sym (append_assoc (are.0 ++ are.1) (flat_map stretch_text more.stretches) more.blanks);
      words_are = ap (λ ws. word ∷ ws) more.words_are;
      blank = more.blank;
      each = each_from front s more.stretches more.blanks here more.each;
    }

pub words_read_are : (text : List ℕ) (words : List Word) → AreWords text words → words ≡ words_at 0 text
words_read_are text words are =
    are.words_are
    ∙ words_read [] (flat_map stretch_text are.stretches ++ are.blanks) (map stretch_word are.stretches) (words_from [] are.stretches are.blanks are.blank are.each)
    ∙ ap (words_at 0) (sym are.text_is)

pub words_are_read : (text : List ℕ) → AreWords text (words_at 0 text)
words_are_read text =
    let found = words_within (length text) [] text (omega arith) in
    let stretches = stretches_from [] text found.0 found.1 in
    subst (AreWords text) (words_read [] text found.0 found.1) (record {
      stretches = stretches.stretches;
      blanks = stretches.blanks;
      text_is = stretches.text_is;
      words_are = stretches.words_are;
      blank = stretches.blank;
      each = stretches.each;
    })
