-- Cutting a text into runs, one character at a time: what is found, and the run in hand.
use Rattle.zeb_text.proofs.Cited.{◌≡◌, ℕ, ◌+◌, ◌<◌, Bool, true, false, List, [], ◌∷◌, ◌++◌, length, map, drop, encode_utf8, encode_utf8_all, refl, sym, ap, ◌∙◌, arith, AllPass, append_assoc, append-nil, map-append, nil_from_length, encodes-append, length-le-encodes, All-nil, All-push}
use Rattle.zeb_text.specs.Words.{runs_of}
use Rattle.zeb_text.proofs.RunLemmas.{runs_of-nil, runs_of-other, runs_of-run, runs_of-last}

-- after n characters of the text: the runs found, as bytes, and the run in hand
pub record RunsSoFar (p : ℕ → Bool) (text : List ℕ) (n : ℕ) (found : List (List ℕ)) (bytes : List ℕ) : Type 0 where
  pub before : List (List ℕ)
  pub run : List ℕ
  pub found_is : found ≡ map encode_utf8_all before
  pub bytes_is : bytes ≡ encode_utf8_all run
  pub passes : AllPass p run
  pub whole : before ++ runs_of p (run ++ drop n text) ≡ runs_of p text

some_characters : (run : List ℕ) → 0 < length (encode_utf8_all run) → 0 < length run
some_characters [] some = absurd (omega arith)
some_characters (c ∷ run) some = omega arith

no_characters : (run : List ℕ) → length (encode_utf8_all run) ≡ 0 → run ≡ []
no_characters run none = nil_from_length run (omega (arith, length-le-encodes run))

encodes-push : (run : List ℕ) (c : ℕ) → encode_utf8_all (run ++ c ∷ []) ≡ encode_utf8_all run ++ encode_utf8 c
encodes-push run c = encodes-append run (c ∷ []) ∙ ap (λ bytes. encode_utf8_all run ++ bytes) (append-nil (encode_utf8 c))

module _ (p : ℕ → Bool) where
  ended_run : (run : List ℕ) (c : ℕ) (rest : List ℕ) → 0 < length run → AllPass p run → p c ≡ false → runs_of p (run ++ c ∷ rest) ≡ run ∷ runs_of p rest
  ended_run [] c rest some all fails = absurd (omega arith)
  ended_run (x ∷ xs) c rest some all fails = runs_of-run p x xs c rest all fails

  final_run : (run : List ℕ) → 0 < length run → AllPass p run → runs_of p run ≡ run ∷ []
  final_run [] some all = absurd (omega arith)
  final_run (x ∷ xs) some all = runs_of-last p x xs all

module _ (p : ℕ → Bool) (text : List ℕ) where
  pub at_start : RunsSoFar p text 0 [] []
  at_start = record { before = []; run = []; found_is = refl; bytes_is = refl; passes = All-nil (λ c. p c ≡ true); whole = refl }

  -- a character that belongs to the run
  pub grows : (n c : ℕ) (found : List (List ℕ)) (bytes : List ℕ) → RunsSoFar p text n found bytes → drop n text ≡ c ∷ drop (n + 1) text → p c ≡ true → RunsSoFar p text (n + 1) found (bytes ++ encode_utf8 c)
  grows n c found bytes s next belongs = record {
    before = s.before;
    run = s.run ++ c ∷ [];
    found_is = s.found_is;
    bytes_is = ap (λ front. front ++ encode_utf8 c) s.bytes_is ∙ sym (encodes-push s.run c);
    passes = All-push (λ d. p d ≡ true) s.run c s.passes belongs;
    whole = ap (λ cs. s.before ++ runs_of p cs) (append_assoc s.run (c ∷ []) (drop (n + 1) text) ∙ ap (λ rest. s.run ++ rest) (sym next)) ∙ s.whole;
  }

  -- another character, after a run
  pub ends : (n c : ℕ) (found : List (List ℕ)) (bytes : List ℕ) → RunsSoFar p text n found bytes → drop n text ≡ c ∷ drop (n + 1) text → p c ≡ false → 0 < length bytes → RunsSoFar p text (n + 1) (found ++ bytes ∷ []) []
  ends n c found bytes s next fails some =
      let long : 0 < length s.run = some_characters s.run (rw (← s.bytes_is) some) in
      let rest = drop (n + 1) text in
      record {
        before = s.before ++ s.run ∷ [];
        run = [];
        found_is = rw (s.found_is, s.bytes_is, map-append);
        bytes_is = refl;
        passes = All-nil (λ d. p d ≡ true);
        whole = append_assoc s.before (s.run ∷ []) (runs_of p rest) ∙ ap (λ runs. s.before ++ runs) (sym (ended_run p s.run c rest long s.passes fails))
            ∙ ap (λ cs. s.before ++ runs_of p (s.run ++ cs)) (sym next) ∙ s.whole;
      }

  -- another character, after no run
  pub skips : (n c : ℕ) (found : List (List ℕ)) (bytes : List ℕ) → RunsSoFar p text n found bytes → drop n text ≡ c ∷ drop (n + 1) text → p c ≡ false → length bytes ≡ 0 → RunsSoFar p text (n + 1) found bytes
  skips n c found bytes s next fails none =
      let empty : s.run ≡ [] = no_characters s.run (rw (← s.bytes_is) none) in
      let rest = drop (n + 1) text in
      record {
        before = s.before;
        run = s.run;
        found_is = s.found_is;
        bytes_is = s.bytes_is;
        passes = s.passes;
        whole = ap (λ run. s.before ++ runs_of p (run ++ rest)) empty ∙ ap (λ runs. s.before ++ runs) (sym (runs_of-other p c rest fails))
            ∙ ap (λ cs. s.before ++ runs_of p cs) (sym next) ∙ ap (λ run. s.before ++ runs_of p (run ++ drop n text)) (sym empty) ∙ s.whole;
      }

  -- the end, with a run in hand and without one
  pub last_run : (n : ℕ) (found : List (List ℕ)) (bytes : List ℕ) → RunsSoFar p text n found bytes → drop n text ≡ [] → 0 < length bytes → found ++ bytes ∷ [] ≡ map encode_utf8_all (runs_of p text)
  last_run n found bytes s over some =
      let long : 0 < length s.run = some_characters s.run (rw (← s.bytes_is) some) in
      let all = ap (λ runs. s.before ++ runs) (sym (final_run p s.run long s.passes))
      ∙ ap (λ cs. s.before ++ runs_of p cs) (sym (append-nil s.run) ∙ ap (λ rest. s.run ++ rest) (sym over)) ∙ s.whole in
      rw (s.found_is, s.bytes_is) (sym (map-append encode_utf8_all s.before (s.run ∷ [])) ∙ ap (map encode_utf8_all) all)

  pub no_run : (n : ℕ) (found : List (List ℕ)) (bytes : List ℕ) → RunsSoFar p text n found bytes → drop n text ≡ [] → length bytes ≡ 0 → found ≡ map encode_utf8_all (runs_of p text)
  no_run n found bytes s over none =
      let empty : s.run ≡ [] = no_characters s.run (rw (← s.bytes_is) none) in
      let all = sym (append-nil s.before) ∙ ap (λ runs. s.before ++ runs) (sym (runs_of-nil p))
      ∙ ap (λ rest. s.before ++ runs_of p rest) (sym over) ∙ ap (λ run. s.before ++ runs_of p (run ++ drop n text)) (sym empty) ∙ s.whole in
      s.found_is ∙ ap (map encode_utf8_all) all
