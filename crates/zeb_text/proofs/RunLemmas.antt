-- How the runs of a text grow, character by character.
use Rattle.zeb_text.proofs.Cited.{◌≡◌, ℕ, zero, suc, ◌<◌, ◌≤◌, Bool, true, false, not, List, [], ◌∷◌, ◌++◌, filter, length, get_or, take, drop, All, refl, sym, ap, ◌∙◌, arith, add-zero, AllPass, false≢true, append-nil, take-append-drop, get_or-drop, get_or-take, get_or_default, length-take, length-take-le, length-drop, All-head, All-tail, slice_split-cons_yes, slice_split_none, slice_split_at, is_not_empty}
use Rattle.zeb_text.specs.Words.{runs_of}

-- what holds of each place
pub All-from_places : (P : ℕ → Type 0) (xs : List ℕ) → ((k : ℕ) → k < length xs → P (get_or xs k 0)) → All P xs
All-from_places P xs h k d lt = rw (get_or_default xs k d 0 lt) (h k lt)

-- what holds of each place below i
pub All-take : (P : ℕ → Type 0) (xs : List ℕ) (i : ℕ) → ((k : ℕ) → k < i → P (get_or xs k 0)) → All P (take i xs)
All-take P xs i h k d lt =
    let below : k < i = omega (arith, length-take i xs) in
    let inside : k < length xs = omega (arith, length-take i xs) in
    rw (get_or-take i xs k d below) (rw (get_or_default xs k d 0 inside) (h k below))

module _ (p : ℕ → Bool) where
  passes-not : (xs : List ℕ) → AllPass p xs → All (λ c. not (p c) ≡ false) xs
  passes-not xs all k d lt = ap not (all k d lt)

  pub runs_of-nil : runs_of p [] ≡ []
  unfolding runs_of
  runs_of-nil = refl

  pub runs_of-other : (c : ℕ) (xs : List ℕ) → p c ≡ false → runs_of p (c ∷ xs) ≡ runs_of p xs
  unfolding runs_of
  runs_of-other c xs h = ap (filter is_not_empty) (slice_split-cons_yes (λ d. not (p d)) c xs (ap not h))

  pub runs_of-run : (x : ℕ) (xs : List ℕ) (c : ℕ) (rest : List ℕ) → AllPass p (x ∷ xs) → p c ≡ false → runs_of p ((x ∷ xs) ++ c ∷ rest) ≡ (x ∷ xs) ∷ runs_of p rest
  unfolding runs_of
  runs_of-run x xs c rest all h =
      ap (filter is_not_empty) (slice_split_at (λ d. not (p d)) (x ∷ xs) c rest (passes-not (x ∷ xs) all) (ap not h))

  pub runs_of-last : (x : ℕ) (xs : List ℕ) → AllPass p (x ∷ xs) → runs_of p (x ∷ xs) ≡ (x ∷ xs) ∷ []
  unfolding runs_of
  runs_of-last x xs all = ap (filter is_not_empty) (slice_split_none (λ d. not (p d)) (x ∷ xs) (passes-not (x ∷ xs) all))

  -- a separator of any length
  pub runs_of-gap : (gap rest : List ℕ) → All (λ c. p c ≡ false) gap → runs_of p (gap ++ rest) ≡ runs_of p rest
  runs_of-gap [] rest all = refl
  runs_of-gap (c ∷ gap) rest all =
      runs_of-other c (gap ++ rest) (All-head (λ d. p d ≡ false) c gap all) ∙ runs_of-gap gap rest (All-tail (λ d. p d ≡ false) c gap all)

  -- a run at the front of the text, by its places: a separator stands after it, or nothing
  pub front_run : (run rest : List ℕ) → 0 < length run → AllPass p run → (0 < length rest → p (get_or rest 0 0) ≡ false) → runs_of p (run ++ rest) ≡ run ∷ runs_of p rest
  front_run [] rest some all after = absurd (omega arith)
  front_run (x ∷ xs) [] some all after = ap (runs_of p) (append-nil (x ∷ xs)) ∙ runs_of-last x xs all ∙ ap (λ runs. (x ∷ xs) ∷ runs) (sym runs_of-nil)
  front_run (x ∷ xs) (c ∷ rest) some all after =
      let other = after (omega arith) in
      runs_of-run x xs c rest all other ∙ ap (λ runs. (x ∷ xs) ∷ runs) (sym (runs_of-other c rest other))

  not_zero : (j : ℕ) (from : List ℕ) → p (get_or from 0 0) ≡ true → (j < length from → p (get_or from j 0) ≡ false) → 0 < length from → 0 < j
  not_zero zero from here after some = absurd (false≢true (sym (after some) ∙ here))
  not_zero (suc j) from here after some = omega arith

  -- the first run, by its places
  pub runs_of-first : (text : List ℕ) (i j : ℕ) → i < length text → ((k : ℕ) → k < i → p (get_or text k 0) ≡ false) → p (get_or text i 0) ≡ true
      → j ≤ length (drop i text) → ((k : ℕ) → k < j → p (get_or (drop i text) k 0) ≡ true) → (j < length (drop i text) → p (get_or (drop i text) j 0) ≡ false)
      → runs_of p text ≡ take j (drop i text) ∷ runs_of p (drop j (drop i text))
  runs_of-first text i j inside before here fits within after =
      let from = drop i text in
      let gap : runs_of p text ≡ runs_of p from =
      ap (runs_of p) (sym (take-append-drop i text)) ∙ runs_of-gap (take i text) from (All-take (λ c. p c ≡ false) text i before) in
      let some : 0 < j = not_zero j from (rw (get_or-drop, add-zero) here) after (omega (arith, length-drop i text)) in
      let long : 0 < length (take j from) = rw (length-take-le j from fits) some in
      let next : 0 < length (drop j from) → p (get_or (drop j from) 0 0) ≡ false = λ h. rw (get_or-drop, add-zero) (after (omega (arith, length-drop j from))) in
      gap ∙ ap (runs_of p) (sym (take-append-drop j from)) ∙ front_run (take j from) (drop j from) long (All-take (λ c. p c ≡ true) from j within) next

  -- no run where no character passes
  pub runs_of-none : (text : List ℕ) → All (λ c. p c ≡ false) text → runs_of p text ≡ []
  runs_of-none text all = ap (runs_of p) (sym (append-nil text)) ∙ runs_of-gap text [] all ∙ runs_of-nil
