-- A text has one list of maximal runs.
use Rattle.zeb_text.proofs.Cited.{◌≡◌, ◌≢◌, ℕ, ◌<◌, Bool, true, false, List, [], ◌∷◌, ◌++◌, length, get_or, All, refl, sym, ap, subst, ◌∙◌, arith, inl, inr, AllPass, join_with_byte, NonePass, cases_Bool, append_assoc, append-nil, All-cons, All-nil, All-push, AreRuns, IsCutOff}
use Rattle.zeb_text.specs.Words.{runs_of}
use Rattle.zeb_text.proofs.RunLemmas.{runs_of-nil, runs_of-other, runs_of-run, runs_of-last, runs_of-gap, runs_of-none, front_run}

module _ (p : ℕ → Bool) where
  All-from_none : (cs : List ℕ) → NonePass p cs → All (λ c. p c ≡ false) cs
  All-from_none [] none = All-nil (λ c. p c ≡ false)
  All-from_none (c ∷ cs) none = All-cons (λ d. p d ≡ false) c cs none.0 (All-from_none cs none.1)

  cut_off : (rest : List ℕ) → IsCutOff p rest → 0 < length rest → p (get_or rest 0 0) ≡ false
  cut_off [] off some = absurd (omega arith)
  cut_off (c ∷ rest) off some = off

  some_length : (run : List ℕ) → run ≢ [] → 0 < length run
  some_length [] some = absurd (some refl)
  some_length (c ∷ run) some = omega arith

  -- the runs are those of the definition
  pub are_the_runs : (text : List ℕ) (runs : List (List ℕ)) → AreRuns p text runs → runs ≡ runs_of p text
  are_the_runs text [] none = sym (runs_of-none p text (All-from_none text none))
  are_the_runs text (run ∷ runs) cut =
      let rest = cut.1 in
      sym (
      ap (runs_of p) cut.2 ∙ runs_of-gap p cut.0 (run ++ rest) (All-from_none cut.0 cut.3)
      ∙ front_run p run rest (some_length run cut.4) cut.5 (cut_off rest cut.6) ∙ ap (λ rs. run ∷ rs) (sym (are_the_runs rest runs cut.7))
      )

  -- a separator at the front
  separated : (c : ℕ) (text : List ℕ) (runs : List (List ℕ)) → p c ≡ false → AreRuns p text runs → AreRuns p (c ∷ text) runs
  separated c text [] fails none = (fails, none)
  separated c text (run ∷ runs) fails cut = (c ∷ cut.0, cut.1, ap (λ cs. c ∷ cs) cut.2, (fails, cut.3), cut.4, cut.5, cut.6, cut.7)

  not_nil : (x : ℕ) (xs : List ℕ) → (x ∷ xs) ≢ []
  not_nil x xs e = cc

  after_other : (w : List ℕ) (c : ℕ) (cs : List ℕ) → AllPass p w → p c ≡ false → AreRuns p cs (runs_of p cs) → AreRuns p (w ++ c ∷ cs) (runs_of p (w ++ c ∷ cs))
  after_other [] c cs all fails rest = subst (AreRuns p (c ∷ cs)) (sym (runs_of-other p c cs fails)) (separated c cs (runs_of p cs) fails rest)
  after_other (x ∷ xs) c cs all fails rest =
      subst (AreRuns p ((x ∷ xs) ++ c ∷ cs)) (sym (runs_of-run p x xs c cs all fails))
      ([], c ∷ cs, refl, tt, not_nil x xs, all, fails, separated c cs (runs_of p cs) fails rest)

  runs-from : (w text : List ℕ) → AllPass p w → AreRuns p (w ++ text) (runs_of p (w ++ text))
  runs-from [] [] all = subst (AreRuns p []) (sym (runs_of-nil p)) tt
  runs-from (x ∷ xs) [] all =
      let whole = append-nil (x ∷ xs) in
      subst (AreRuns p ((x ∷ xs) ++ [])) (sym (ap (runs_of p) whole ∙ runs_of-last p x xs all)) ([], [], refl, tt, not_nil x xs, all, tt, tt)
  runs-from w (c ∷ cs) all =
      let grown : p c ≡ true → AreRuns p (w ++ c ∷ cs) (runs_of p (w ++ c ∷ cs)) = λ passes.
      subst (λ text. AreRuns p text (runs_of p text)) (append_assoc w (c ∷ []) cs) (runs-from (w ++ c ∷ []) cs (All-push (λ d. p d ≡ true) w c all passes)) in
      elim (cases_Bool (p c)) [
        | inl passes ↦ grown passes
        | inr fails ↦ after_other w c cs all fails (runs-from [] cs (All-nil (λ d. p d ≡ true)))
      ]

  pub runs-are : (text : List ℕ) → AreRuns p text (runs_of p text)
  runs-are text = runs-from [] text (All-nil (λ c. p c ≡ true))

-- ---- runs with a separator between them

-- each has a character and only such that pass
abbrev pub AllRuns : (ℕ → Bool) → List (List ℕ) → Type 0
AllRuns p [] = Unit {0}
AllRuns p (run ∷ runs) = (0 < length run) × AllPass p run × AllRuns p runs

runs_of-join : (p : ℕ → Bool) (separator : ℕ) (runs : List (List ℕ)) → p separator ≡ false → AllRuns p runs → runs_of p (join_with_byte separator runs) ≡ runs
runs_of-join p separator [] other all = runs_of-nil p
runs_of-join p separator (run ∷ []) other all =
    ap (runs_of p) (sym (append-nil run)) ∙ front_run p run [] all.0 all.1 (λ h. absurd (omega arith)) ∙ ap (λ rs. run ∷ rs) (runs_of-nil p)
runs_of-join p separator (run ∷ next ∷ runs) other all =
    let rest = join_with_byte separator (next ∷ runs) in
    front_run p run (separator ∷ rest) all.0 all.1 (λ _. other)
    ∙ ap (λ rs. run ∷ rs) (runs_of-other p separator rest other ∙ runs_of-join p separator (next ∷ runs) other all.2)

all_runs : (p : ℕ → Bool) (text : List ℕ) (runs : List (List ℕ)) → AreRuns p text runs → AllRuns p runs
all_runs p text [] cut = tt
all_runs p text (run ∷ runs) cut = (some_length p run cut.4, cut.5, all_runs p cut.1 runs cut.7)

pub runs_are_runs : (p : ℕ → Bool) (text : List ℕ) → AllRuns p (runs_of p text)
runs_are_runs p text = all_runs p text (runs_of p text) (runs-are p text)

-- the runs of a text, joined, have these runs
pub runs_of-joined : (p : ℕ → Bool) (separator : ℕ) (text : List ℕ) → p separator ≡ false → runs_of p (join_with_byte separator (runs_of p text)) ≡ runs_of p text
runs_of-joined p separator text other = runs_of-join p separator (runs_of p text) other (runs_are_runs p text)
