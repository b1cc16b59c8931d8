-- How far a walk over what stands in files has come: a front of it was analysed, and nothing there is refused.
use Rattle.zeb_analysis.proofs.Cited.{◌≡◌, ◌∙◌, ℕ, ◌+◌, ◌<◌, zero, suc, List, [], ◌∷◌, ◌++◌, length, map, drop, get_or, Option, Some, None, append_assoc, refl, sym, ap, subst, arith, option_or, append-nil, Directive, AnalysisFault, Analysed, AreAnalysesOf, Standing, first_refusal}
use Rattle.zeb_analysis.specs.Analysing.{refusal_at}

or_assoc : {T : Type 0} (a b c : Option T) → option_or a (option_or b c) ≡ option_or (option_or a b) c
or_assoc None b c = refl
or_assoc (Some x) b c = refl

-- what stands at an index of a mapped list, and what follows it
pub rest_at : {A B : Type 0} (f : A → B) (xs : List A) (i : ℕ) (x : A) → i < length xs → x ≡ get_or xs i x → drop i (map f xs) ≡ f x ∷ drop (suc i) (map f xs)
rest_at f [] i x within there = absurd (omega arith)
rest_at f (y ∷ ys) zero x within there = ap (λ z. f z ∷ map f ys) (sym there)
rest_at f (y ∷ ys) (suc i) x within there = rest_at f ys i x (omega arith) there

module _ (profile : List Directive) (limit : ℕ) where
  pub refusal-append : (before : ℕ) (xs ys : List Standing)
      → first_refusal profile limit before (xs ++ ys) ≡ option_or (first_refusal profile limit before xs) (first_refusal profile limit (before + length xs) ys)
  refusal-append before [] ys = let same : before ≡ before + 0 = omega arith in ap (λ n. first_refusal profile limit n ys) same
  refusal-append before (x ∷ xs) ys =
      let first = refusal_at profile limit before x in
      let same : before + 1 + length xs ≡ before + suc (length xs) = omega arith in
      ap (option_or first) (refusal-append (before + 1) xs ys)
      ∙ or_assoc first (first_refusal profile limit (before + 1) xs) (first_refusal profile limit (before + 1 + length xs) ys)
      ∙ ap (λ n. option_or (option_or first (first_refusal profile limit (before + 1) xs)) (first_refusal profile limit n ys)) same

  pub analyses-append : (xs ys : List Standing) (done more : List Analysed) → AreAnalysesOf profile xs done → AreAnalysesOf profile ys more → AreAnalysesOf profile (xs ++ ys) (done ++ more)
  analyses-append [] ys [] more one two = two
  analyses-append [] ys (a ∷ done) more one two = absurd one
  analyses-append (x ∷ xs) ys [] more one two = absurd one
  analyses-append (x ∷ xs) ys (a ∷ done) more one two = (one.0, analyses-append xs ys done more one.1 two)

  pub as_many : (xs : List Standing) (done : List Analysed) → AreAnalysesOf profile xs done → length done ≡ length xs
  as_many [] [] are = refl
  as_many [] (a ∷ done) are = absurd are
  as_many (x ∷ xs) [] are = absurd are
  as_many (x ∷ xs) (a ∷ done) are = ap suc (as_many xs done are.1)

  -- of the whole, where so many records stand before it, a front was analysed, and this is left
  pub record SoFar (before : ℕ) (whole rest : List Standing) (done : List Analysed) : Type 0 where
    pub front : List Standing
    pub split : whole ≡ front ++ rest
    pub none : first_refusal profile limit before front ≡ None
    pub are : AreAnalysesOf profile front done

  pub at_first : (before : ℕ) (whole : List Standing) → SoFar before whole whole []
  at_first before whole = record { front = []; split = refl; none = refl; are = tt }

  module _ (before : ℕ) (whole : List Standing) (done : List Analysed) where
    pub at_last : SoFar before whole [] done → (first_refusal profile limit before whole ≡ None) × AreAnalysesOf profile whole done
    at_last far =
        let all : whole ≡ far.front = far.split ∙ append-nil far.front in
        (ap (first_refusal profile limit before) all ∙ far.none, subst (λ these. AreAnalysesOf profile these done) (sym all) far.are)

    module _ (these rest : List Standing) (far : SoFar before whole (these ++ rest) done) where
      reached : before + length far.front ≡ before + length done
      reached = omega (arith, as_many far.front done far.are)

      -- these are analysed too
      pub more_done : (more : List Analysed) → first_refusal profile limit (before + length done) these ≡ None → AreAnalysesOf profile these more → SoFar before whole rest (done ++ more)
      more_done more none are = record {
        front = far.front ++ these;
        split = far.split ∙ sym (append_assoc far.front these rest);
        none =
            refusal-append before far.front these
            ∙ ap (λ first. option_or first (first_refusal profile limit (before + length far.front) these)) far.none
            ∙ ap (λ n. first_refusal profile limit n these) reached
            ∙ none;
        are = analyses-append far.front these done more far.are are;
      }

      -- one of these is refused
      pub refused_here : (fault : AnalysisFault) → first_refusal profile limit (before + length done) these ≡ Some fault → first_refusal profile limit before whole ≡ Some fault
      refused_here fault found =
          ap (first_refusal profile limit before) far.split
          ∙ refusal-append before far.front (these ++ rest)
          ∙ ap (λ first. option_or first (first_refusal profile limit (before + length far.front) (these ++ rest))) far.none
          ∙ ap (λ n. first_refusal profile limit n (these ++ rest)) reached
          ∙ refusal-append (before + length done) these rest
          ∙ ap (λ first. option_or first (first_refusal profile limit (before + length done + length these) rest)) found
