-- The first refusal among what stands in files.
use Rattle.zeb_analysis.proofs.Cited.{◌≡◌, ◌↔◌, ◌∙◌, ℕ, ◌+◌, ◌<◌, zero, suc, List, [], ◌∷◌, Option, Some, None, refl, sym, ap, arith, slice_get, option_or, Directive, AnalysisFault, Standing, first_refusal, IsFirstRefused}
use Rattle.zeb_analysis.specs.Analysing.{refusal_at}

module _ (profile : List Directive) (limit : ℕ) where
  -- the same, where so many records stand before them all
  record IsFirstFrom (before : ℕ) (standings : List Standing) (fault : AnalysisFault) : Type 0 where
    k : ℕ
    standing : Standing
    there : slice_get standings k ≡ Some standing
    refused : refusal_at profile limit (before + k) standing ≡ Some fault
    earlier : (i : ℕ) (other : Standing) → i < k → slice_get standings i ≡ Some other → refusal_at profile limit (before + i) other ≡ None

  at_once : (before : ℕ) (standing : Standing) (others : List Standing) (fault : AnalysisFault) → refusal_at profile limit before standing ≡ Some fault
      → IsFirstFrom before (standing ∷ others) fault
  at_once before standing others fault is = record {
    k = 0;
    standing = standing;
    there = refl;
    refused = let same : before + 0 ≡ before = omega arith in ap (λ n. refusal_at profile limit n standing) same ∙ is;
    earlier = λ i other lt. absurd (omega (arith, lt));
  }

  moved : (before i : ℕ) (standing : Standing) → refusal_at profile limit (before + suc i) standing ≡ refusal_at profile limit (before + 1 + i) standing
  moved before i standing = let same : before + suc i ≡ before + 1 + i = omega arith in ap (λ n. refusal_at profile limit n standing) same

  later : (before : ℕ) (standing : Standing) (others : List Standing) (fault : AnalysisFault) → refusal_at profile limit before standing ≡ None
      → IsFirstFrom (before + 1) others fault → IsFirstFrom before (standing ∷ others) fault
  later before standing others fault passed is = record {
    k = suc is.k;
    standing = is.standing;
    there = is.there;
    refused = moved before is.k is.standing ∙ is.refused;
    earlier = by;
  }
    where
      by : (i : ℕ) (other : Standing) → i < suc is.k → slice_get (standing ∷ others) i ≡ Some other → refusal_at profile limit (before + i) other ≡ None
      by zero other lt there =
          let same : standing ≡ other = cc in
          let none : before + 0 ≡ before = omega arith in
          ap (λ n. refusal_at profile limit n other) none ∙ ap (refusal_at profile limit before) (sym same) ∙ passed
      by (suc i) other lt there = moved before i other ∙ is.earlier i other (omega arith) there

  found : (before : ℕ) (standings : List Standing) (fault : AnalysisFault) → first_refusal profile limit before standings ≡ Some fault → IsFirstFrom before standings fault
  found before [] fault is = absurd (cc)
  found before (standing ∷ others) fault is = by (refusal_at profile limit before standing) refl (found (before + 1) others fault) is
    where
      by : (o : Option AnalysisFault) → refusal_at profile limit before standing ≡ o
          → (first_refusal profile limit (before + 1) others ≡ Some fault → IsFirstFrom (before + 1) others fault)
          → option_or o (first_refusal profile limit (before + 1) others) ≡ Some fault → IsFirstFrom before (standing ∷ others) fault
      by (Some other) here rest e = let same : other ≡ fault = cc in at_once before standing others fault (here ∙ ap Some same)
      by None here rest e = later before standing others fault here (rest e)

  counted : (before : ℕ) (standings : List Standing) (fault : AnalysisFault) (k : ℕ) (standing : Standing) → slice_get standings k ≡ Some standing
      → refusal_at profile limit (before + k) standing ≡ Some fault
      → ((i : ℕ) (other : Standing) → i < k → slice_get standings i ≡ Some other → refusal_at profile limit (before + i) other ≡ None)
      → first_refusal profile limit before standings ≡ Some fault
  counted before [] fault k standing there refused earlier = absurd (cc)
  counted before (first ∷ others) fault zero standing there refused earlier =
      let same : first ≡ standing = cc in
      let none : before ≡ before + 0 = omega arith in
      ap (λ o. option_or o (first_refusal profile limit (before + 1) others))
      (ap (refusal_at profile limit before) same ∙ ap (λ n. refusal_at profile limit n standing) none ∙ refused)
  counted before (first ∷ others) fault (suc k) standing there refused earlier =
      let none : before ≡ before + 0 = omega arith in
      let passed : refusal_at profile limit before first ≡ None = ap (λ n. refusal_at profile limit n first) none ∙ earlier 0 first (omega arith) refl in
      ap (λ o. option_or o (first_refusal profile limit (before + 1) others)) passed
      ∙ counted (before + 1) others fault k standing there (sym (moved before k standing) ∙ refused)
      (λ i other lt at. sym (moved before i other) ∙ earlier (suc i) other (omega (arith, lt)) at)

  from_zero : (k : ℕ) (standing : Standing) → refusal_at profile limit (0 + k) standing ≡ refusal_at profile limit k standing
  from_zero k standing = let same : 0 + k ≡ k = omega arith in ap (λ n. refusal_at profile limit n standing) same

  pub first_counts : (standings : List Standing) (fault : AnalysisFault) → first_refusal profile limit 0 standings ≡ Some fault ↔ IsFirstRefused profile limit standings fault
  first_counts standings fault = (
    λ is. let it = found 0 standings fault is in
        record {
          before = it.k;
          standing = it.standing;
          there = it.there;
          refused = sym (from_zero it.k it.standing) ∙ it.refused;
          earlier = λ i other lt at. sym (from_zero i other) ∙ it.earlier i other lt at;
        },
    λ it. counted 0 standings fault it.before it.standing it.there (from_zero it.before it.standing ∙ it.refused)
        (λ i other lt at. from_zero i other ∙ it.earlier i other lt at),
  )
