-- Records of which none is refused are no more than the limit.
use Rattle.zeb_analysis.proofs.Cited.{◌≡◌, ℕ, ◌+◌, ◌≤◌, ◌<◌, true, false, cond, leb, List, [], ◌∷◌, length, Option, Some, None, Result, Ok, Err, refl, arith, option_or, leb-false, Directive, MarcFault, first_fault, TooManyRecords, Analysed, AnalysesTo, Standing, first_refusal, refused_content, refused_record, standing_in_all}
use Rattle.zeb_analysis.specs.Analysing.{refusal_at}
use Rattle.zeb_analysis.proofs.SoFar.{as_many}

neither : {T : Type 0} (a b : Option T) → option_or a b ≡ None → (a ≡ None) × (b ≡ None)
neither None b e = (refl, e)
neither (Some x) b e = absurd (cc)

module _ (profile : List Directive) (limit : ℕ) where
  content_within : (before file nth : ℕ) (content : Result (List ℕ) MarcFault) → refused_content profile limit before file nth content ≡ None → before < limit
  content_within before file nth (Err fault) e = absurd (cc)
  content_within before file nth (Ok bytes) e =
      elim (leb limit before) as (λ b. leb limit before ≡ b → cond b (Some TooManyRecords) (refused_record profile file nth bytes (first_fault bytes)) ≡ None → before < limit) [
        | true ↦ λ is e'. absurd (cc)
        | false ↦ λ is e'. leb-false limit before is
      ] refl e

  pub within : (before : ℕ) (standing : Standing) → refusal_at profile limit before standing ≡ None → before < limit
  unfolding refusal_at
  within before standing e = content_within before standing.file standing.nth standing.content e

  few_stand : (before : ℕ) (standings : List Standing) → before ≤ limit → first_refusal profile limit before standings ≡ None → before + length standings ≤ limit
  few_stand before [] le e = omega arith
  few_stand before (standing ∷ others) le e =
      let both = neither (refusal_at profile limit before standing) (first_refusal profile limit (before + 1) others) e in
      let here = within before standing both.0 in
      omega (arith, few_stand (before + 1) others (omega (arith, here)) both.1)

  pub few_analyses : (texts : List (List ℕ)) (analyses : List Analysed) → AnalysesTo profile limit texts (Ok analyses) → length analyses ≤ limit
  few_analyses texts analyses is = omega (arith, as_many profile limit (standing_in_all 1 texts) analyses is.1, few_stand 0 (standing_in_all 1 texts) (omega arith) is.0)
