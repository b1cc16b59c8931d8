-- Files of which nothing is refused.
use Rattle.zeb_analysis.proofs.Cited.{◌≡◌, ◌∙◌, ℕ, ◌+◌, suc, List, [], ◌∷◌, length, length-append, Option, Some, None, Ok, Err, refl, sym, ap, arith, AllByRecursion, flat_map, option_or, split_of, Analysed, AnalysesTo, first_refusal, standing_from, standing_in_all}
use Rattle.zeb_profile.specs.declared.directives.Directive.{Directive}
use Rattle.zeb_marc.specs.declared.faults.MarcFault.{MarcFault}
use Rattle.zeb_lower_laws.specs.WholeAnalyses.{slices_of, IsWhole}
use Rattle.zeb_analysis.specs.Analysing.{refusal_at, standing_in}
use Rattle.zeb_analysis.proofs.SoFar.{as_many, refusal-append}
use Rattle.zeb_analysis.proofs.WithinLimit.{few_analyses}

pub neither : {T : Type 0} (a b : Option T) → option_or a b ≡ None → (a ≡ None) × (b ≡ None)
neither None b e = (refl, e)
neither (Some x) b e = absurd (cc)

module _ (profile : List Directive) (limit : ℕ) where
  no_fault_stands : (before file nth : ℕ) (fault : MarcFault) → refusal_at profile limit before (record { file = file; nth = nth; content = Err fault }) ≡ None → ⊥
  unfolding refusal_at
  no_fault_stands before file nth fault e = cc

  as_many_from : (before file nth : ℕ) (slices : List (List ℕ)) (last : Option MarcFault) → first_refusal profile limit before (standing_from file nth slices last) ≡ None
      → (last ≡ None) × (length (standing_from file nth slices last) ≡ length slices)
  as_many_from before file nth [] None e = (refl, refl)
  as_many_from before file nth [] (Some fault) e =
      absurd (no_fault_stands before file nth fault (neither (refusal_at profile limit before (record { file = file; nth = nth; content = Err fault })) None e).0)
  as_many_from before file nth (slice ∷ slices) last e =
      let both = neither (refusal_at profile limit before (record { file = file; nth = nth; content = Ok slice })) (first_refusal profile limit (before + 1) (standing_from file (nth + 1) slices last)) e in
      let rest = as_many_from (before + 1) file (nth + 1) slices last both.1 in
      (rest.0, ap suc rest.1)

  as_many_in : (before file : ℕ) (text : List ℕ) → first_refusal profile limit before (standing_in file text) ≡ None
      → ((split_of text).fault ≡ None) × (length (standing_in file text) ≡ length (slices_of text))
  unfolding standing_in
  as_many_in before file text e = as_many_from before file 1 (split_of text).slices (split_of text).fault e

  as_many_in_all : (before file : ℕ) (texts : List (List ℕ)) → first_refusal profile limit before (standing_in_all file texts) ≡ None
      → AllByRecursion (λ text. (split_of text).fault ≡ None) texts × (length (standing_in_all file texts) ≡ length (flat_map slices_of texts))
  as_many_in_all before file [] e = (tt, refl)
  as_many_in_all before file (text ∷ texts) e =
      let these = standing_in file text in
      let others = standing_in_all (file + 1) texts in
      let both = neither (first_refusal profile limit before these) (first_refusal profile limit (before + length these) others) (sym (refusal-append profile limit before these others) ∙ e) in
      let here = as_many_in before file text both.0 in
      let rest = as_many_in_all (before + length these) (file + 1) texts both.1 in
      ((here.0, rest.0), omega (arith, length-append these others, length-append (slices_of text) (flat_map slices_of texts), here.1, rest.1))

  pub is_whole : (texts : List (List ℕ)) (analyses : List Analysed) → AnalysesTo profile limit texts (Ok analyses) → IsWhole limit texts analyses
  is_whole texts analyses is =
      let all_are = as_many profile limit (standing_in_all 1 texts) analyses is.1 in
      let all = as_many_in_all 0 1 texts is.0 in
      record { one_each = all_are ∙ all.1; few = few_analyses profile limit texts analyses is; sound = all.0 }
