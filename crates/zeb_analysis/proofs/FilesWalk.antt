-- Files that are analysed one after the other: what stands in those that are left.
use Rattle.zeb_analysis.proofs.Cited.{◌≡◌, ◌∙◌, ℕ, ◌+◌, ◌<◌, suc, List, ◌∷◌, ◌++◌, length, map, drop, get_or, Some, sym, ap, subst, arith, Directive, AnalysisFault, Analysed, Standing, first_refusal, standing_in_all, Extends}
use Rattle.zeb_analysis.specs.Analysing.{standing_in}
use Rattle.zeb_analysis.proofs.SoFar.{SoFar, more_done, refused_here, rest_at}

module _ {F : Type 0} (text_of : F → List ℕ) (files : List F) (index : ℕ) (file : F) (within : index < length files) (there : file ≡ get_or files index file)
    (profile : List Directive) (limit : ℕ) (whole : List Standing) (old : List Analysed)
    (far : SoFar profile limit 0 whole (standing_in_all (index + 1) (drop index (map text_of files))) old) where
  next_file : drop index (map text_of files) ≡ text_of file ∷ drop (index + 1) (map text_of files)
  next_file =
      let next : suc index ≡ index + 1 = omega arith in
      rest_at text_of files index file within there ∙ ap (λ n. text_of file ∷ drop n (map text_of files)) next

  far_here : SoFar profile limit 0 whole (standing_in (index + 1) (text_of file) ++ standing_in_all (index + 1 + 1) (drop (index + 1) (map text_of files))) old
  far_here = subst (λ texts. SoFar profile limit 0 whole (standing_in_all (index + 1) texts) old) next_file far

  from_none : length old ≡ 0 + length old
  from_none = omega arith

  pub file_done : (text : List ℕ) (new : List Analysed) → text ≡ text_of file → Extends profile limit (standing_in (index + 1) text) old new
      → SoFar profile limit 0 whole (standing_in_all (index + 1 + 1) (drop (index + 1) (map text_of files))) new
  file_done text new same extends =
      let these = subst (λ t. Extends profile limit (standing_in (index + 1) t) old new) same extends in
      subst (SoFar profile limit 0 whole (standing_in_all (index + 1 + 1) (drop (index + 1) (map text_of files)))) (sym these.longer)
      (more_done profile limit 0 whole old (standing_in (index + 1) (text_of file)) (standing_in_all (index + 1 + 1) (drop (index + 1) (map text_of files))) far_here these.more
      (ap (λ n. first_refusal profile limit n (standing_in (index + 1) (text_of file))) (sym from_none) ∙ these.none_refused) these.are)

  pub file_refused : (text : List ℕ) (fault : AnalysisFault) → text ≡ text_of file → first_refusal profile limit (length old) (standing_in (index + 1) text) ≡ Some fault
      → first_refusal profile limit 0 whole ≡ Some fault
  file_refused text fault same found =
      refused_here profile limit 0 whole old (standing_in (index + 1) (text_of file)) (standing_in_all (index + 1 + 1) (drop (index + 1) (map text_of files))) far_here fault
      (ap (λ n. first_refusal profile limit n (standing_in (index + 1) (text_of file))) (sym from_none)
      ∙ ap (λ t. first_refusal profile limit (length old) (standing_in (index + 1) t)) (sym same)
      ∙ found)
