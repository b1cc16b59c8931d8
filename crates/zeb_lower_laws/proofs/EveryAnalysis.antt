-- What is answered of files is there: the first refusal, or an analysis of each record.
use Rattle.zeb_analysis.proofs.Cited.{◌≡◌, ◌∙◌, ℕ, ◌+◌, zero, suc, Bool, true, false, cond, List, [], ◌∷◌, Option, Some, None, Result, Ok, Err, refl, sym, ap, arith, slice_get, unit_targets, identifier_of, IsOccurrence, occurrence_total, occurrences_apart, Analysed, AnalysesTo, AreAnalysesOf, IsAnalysisOf, Standing, UnitText, first_refusal, refused_content, refused_name, refused_record, standing_in_all, units_in}
use Rattle.std.specs.Prelude.{nat_le}
use Rattle.zeb_profile.specs.declared.directives.Directive.{Directive}
use Rattle.zeb_marc.specs.declared.faults.MarcFault.{MarcFault}
use Rattle.zeb_extract.specs.declared.naming.IdentFault.{IdentFault}
use Rattle.zeb_analysis.specs.declared.faults.AnalysisFault.{AnalysisFault}
use Rattle.zeb_analysis.specs.declared.faults.AnalysisFault.TheVariants.{TooManyRecords}
use Rattle.zeb_keys.specs.Order.{occurrence_order}
use Rattle.zeb_marc.specs.Records.{first_fault}
use Rattle.zeb_extract.proofs.Cited.{listing}
use Rattle.zeb_extract.proofs.Listed.{occurrences_are_listed}
use Rattle.zeb_analysis.specs.Analysing.{refusal_at}
use Rattle.zeb_lower_laws.proofs.Accepted.{neither}
use Rattle.zeb_lower_laws.proofs.RisingLists.{RisingOf, rising_of}

module _ (profile : List Directive) where
  -- a record's occurrences, each once, in order
  pub occurrences_of : (units : List UnitText) → RisingOf occurrence_order (IsOccurrence (unit_targets profile) units)
  occurrences_of units =
      let all = rising_of occurrence_total occurrences_apart (listing (unit_targets profile) units) in
      record {
        list = all.list;
        rises = all.rises;
        each = λ o. let are = occurrences_are_listed (unit_targets profile) units o in (λ h. are.0 ((all.each o).0 h), λ is. (all.each o).1 (are.1 is));
      }

  analysis_with : (standing : Standing) (bytes ident : List ℕ) → standing.content ≡ Ok bytes → first_fault bytes ≡ None → identifier_of profile (units_in bytes) ≡ Ok ident
      → (analysis : Analysed) × IsAnalysisOf profile standing analysis
  analysis_with standing bytes ident stands sound called =
      let all = occurrences_of (units_in bytes) in (
        record { file = standing.file; nth = standing.nth; ident = ident; occurrences = all.list },
        record { bytes = bytes; stands = stands; same_file = refl; same_place = refl; sound = sound; called = called; rising = all.rises; members = all.each },
      )

  module _ (limit before : ℕ) (standing : Standing) where
    abbrev IsThere : Type 0
    IsThere = (analysis : Analysed) × IsAnalysisOf profile standing analysis

    by_name : (bytes : List ℕ) (name : Result (List ℕ) IdentFault) → standing.content ≡ Ok bytes → first_fault bytes ≡ None → identifier_of profile (units_in bytes) ≡ name
        → refused_name standing.file standing.nth name ≡ None → IsThere
    by_name bytes (Ok ident) stands sound called passed = analysis_with standing bytes ident stands sound called
    by_name bytes (Err fault) stands sound called passed = absurd (cc)

    by_fault : (bytes : List ℕ) (fault : Option MarcFault) → standing.content ≡ Ok bytes → first_fault bytes ≡ fault
        → refused_record profile standing.file standing.nth bytes fault ≡ None → IsThere
    by_fault bytes None stands sound passed = by_name bytes (identifier_of profile (units_in bytes)) stands sound refl passed
    by_fault bytes (Some fault) stands sound passed = absurd (cc)

    by_limit : (bytes : List ℕ) (over : Bool) → standing.content ≡ Ok bytes
        → cond over (Some TooManyRecords) (refused_record profile standing.file standing.nth bytes (first_fault bytes)) ≡ None → IsThere
    by_limit bytes false stands passed = by_fault bytes (first_fault bytes) stands refl passed
    by_limit bytes true stands passed = absurd (cc)

    by_content : (content : Result (List ℕ) MarcFault) → standing.content ≡ content → refused_content profile limit before standing.file standing.nth content ≡ None → IsThere
    by_content (Ok bytes) stands passed = by_limit bytes (nat_le limit before) stands passed
    by_content (Err fault) stands passed = absurd (cc)

    analysis_there : refusal_at profile limit before standing ≡ None → IsThere
    unfolding refusal_at
    analysis_there passed = by_content standing.content refl passed

  each_there : (limit before : ℕ) (standings : List Standing) → first_refusal profile limit before standings ≡ None → (analyses : List Analysed) × AreAnalysesOf profile standings analyses
  each_there limit before [] passed = ([], tt)
  each_there limit before (standing ∷ others) passed =
      let parts = neither (refusal_at profile limit before standing) (first_refusal profile limit (before + 1) others) passed in
      let first = analysis_there limit before standing parts.0 in
      let rest = each_there limit (before + 1) others parts.1 in
      (first.0 ∷ rest.0, (first.1, rest.1))

  pub analyses_there : (limit : ℕ) (texts : List (List ℕ)) → (said : Result (List Analysed) AnalysisFault) × AnalysesTo profile limit texts said
  analyses_there limit texts = from (first_refusal profile limit 0 (standing_in_all 1 texts)) refl
    where
      from : (fault : Option AnalysisFault) → first_refusal profile limit 0 (standing_in_all 1 texts) ≡ fault → (said : Result (List Analysed) AnalysisFault) × AnalysesTo profile limit texts said
      from None none = let all = each_there limit 0 (standing_in_all 1 texts) none in (Ok all.0, (none, all.1))
      from (Some fault) is = (Err fault, is)

  -- where nothing is refused first, nothing is refused
  none_refused : (limit before : ℕ) (standings : List Standing) → first_refusal profile limit before standings ≡ None
      → (k : ℕ) (standing : Standing) → slice_get standings k ≡ Some standing → refusal_at profile limit (before + k) standing ≡ None
  none_refused limit before [] passed k standing there = absurd (cc)
  none_refused limit before (first ∷ others) passed zero standing there =
      let parts = neither (refusal_at profile limit before first) (first_refusal profile limit (before + 1) others) passed in
      let same : first ≡ standing = cc in
      let none : before + 0 ≡ before = omega arith in
      ap (λ n. refusal_at profile limit n standing) none ∙ ap (refusal_at profile limit before) (sym same) ∙ parts.0
  none_refused limit before (first ∷ others) passed (suc k) standing there =
      let parts = neither (refusal_at profile limit before first) (first_refusal profile limit (before + 1) others) passed in
      let moved : before + suc k ≡ before + 1 + k = omega arith in
      ap (λ n. refusal_at profile limit n standing) moved ∙ none_refused limit (before + 1) others parts.1 k standing there

  -- where something is refused, there is a refusal
  pub refusal_there : (limit : ℕ) (texts : List (List ℕ)) (k : ℕ) (standing : Standing) (fault : AnalysisFault) → slice_get (standing_in_all 1 texts) k ≡ Some standing
      → refusal_at profile limit k standing ≡ Some fault → (first : AnalysisFault) × AnalysesTo profile limit texts (Err first)
  refusal_there limit texts k standing fault there refused = from (first_refusal profile limit 0 (standing_in_all 1 texts)) refl
    where
      from : (first : Option AnalysisFault) → first_refusal profile limit 0 (standing_in_all 1 texts) ≡ first → (first : AnalysisFault) × AnalysesTo profile limit texts (Err first)
      from (Some first) is = (first, is)
      from None none =
          let passed = none_refused limit 0 (standing_in_all 1 texts) none k standing there in
          let same : 0 + k ≡ k = omega arith in
          let here : None ≡ Some fault = sym passed ∙ ap (λ n. refusal_at profile limit n standing) same ∙ refused in
          absurd (cc)
