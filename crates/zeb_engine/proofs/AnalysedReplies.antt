-- Files that are analysed one after the other: the lines are those of a reply to the analysis of all, and a refusal stays.
use Rattle.zeb_engine.proofs.Cited.{◌≡◌, ◌⊎◌, ◌∙◌, ◌<◌, ◌^◌, ◌∷◌, ◌++◌, [], ℕ, List, Result, Ok, Err, inl, inr, refl, sym, ap, arith, flat_map, length, length-map, map, string_bytes, Directive, index_names, AnalysedLines, AnalysisFault, AreLines, GivesLines, HasLines, IsAnalysed, Refusal, Reply, analysed, analysis_refusal, few_analyses, refused, refused_still, reply_answer, record_lines, Vec, why_of, Global, reply_text}
use Rattle.zeb_analysis.specs.Analysing as analysing
use Rattle.zeb_change.specs.declared.refusals.Refusal.TheVariants as refusal
use Rattle.zeb_engine.specs.declared.replies.Reply.TheVariants.{Analysed}
use Rattle.zeb_engine.proofs.AnalysisRefusals.{fault_told}

-- ---- the reply

-- a vector of these, which has its memory from where another has it
abbrev vector_of : {X Y : Type 0} → Vec Y Global → (items : List X) → length items < 2 ^ 63 → Vec X Global
vector_of v items few = record { ptr = v.ptr; len = length items; cap = length items; alloc = v.alloc; items = items; ok = (refl, omega arith); small = few }

module _ (profile : List Directive) (limit : ℕ) (small : limit < 2 ^ 63) (texts : List (List ℕ)) (lines : AnalysedLines) (are : AreLines (index_names profile) profile limit texts lines) where
  pub few : length are.analyses < 2 ^ 63
  few = omega (arith, few_analyses profile limit texts (map analysing.analysed are.analyses) are.said, length-map are.analyses analysing.analysed, small)

  abbrev pub shown_reply : Reply
  shown_reply = Analysed lines.names (vector_of lines.names are.analyses few)

  pub is_analysed : IsAnalysed profile limit texts (reply_answer shown_reply)
  is_analysed = (Ok (map analysing.analysed are.analyses), are.said, ap (λ names. analysed names (map analysing.analysed are.analyses)) are.named)

  pub is_printed : string_bytes lines.text ≡ reply_text shown_reply
  is_printed = are.told ∙ ap (λ names. flat_map (record_lines names) are.analyses) (sym are.named)

  pub is_counted : lines.records ≡ length are.analyses
  is_counted = are.counted

-- ---- the next file

module _ (profile : List Directive) (limit : ℕ) (texts : List (List ℕ)) where
  -- a fault that is met
  pub lines_refused : (fault : AnalysisFault) → GivesLines (index_names profile) profile limit texts (Err fault) → HasLines profile limit texts (Err (analysis_refusal fault))
  lines_refused fault said = passed fault (fault_told profile limit texts fault said)
    where
      passed : (fault : AnalysisFault)
          → IsAnalysed profile limit texts (refused (why_of (analysis_refusal fault))) ⊎ ◌≡◌ {A = Result Reply Refusal} (Err (analysis_refusal fault)) (Err refusal.Memory)
          → HasLines profile limit texts (Err (analysis_refusal fault))
      passed fault (inl is) = inl is
      passed fault (inr is) = let same : analysis_refusal fault ≡ refusal.Memory = cc in inr same

  -- whatever file comes
  pub refusal_stays : (why : Refusal) (text : List ℕ) → HasLines profile limit texts (Err why) → HasLines profile limit (texts ++ text ∷ []) (Err why)
  refusal_stays why text (inl (Ok analyses, said, is)) = absurd (cc is)
  refusal_stays why text (inl (Err fault, said, is)) = inl (Err fault, refused_still profile limit texts text fault said, is)
  refusal_stays why text (inr is) = inr is
