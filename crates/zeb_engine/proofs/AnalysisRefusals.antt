-- How an analysis is refused.
use Rattle.zeb_engine.proofs.Cited.{◌≡◌, ◌≢◌, ◌⊎◌, ℕ, List, Result, Err, inl, inr, refl, subst, Directive, AnalysisFault, AnalysesTo, IsRefusal, Reply, Refusal, IsAnalysed, refused, why_of, analysis_refusal}
use Rattle.zeb_analysis.specs.declared.faults.AnalysisFault.TheVariants as analysis
use Rattle.zeb_change.specs.declared.refusals.Refusal.TheVariants as refusal
use Rattle.zeb_engine.proofs.AnalysisAnswers.{refusal_of_texts}
use Rattle.zeb_engine.proofs.OwnAnswers.{IsOwn, analysis_own}

own_unread : (fault : AnalysisFault) → IsRefusal fault → (file : ℕ) → ◌≡◌ {A = Result Reply Refusal} (Err (analysis_refusal fault)) (Err (refusal.ReadFault file)) → ⊥
own_unread fault own file is =
    let same : analysis_refusal fault ≡ refusal.ReadFault file = cc in
    subst (λ (r : Refusal). IsOwn (why_of r)) same (analysis_own fault own)

module _ (profile : List Directive) (limit : ℕ) (texts : List (List ℕ)) where
  -- by what the files hold, or by want of memory
  pub fault_told : (fault : AnalysisFault) → (fault ≢ analysis.Memory → AnalysesTo profile limit texts (Err fault))
      → IsAnalysed profile limit texts (refused (why_of (analysis_refusal fault))) ⊎ ◌≡◌ {A = Result Reply Refusal} (Err (analysis_refusal fault)) (Err refusal.Memory)
  fault_told analysis.Memory said = inr refl
  fault_told fault said = inl (Err fault, said (λ is. cc), refl)

  pub fault_unread : (fault : AnalysisFault) → (fault ≢ analysis.Memory → AnalysesTo profile limit texts (Err fault)) → (file : ℕ)
      → ◌≡◌ {A = Result Reply Refusal} (Err (analysis_refusal fault)) (Err (refusal.ReadFault file)) → ⊥
  fault_unread analysis.Memory said = λ file is. cc
  fault_unread fault said = own_unread fault (refusal_of_texts profile limit texts fault (said (λ is. cc)))
