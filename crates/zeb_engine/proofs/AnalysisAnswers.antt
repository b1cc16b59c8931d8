-- The refusals of an analysis are of the files' texts.
use Rattle.zeb_engine.proofs.Cited.{◌≢◌, ℕ, List, Some, Err, refl, Directive, MarcFault, AnalysisFault, AnalysesTo, standing_in_all, IsRefusal, first_counts, refusal_at_place}
use Rattle.zeb_marc.specs.declared.faults.MarcFault.TheVariants as marc
use Rattle.zeb_engine.proofs.FaultAnswers.{IsOfText}

pub refusal_of_texts : (profile : List Directive) (limit : ℕ) (texts : List (List ℕ)) (fault : AnalysisFault) → AnalysesTo profile limit texts (Err fault) → IsRefusal fault
refusal_of_texts profile limit texts fault is =
    let it = (first_counts profile limit (standing_in_all 1 texts) fault).0 is in
    refusal_at_place profile limit texts it.before it.standing fault it.there it.refused

pub fault_of_text : (fault : MarcFault) → fault ≢ marc.ReadFault → IsOfText (Some fault)
fault_of_text marc.ReadFault is = absurd (is refl)
fault_of_text _ is = tt
