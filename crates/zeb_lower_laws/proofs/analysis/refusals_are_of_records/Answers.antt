use Rattle.zeb_analysis.proofs.Cited.{standing_in_all}
use Rattle.zeb_analysis.proofs.FirstRefusals.{first_counts}
use Rattle.zeb_analysis.proofs.RefusalKinds.{refusal_at_place}
use Rattle.zeb_lower_laws.proofs.analysis.refusals_are_of_records.Goals as goal

pub returns : goal.returns
returns c = λ profile limit texts fault is.
    let it = (first_counts profile limit (standing_in_all 1 texts) fault).0 is in
    refusal_at_place profile limit texts it.before it.standing fault it.there it.refused
