use Rattle.zeb_profile.proofs.ProfilesBack.{canonical_text_reads_back}
use Rattle.zeb_lower_laws.proofs.profile.canonical_text_reads_back.Goals as goal

pub returns : goal.returns
returns c = canonical_text_reads_back
