use Rattle.zeb_profile.proofs.ProfilesBack.{one_text_says_the_same}
use Rattle.zeb_lower_laws.proofs.profile.one_text_says_the_same.Goals as goal

pub returns : goal.returns
returns c = one_text_says_the_same
