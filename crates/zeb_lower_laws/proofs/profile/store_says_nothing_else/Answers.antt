use Rattle.zeb_profile.proofs.StoreLaws.{store_says_nothing_else}
use Rattle.zeb_lower_laws.proofs.profile.store_says_nothing_else.Goals as goal

pub returns : goal.returns
returns c = store_says_nothing_else
