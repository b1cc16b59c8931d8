use Rattle.zeb_profile.proofs.Cited.{refl}
use Rattle.zeb_lower_laws.proofs.profile.numbers_at_examples.Goals as goal

pub returns : goal.returns
returns c = record { read = refl; names = refl; numbers = (refl, refl, refl, refl); units = (refl, refl) }
