use Rattle.zeb_profile.proofs.Cited.{refl}
use Rattle.zeb_lower_laws.proofs.profile.examples.Goals as goal

pub returns : goal.returns
returns c = record {
  read = refl;
  lines = (refl, refl, refl);
  words = (refl, refl, refl, refl);
  repeats = (refl, refl, refl, refl);
  lacks = (refl, refl, refl);
}
