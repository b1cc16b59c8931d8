use Rattle.zeb_profile.proofs.Cited.{refl}
use Rattle.zeb_lower_laws.proofs.NameNumbers.{are_numbered, known_adds_nothing, new_comes_last}
use Rattle.zeb_lower_laws.proofs.profile.names_are_numbered.Goals as goal

pub returns : goal.returns
returns c = record {
  none = refl;
  counted = λ names name. record { known = known_adds_nothing names name; new = new_comes_last names name };
  numbered = are_numbered;
}
