use Rattle.zeb_profile.proofs.Cited.{sym, subst}
use Rattle.zeb_lower_laws.specs.ProfileLaws.{IsTrimmed}
use Rattle.zeb_lower_laws.proofs.Trimmed.{is_trimmed, only_trimmed}
use Rattle.zeb_lower_laws.proofs.profile.blanks_go_from_both_ends.Goals as goal

pub returns : goal.returns
returns c = λ text left. (only_trimmed text left, λ e. subst (IsTrimmed text) (sym e) (is_trimmed text))
