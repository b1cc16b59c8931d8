use Rattle.zeb_extract.proofs.Cited.{sym, subst}
use Rattle.zeb_lower_laws.specs.Stripped.{IsStripped}
use Rattle.zeb_lower_laws.proofs.Stripped.{is_stripped, only_stripped}
use Rattle.zeb_lower_laws.proofs.extract.spaces_go_from_both_ends.Goals as goal

pub returns : goal.returns
returns c = λ text stripped. (only_stripped text stripped, λ e. subst (IsStripped text) (sym e) (is_stripped text))
