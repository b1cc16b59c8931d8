use Rattle.zeb_laws.proofs.OneHolding.{one_holding}
use Rattle.zeb_laws.proofs.definition_laws.an_image_is_of_one_holding.Goals as goal

pub returns : goal.returns
returns c = one_holding
