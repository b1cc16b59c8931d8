use Rattle.zeb_laws.proofs.Cited.{under_other}
use Rattle.zeb_laws.proofs.definition_laws.one_text_one_image.Goals as goal

pub returns : goal.returns
returns c = under_other
