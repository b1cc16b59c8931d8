-- Nothing was begun, so what is left are the fields' units.
use Rattle.zeb_marc.proofs.Cited.{refl}
use Rattle.zeb_marc.specs.Contents.{units_of}
use Rattle.zeb_marc.proofs.units.Units.new.Goals as goal

pub returns : goal.returns
unfolding units_of
returns c = refl
