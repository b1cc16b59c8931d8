-- A record is short enough.
use Rattle.zeb_marc.proofs.Pieces.{units_fit}
use Rattle.zeb_marc.proofs.records.Marc.units.Goals as goal

pub new-requires-2 : goal.new-requires-2
new-requires-2 c = rw c.new.ensures (units_fit c.self.inside.area.now c.self.inside.directory.now c.self.invariant.2 c.self.invariant.1)
