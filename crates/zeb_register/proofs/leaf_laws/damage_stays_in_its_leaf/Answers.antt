-- The lemma on tables that differ in one leaf.
use Rattle.zeb_register.proofs.OtherLeaves.{alike_beside}
use Rattle.zeb_register.proofs.leaf_laws.damage_stays_in_its_leaf.Goals as goal

pub returns : goal.returns
returns c = alike_beside
