-- The lemmas on units, one for each clause.
use Rattle.zeb_register.proofs.LeafContents.{held_by_units, held_count, held_unit, held_whole}
use Rattle.zeb_register.proofs.LeafTerms.{leaves_have_terms}
use Rattle.zeb_register.proofs.leaf_laws.units_tell_held_leaves.Goals as goal

pub returns-clause-units : goal.returns-clause-units
returns-clause-units c = held_unit

pub returns-clause-counts : goal.returns-clause-counts
returns-clause-counts c = held_count

pub returns-clause-held : goal.returns-clause-held
returns-clause-held c = held_by_units

pub returns-clause-whole : goal.returns-clause-whole
returns-clause-whole c = held_whole

pub returns-clause-terms : goal.returns-clause-terms
returns-clause-terms c = leaves_have_terms
