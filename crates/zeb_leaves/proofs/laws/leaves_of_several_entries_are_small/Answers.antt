-- The lemmas on sizes, one for each clause.
use Rattle.zeb_leaves.proofs.Cited.{IsLeafOf}
use Rattle.zeb_leaves.proofs.SmallLeaves.{alone_small, held_small, small_alone}
use Rattle.zeb_leaves.proofs.laws.leaves_of_several_entries_are_small.Goals as goal

pub returns-clause-held : goal.returns-clause-held
returns-clause-held c = held_small

pub returns-clause-small : goal.returns-clause-small
returns-clause-small c trees db key = alone_small (IsLeafOf trees db key)

pub returns-clause-alone : goal.returns-clause-alone
returns-clause-alone c trees db key = small_alone (IsLeafOf trees db key)
