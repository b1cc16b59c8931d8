-- The changes so far are of records of the block.
use Rattle.zeb_leaves.proofs.Cited.{AllByRecursion, take, IsInBlock}
use Rattle.zeb_leaves.proofs.pieces.count_inside.Given as goal

abbrev pub invariant-loop-count : goal.invariant-loop-count
invariant-loop-count l = AllByRecursion (IsInBlock l.block) (take l.count l.changes)
