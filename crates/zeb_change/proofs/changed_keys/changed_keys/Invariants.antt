use Rattle.zeb_change.proofs.Cited.{◌+◌, length, IsRising}
use Rattle.zeb_change.proofs.KeyChanges.{SoFar}
use Rattle.zeb_change.proofs.changed_keys.changed_keys.Given as goal

abbrev pub invariant-loop-key : goal.invariant-loop-key
invariant-loop-key l = record {
  rising : IsRising l.fn.elder → IsRising l.fn.newer → IsRising l.elder × IsRising l.newer;
  so_far : IsRising l.fn.elder → IsRising l.fn.newer → SoFar l.fn.elder l.fn.newer l.elder l.newer l.changed.items;
}

abbrev pub decreases-loop-key : goal.decreases-loop-key
decreases-loop-key l = length l.elder + length l.newer
