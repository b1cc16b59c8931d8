-- Where pieces are those of the changes that are left, they are behind the others the pieces of all.
use Rattle.zeb_leaves.proofs.Cited.{◌≡◌, ◌≤◌, ◌++◌, List, drop, length, ◌-◌, KeyChanges}
use Rattle.zeb_leaves.proofs.CutPieces.{AreCut}
use Rattle.zeb_leaves.proofs.pieces.push_pieces.Given as goal

abbrev pub invariant-loop-done : goal.invariant-loop-done
invariant-loop-done l = record {
  within : l.done ≤ length l.one.changes.now;
  leads : (more : List KeyChanges) → AreCut l.one more (drop l.done l.one.changes.now) → (own : List KeyChanges) × (l.pieces.items ++ more ≡ l.fn.pieces.items ++ own) × AreCut l.one own l.one.changes.now;
}

abbrev pub decreases-loop-done : goal.decreases-loop-done
decreases-loop-done l = length l.one.changes.now - l.done
