-- Where pieces are those of the keys that are left, they are behind the others those of all keys.
use Rattle.zeb_leaves.proofs.Cited.{◌++◌, List, drop, KeyChanges}
use Rattle.zeb_leaves.proofs.CutPieces.{PartsEach}
use Rattle.zeb_leaves.proofs.pieces.pieces_of.Given as goal

abbrev pub invariant-loop-one : goal.invariant-loop-one
invariant-loop-one l = (more : List KeyChanges) → PartsEach (drop l.one-index l.run) more → PartsEach l.run (l.pieces.items ++ more)
