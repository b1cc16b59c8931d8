-- Where changes are those of the pieces that are left, they are behind the others those of all pieces.
use Rattle.zeb_leaves.proofs.Cited.{◌++◌, List, drop, BlockChange, TurnAllEntries}
use Rattle.zeb_leaves.proofs.turned_entries.piece_changes.Given as goal

abbrev pub invariant-loop-piece : goal.invariant-loop-piece
invariant-loop-piece l = (more : List BlockChange) → TurnAllEntries l.entries (drop l.piece-index l.pieces) more → TurnAllEntries l.entries l.pieces (l.changes.items ++ more)
