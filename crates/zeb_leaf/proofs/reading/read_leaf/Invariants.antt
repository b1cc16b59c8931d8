-- The entries that were read so far.
use Rattle.zeb_leaf.proofs.Cited.{length}
use Rattle.zeb_leaf.proofs.Walked.{Reaches}
use Rattle.zeb_leaf.proofs.reading.read_leaf.Given as goal

abbrev pub invariant-loop-entries : goal.invariant-loop-entries
invariant-loop-entries l = Reaches l.bytes l.entries.items l.reader

abbrev pub decreases-loop-entries : goal.decreases-loop-entries
decreases-loop-entries l = length l.reader.left
