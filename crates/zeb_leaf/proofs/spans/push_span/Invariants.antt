-- What was chosen of the entries so far, and where the walk stands.
use Rattle.zeb_leaf.proofs.Cited.{◌≡◌, ◌++◌, List, length, Entry, Held, AreInSpan}
use Rattle.zeb_leaf.proofs.Behind.{StandsAt}
use Rattle.zeb_leaf.proofs.Walked.{Reaches}
use Rattle.zeb_leaf.proofs.spans.push_span.Given as goal

abbrev pub invariant-loop-reader : goal.invariant-loop-reader
invariant-loop-reader l = (done : List Entry) × Reaches l.bytes done l.reader × ((among : List Held) × AreInSpan l.first.term.now l.first.block l.end.term.now l.end.block done among × (l.held.items ≡ l.fn.held.items ++ among))
    × StandsAt l.first.term.now l.first.block l.end.term.now l.end.block l.side l.reader.place

abbrev pub decreases-loop-reader : goal.decreases-loop-reader
decreases-loop-reader l = length l.reader.left
