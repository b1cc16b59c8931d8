-- What becomes of the rows that are left and of those behind, becomes of all.
use Rattle.zeb_leaves.proofs.Cited.{Row, List, [], ◌++◌, drop, TermCount, CountRows, HideRows}
use Rattle.zeb_leaves.proofs.first_terms.first_counts.Given as goal

abbrev pub invariant-loop-next : goal.invariant-loop-next
invariant-loop-next l = record {
  counted : (rest : List Row) (new : List TermCount) → CountRows l.n l.from.term.now l.from.block l.row (drop l.next-index l.behind ++ rest) l.counts.items new → CountRows l.n l.first 0 l.leaf (l.behind ++ rest) [] new;
  hides : (rest : List Row) → HideRows l.n l.from.term.now l.from.block l.row (drop l.next-index l.behind ++ rest) l.counts.items → HideRows l.n l.first 0 l.leaf (l.behind ++ rest) [];
}
