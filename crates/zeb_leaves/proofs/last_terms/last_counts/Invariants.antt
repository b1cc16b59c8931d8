-- What becomes of the rows that are left and of those behind, becomes of all.
use Rattle.zeb_leaves.proofs.Cited.{Row, List, [], ◌++◌, drop, TermCount, CountBelow, HideBelow}
use Rattle.zeb_leaves.proofs.last_terms.last_counts.Given as goal

abbrev pub invariant-loop-row : goal.invariant-loop-row
invariant-loop-row l = record {
  counted : (rest : List Row) (new : List TermCount) → CountBelow l.n l.end.term.now l.end.block (drop l.row-index l.rows ++ rest) l.counts.items new → CountBelow l.n l.start 0 (l.rows ++ rest) [] new;
  hides : (rest : List Row) → HideBelow l.n l.end.term.now l.end.block (drop l.row-index l.rows ++ rest) l.counts.items → HideBelow l.n l.start 0 (l.rows ++ rest) [];
}
