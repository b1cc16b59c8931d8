use Rattle.zeb_register.proofs.Cited.{Row, row_cmp, Has, ◌≤◌, take, TermCount, AreCounts, IsOccurrenceRow, IsShown}
use Rattle.std.specs.List.Sorted.{IsStrictlySortedBy}
use Rattle.zeb_register.proofs.CountLemmas.{IsNewestOf}
use Rattle.zeb_register.proofs.terms.count_terms.Given as goal

abbrev pub invariant-loop-row : goal.invariant-loop-row
invariant-loop-row l = record {
  upto : (t : TermCount) → Has l.counts.items t → t.records ≤ l.row-index;
  counted : IsStrictlySortedBy row_cmp l.rows → AreCounts (IsShown (take l.row-index l.rows)) l.counts.items × IsNewestOf (IsShown (take l.row-index l.rows)) l.counts.items l.newest;
  occur : (row : Row) → Has (take l.row-index l.rows) row → IsOccurrenceRow row;
}
