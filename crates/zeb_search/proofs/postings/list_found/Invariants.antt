use Rattle.zeb_search.proofs.Cited.{◌≡◌, ◌++◌, List, Ok, length, state, Key, SearchesSome}
use Rattle.zeb_search.proofs.postings.list_found.Given as goal

abbrev pub invariant-loop-left : goal.invariant-loop-left
invariant-loop-left g l = record {
  searched : (done : List Key) × (l.found.keys.items ≡ done ++ l.left)
      × SearchesSome g.L.Layout.format g.L.Layout.row_work g.L.Layout.block_rows l.of l.found done (state g.S.Store l.fn.connection) (state g.S.Store l.connection) l.fn.work l.work (Ok l.postings);
}

abbrev pub decreases-loop-left : goal.decreases-loop-left
decreases-loop-left g l = length l.left
