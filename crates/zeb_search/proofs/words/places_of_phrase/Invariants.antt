use Rattle.zeb_search.proofs.Cited.{◌≡◌, ◌≢◌, ◌++◌, List, [], Ok, length, state, Symbol, SearchesPhrases}
use Rattle.zeb_search.proofs.words.places_of_phrase.Given as goal

abbrev pub invariant-loop-pattern : goal.invariant-loop-pattern
invariant-loop-pattern g l = record {
  searched : (rest : List (List Symbol)) × (rest ≢ []) × (l.fn.patterns ≡ l.others ++ rest)
      × SearchesPhrases g.L.Layout.format g.L.Layout.row_work g.L.Layout.block_rows l.fn.of.db.0 l.of.index rest (state g.S.Store l.fn.connection) (state g.S.Store l.connection) l.fn.work l.work (Ok l.places);
}

abbrev pub decreases-loop-pattern : goal.decreases-loop-pattern
decreases-loop-pattern g l = length l.others
