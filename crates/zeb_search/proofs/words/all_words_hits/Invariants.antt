use Rattle.zeb_search.proofs.Cited.{◌≡◌, ◌∷◌, List, Ok, take, state, Symbol, AllWordsOf, SearchesTerm}
use Rattle.zeb_search.proofs.words.all_words_hits.Given as goal

abbrev pub invariant-loop-other : goal.invariant-loop-other
invariant-loop-other g l = record {
  searched : (first : List Symbol) × (l.fn.patterns ≡ first ∷ l.others)
      × SearchesTerm g.L.Layout.format g.L.Layout.row_work g.L.Layout.block_rows l.fn.of.db.0 (AllWordsOf l.of.index (first ∷ take l.other-index l.others))
      (state g.S.Store l.fn.connection) (state g.S.Store l.connection) l.fn.work l.work (Ok l.hits);
}
