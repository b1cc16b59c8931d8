use Rattle.zeb_search.proofs.Cited.{Ok, take, state, AnyWordOf, SearchesTerm}
use Rattle.zeb_search.proofs.words.any_word_hits.Given as goal

abbrev pub invariant-loop-pattern : goal.invariant-loop-pattern
invariant-loop-pattern g l = record {
  searched : SearchesTerm g.L.Layout.format g.L.Layout.row_work g.L.Layout.block_rows l.fn.of.db.0 (AnyWordOf l.of.index (take l.pattern-index l.patterns))
      (state g.S.Store l.fn.connection) (state g.S.Store l.connection) l.fn.work l.work (Ok l.hits);
}
