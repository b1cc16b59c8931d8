use Rattle.zeb_search.proofs.Cited.{List, ◌≡◌, ◌++◌, ◌∷◌, ◌+◌, [], ap, arith, subst, sym, take, ◌∙◌, Ok, take_more, state, take_whole, Has, has_at, Symbol, AnyWordOf, SearchesTerm}
use Rattle.zeb_query.specs.declared.plans.Operator.TheVariants as operator
use Rattle.zeb_search.proofs.JustLemmas.{joined_numbers, own_numbers}
use Rattle.zeb_search.proofs.SearchesInTurn.{searches_behind, searches_failed_behind, searches_handed_behind, searches_still}
use Rattle.zeb_search.proofs.WordCounts.{words_behind, no_words_counted}
use Rattle.zeb_search.proofs.WordReads.{no_word_found, some_found}
use Rattle.zeb_search.proofs.words.any_word_hits.Goals as goal

pub loop-pattern-init : goal.loop-pattern-init
loop-pattern-init g c =
    let of = c.args.of in
    record {
      searched = searches_still (λ store. no_word_found g.L.Layout.format (state g.S.Store c.args.connection.now).now.trees of.db.0 of.index c.new-hits.result.items c.new-hits.ensures.items)
          (λ content has. no_words_counted g.L.Layout.row_work g.L.Layout.block_rows of.db.0 of.index content c.args.work.now);
    }

pub loop-pattern-preserved : goal.loop-pattern-preserved
loop-pattern-preserved g c =
    let old = state g.S.Store c.args.connection.now in
    let new = state g.S.Store c.word_hits.new.connection in
    let format = g.L.Layout.format in
    let row_work = g.L.Layout.row_work in
    let rows = g.L.Layout.block_rows in
    let db = c.args.of.db.0 in
    let index = c.args.of.index in
    let patterns = c.args.patterns.now in
    let at = c.loop-pattern.pattern-index in
    let pattern = c.pattern-item.result in
    let hits = c.loop-pattern.hits.items in
    let found = c.in_ok-found.found.items in
    let more : take (at + 1) patterns ≡ take at patterns ++ pattern ∷ [] = take_more patterns at pattern c.loop-pattern-test.true ∙ ap (λ p. take at patterns ++ p ∷ []) (sym c.pattern-item.is) in
    record {
      searched = subst (λ (l : List (List Symbol)). SearchesTerm format row_work rows db (AnyWordOf index l) old new c.args.work.now c.word_hits.new.work (Ok c.in_ok-hits.hits)) (sym more)
          (searches_behind c.loop-pattern.invariant.searched c.in_ok-found.ensures
          (λ store before here. some_found format old.now.trees db index (take at patterns) pattern hits found c.in_ok-hits.hits.items before here
          (joined_numbers operator.Or (Has hits) (Has found) hits found c.deref.result.now c.deref-in-loop-pattern.result.now c.in_ok-hits.hits.items c.deref.ensures.value c.deref-in-loop-pattern.ensures.value
          (own_numbers hits before.2.rising) (own_numbers found here.2.rising) c.in_ok-hits.ensures))
          (λ content has before here. words_behind row_work rows db index content (take at patterns) pattern c.args.work.now c.loop-pattern.work c.word_hits.new.work));
    }

pub returns : goal.returns
returns g c =
    let whole = take_whole c.args.patterns.now c.loop-pattern.pattern-index (omega (arith, c.loop-pattern-test.false)) in
    subst (λ (l : List (List Symbol)). SearchesTerm g.L.Layout.format g.L.Layout.row_work g.L.Layout.block_rows c.args.of.db.0 (AnyWordOf c.args.of.index l)
    (state g.S.Store c.args.connection.now) (state g.S.Store c.loop-pattern.connection) c.args.work.now c.loop-pattern.work (Ok c.loop-pattern.hits)) whole c.loop-pattern.invariant.searched

pub returns-in_err-found : goal.returns-in_err-found
returns-in_err-found g c =
    searches_handed_behind c.loop-pattern.invariant.searched c.in_err-found.ensures c.from_residual.ensures.1
    (λ store before hidden. (c.pattern-item.result, has_at _ _ _ c.loop-pattern-test.true c.pattern-item.is, hidden))

pub returns-in_err-hits : goal.returns-in_err-hits
returns-in_err-hits g c = searches_failed_behind c.loop-pattern.invariant.searched c.in_ok-found.ensures c.from_residual-in_err-hits.ensures.1
