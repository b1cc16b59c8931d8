use Rattle.zeb_search.proofs.Cited.{List, [], ◌≡◌, ◌++◌, ◌∷◌, ◌+◌, ap, arith, inl, inr, refl, subst, sym, take, ◌∙◌, Ok, take_more, state, take_whole, Has, has_at, Symbol, AllWordsOf, SearchesTerm}
use Rattle.zeb_query.specs.declared.plans.Operator.TheVariants as operator
use Rattle.zeb_search.proofs.JustLemmas.{joined_numbers, own_numbers}
use Rattle.zeb_search.proofs.PlanLemmas.{no_patterns, some_patterns}
use Rattle.zeb_search.proofs.SearchesInTurn.{searches_behind, searches_failed_behind, searches_handed, searches_handed_behind, searches_so, searches_still}
use Rattle.zeb_search.proofs.WordCounts.{words_behind, no_words_counted, one_word_counted}
use Rattle.zeb_search.proofs.WordReads.{each_found, no_each, one_found}
use Rattle.zeb_search.proofs.words.all_words_hits.Goals as goal

pub returns-in_default : goal.returns-in_default
returns-in_default g c =
    let of = c.args.of in
    let none = no_patterns c.args.patterns.now c.in_default.ensures.cases in
    subst (λ (l : List (List Symbol)). SearchesTerm g.L.Layout.format g.L.Layout.row_work g.L.Layout.block_rows of.db.0 (AllWordsOf of.index l)
    (state g.S.Store c.args.connection.now) (state g.S.Store c.args.connection.now) c.args.work.now c.args.work.now (Ok c.new.result)) (sym none)
    (searches_still (λ store. no_each g.L.Layout.format (state g.S.Store c.args.connection.now).now.trees of.db.0 of.index [] c.new.result.items refl c.new.ensures.items)
    (λ content has. no_words_counted g.L.Layout.row_work g.L.Layout.block_rows of.db.0 of.index content c.args.work.now))

pub returns-in_err-hits : goal.returns-in_err-hits
returns-in_err-hits g c =
    let pattern = c.in-Some.pattern.now in
    searches_handed c.in_err-hits.ensures c.from_residual.ensures.1
    (λ store hidden. (pattern, subst (λ (l : List (List Symbol)). Has l pattern) (sym c.in-Some.ensures.cases.0) (inl refl), hidden))

pub loop-other-init : goal.loop-other-init
loop-other-init g c =
    let of = c.args.of in
    let pattern = c.in-Some.pattern.now in
    record {
      searched = (
        pattern,
        c.in-Some.ensures.cases.0,
        searches_so c.in_ok-hits.ensures (λ store found. one_found g.L.Layout.format (state g.S.Store c.args.connection.now).now.trees of.db.0 of.index pattern c.in_ok-hits.hits.items found)
            (λ content has found. one_word_counted g.L.Layout.row_work g.L.Layout.block_rows of.db.0 of.index content pattern c.args.work.now c.word_hits.new.work),
      );
    }

pub loop-other-preserved : goal.loop-other-preserved
loop-other-preserved g c =
    let old = state g.S.Store c.args.connection.now in
    let new = state g.S.Store c.word_hits-in-loop-other.new.connection in
    let format = g.L.Layout.format in
    let row_work = g.L.Layout.row_work in
    let rows = g.L.Layout.block_rows in
    let db = c.args.of.db.0 in
    let index = c.args.of.index in
    let others = c.in-Some.others.now in
    let at = c.loop-other.other-index in
    let first = c.loop-other.invariant.searched.0 in
    let pattern = c.other-item.result in
    let hits = c.loop-other.hits.items in
    let found = c.in_ok-found.found.items in
    let more : take (at + 1) others ≡ take at others ++ pattern ∷ [] = take_more others at pattern c.loop-other-test.true ∙ ap (λ p. take at others ++ p ∷ []) (sym c.other-item.is) in
    record {
      searched = (
        first,
        c.loop-other.invariant.searched.1,
        subst (λ (l : List (List Symbol)). SearchesTerm format row_work rows db (AllWordsOf index (first ∷ l)) old new c.args.work.now c.word_hits-in-loop-other.new.work (Ok c.in_ok-hits-2.hits)) (sym more)
            (searches_behind c.loop-other.invariant.searched.2 c.in_ok-found.ensures
            (λ store before here. each_found format old.now.trees db index (first ∷ take at others) pattern hits found c.in_ok-hits-2.hits.items (some_patterns first (take at others)) before here
            (joined_numbers operator.And (Has hits) (Has found) hits found c.deref.result.now c.deref-in-loop-other.result.now c.in_ok-hits-2.hits.items c.deref.ensures.value c.deref-in-loop-other.ensures.value
            (own_numbers hits before.2.rising) (own_numbers found here.2.rising) c.in_ok-hits-2.ensures))
            (λ content has before here. words_behind row_work rows db index content (first ∷ take at others) pattern c.args.work.now c.loop-other.work c.word_hits-in-loop-other.new.work)),
      );
    }

pub returns : goal.returns
returns g c =
    let first = c.loop-other.invariant.searched in
    let whole = take_whole c.in-Some.others.now c.loop-other.other-index (omega (arith, c.loop-other-test.false)) in
    let all : first.0 ∷ take c.loop-other.other-index c.in-Some.others.now ≡ c.args.patterns.now = ap (λ (l : List (List Symbol)). first.0 ∷ l) whole ∙ sym first.1 in
    subst (λ (l : List (List Symbol)). SearchesTerm g.L.Layout.format g.L.Layout.row_work g.L.Layout.block_rows c.args.of.db.0 (AllWordsOf c.args.of.index l)
    (state g.S.Store c.args.connection.now) (state g.S.Store c.loop-other.connection) c.args.work.now c.loop-other.work (Ok c.loop-other.hits)) all first.2

pub returns-in_err-found : goal.returns-in_err-found
returns-in_err-found g c =
    let pattern = c.other-item.result in
    searches_handed_behind c.loop-other.invariant.searched.2 c.in_err-found.ensures c.from_residual-in_err-found.ensures.1
    (λ store before hidden. (pattern, subst (λ (l : List (List Symbol)). Has l pattern) (sym c.loop-other.invariant.searched.1) (inr (has_at _ _ _ c.loop-other-test.true c.other-item.is)), hidden))

pub returns-in_err-hits-2 : goal.returns-in_err-hits-2
returns-in_err-hits-2 g c = searches_failed_behind c.loop-other.invariant.searched.2 c.in_ok-found.ensures c.from_residual-in_err-hits-2.ensures.1
