use Rattle.zeb_search.proofs.Cited.{◌≡◌, ◌==◌, ◌∙◌, Bool, List, ap, arith, filter, inl, refl, length, subst, subst₂, sym, state, Symbol, posting_cmp, Posting, PhraseOf, AreNumbers, FindsWords, HasPosting, HasRun, SearchesTerm, IsStrictlySortedBy}
use Rattle.zeb_search.proofs.OneKey.{one_alone}
use Rattle.zeb_search.proofs.PlanLemmas.{firsts_rise}
use Rattle.zeb_search.proofs.SearchesInTurn.{searches_as, searches_failed, searches_handed, searches_so}
use Rattle.zeb_search.proofs.WordCounts.{one_word_counted}
use Rattle.zeb_search.proofs.WordReads.{first_phrase_found, one_phrase_found, phrase_found}
use Rattle.zeb_search.proofs.words.phrase_hits.Goals as goal

pub returns-in-len1-false : goal.returns-in-len1-false
returns-in-len1-false g c =
    let old = state g.S.Store c.args.connection.now in
    let new = state g.S.Store c.word_hits.new.connection in
    let format = g.L.Layout.format in
    let row_work = g.L.Layout.row_work in
    let rows = g.L.Layout.block_rows in
    let db = c.args.of.db.0 in
    let index = c.args.of.index in
    let pattern = c.pattern-item.result in
    let one : length c.args.patterns.now ≡ 1 = omega (arith, c.in-len1-false.len_at_least, c.in-len1-false.len_below) in
    let alone = one_alone c.args.patterns.now pattern one c.pattern-item.is in
    subst₂ (λ (l : List (List Symbol)) (b : Bool). SearchesTerm format row_work rows db (PhraseOf index l b) old new c.args.work.now c.word_hits.new.work c.word_hits.result) (sym alone) (sym c.in-len1-false.is-1)
    (searches_as c.word_hits.ensures (λ store hidden. (pattern, inl refl, hidden)) (λ store hits. one_phrase_found format old.now.trees db index pattern hits.items)
    (λ content. one_word_counted row_work rows db index content pattern c.args.work.now c.word_hits.new.work))

pub returns-in_err-places : goal.returns-in_err-places
returns-in_err-places g c = searches_handed c.in_err-places.ensures c.from_residual.ensures.1 (λ store hidden. hidden)

pub returns-in_err-firsts : goal.returns-in_err-firsts
returns-in_err-firsts g c = searches_failed c.in_ok-places.ensures c.from_residual-in_err-firsts.ensures.1

pub returns-in_err-numbers_of : goal.returns-in_err-numbers_of
returns-in_err-numbers_of g c = searches_failed c.in_ok-places.ensures c.from_residual-in_err-numbers_of.ensures.1

pub returns-then-first : goal.returns-then-first
returns-then-first g c =
    let trees = (state g.S.Store c.args.connection.now).now.trees in
    let format = g.L.Layout.format in
    let db = c.args.of.db.0 in
    let index = c.args.of.index in
    let patterns = c.args.patterns.now in
    let places = c.in_ok-places.places.items in
    let hits = c.in_ok-numbers_of.field-0.items in
    let firsts : c.deref-then-first.result.now ≡ filter (λ (p : Posting). p.pos == 1) places =
    c.deref-then-first.ensures.value ∙ c.in_ok-firsts.ensures ∙ ap (filter (λ (p : Posting). p.pos == 1)) c.deref.ensures.value in
    searches_so c.in_ok-places.ensures
    (λ store are.
    let rising = subst (IsStrictlySortedBy posting_cmp) (sym firsts) (firsts_rise places are.2.rising) in
    let numbers = subst (λ (l : List Posting). AreNumbers (HasPosting l) hits) firsts (c.in_ok-numbers_of.ensures rising) in
    subst (λ (b : Bool). FindsWords format trees db (λ lists. HasRun lists b) index patterns hits) (sym c.if-first.true) (first_phrase_found format trees db index patterns places hits are numbers))
    (λ content has are counted. counted)

pub returns-in_err-numbers_of-2 : goal.returns-in_err-numbers_of-2
returns-in_err-numbers_of-2 g c = searches_failed c.in_ok-places.ensures c.from_residual-in_err-numbers_of-2.ensures.1

pub returns : goal.returns
returns g c =
    let trees = (state g.S.Store c.args.connection.now).now.trees in
    let format = g.L.Layout.format in
    let db = c.args.of.db.0 in
    let index = c.args.of.index in
    let patterns = c.args.patterns.now in
    let places = c.in_ok-places.places.items in
    let hits = c.in_ok-numbers_of-2.field-0.items in
    let same = c.deref-else-first.ensures.value in
    searches_so c.in_ok-places.ensures
    (λ store are.
    let numbers = subst (λ (l : List Posting). AreNumbers (HasPosting l) hits) same (c.in_ok-numbers_of-2.ensures (subst (IsStrictlySortedBy posting_cmp) (sym same) are.2.rising)) in
    subst (λ (b : Bool). FindsWords format trees db (λ lists. HasRun lists b) index patterns hits) (sym c.if-first.false) (phrase_found format trees db index patterns places hits are numbers))
    (λ content has are counted. counted)
