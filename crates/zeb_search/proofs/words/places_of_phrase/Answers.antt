use Rattle.zeb_search.proofs.Cited.{◌≡◌, ◌∙◌, ◌++◌, ◌∷◌, [], List, Ok, ap, inl, refl, subst, sym, append_assoc, has_right, state, Has, Symbol, Words, ArePostings, HasWithin, PlacesFound, ReadsWord, SearchesPhrases, IsStrictlySortedBy, posting_cmp}
use Rattle.zeb_search.proofs.PlanLemmas.{no_patterns, some_patterns}
use Rattle.zeb_search.proofs.SearchesInTurn.{searches_behind, searches_failed_behind, searches_handed, searches_handed_behind, searches_so, searches_still}
use Rattle.zeb_search.proofs.WordCounts.{words_before, no_words_counted, one_word_counted}
use Rattle.zeb_search.proofs.WordReads.{no_place, one_place, place_before}
use Rattle.zeb_search.proofs.words.places_of_phrase.Goals as goal

pub returns-in_default : goal.returns-in_default
returns-in_default g c =
    let of = c.args.of in
    let none = no_patterns c.args.patterns.now c.in_default.ensures.cases in
    subst (λ (l : List (List Symbol)). SearchesPhrases g.L.Layout.format g.L.Layout.row_work g.L.Layout.block_rows of.db.0 of.index l
    (state g.S.Store c.args.connection.now) (state g.S.Store c.args.connection.now) c.args.work.now c.args.work.now (Ok c.new.result)) (sym none)
    (searches_still (λ store. no_place g.L.Layout.format (state g.S.Store c.args.connection.now).now.trees of.db.0 of.index [] c.new.result.items refl c.new.ensures.items)
    (λ content has. no_words_counted g.L.Layout.row_work g.L.Layout.block_rows of.db.0 of.index content c.args.work.now))

pub returns-in_err-places : goal.returns-in_err-places
returns-in_err-places g c =
    let last = c.in-Some.last.now in
    searches_handed c.in_err-places.ensures c.from_residual.ensures.1
    (λ store hidden. (last, subst (λ (l : List (List Symbol)). Has l last) (sym c.in-Some.ensures.cases.0) (has_right c.in-Some.others.now (last ∷ []) last (inl refl)), hidden))

pub loop-pattern-init : goal.loop-pattern-init
loop-pattern-init g c =
    let of = c.args.of in
    let last = c.in-Some.last.now in
    record {
      searched = (
        last ∷ [],
        some_patterns last [],
        c.in-Some.ensures.cases.0,
        searches_so c.in_ok-places.ensures (λ store here. one_place g.L.Layout.format (state g.S.Store c.args.connection.now).now.trees of.db.0 of.index last c.in_ok-places.places.items here.0 here.1)
            (λ content has here. one_word_counted g.L.Layout.row_work g.L.Layout.block_rows of.db.0 of.index content last c.args.work.now c.places_of_words.new.work),
      );
    }

pub loop-pattern-preserved : goal.loop-pattern-preserved
loop-pattern-preserved g c =
    let trees = (state g.S.Store c.args.connection.now).now.trees in
    let format = g.L.Layout.format in
    let db = c.args.of.db.0 in
    let index = c.args.of.index in
    let pattern = c.in-Some-split_last.pattern.now in
    let before = c.in-Some-split_last.before.now in
    let rest = c.loop-pattern.invariant.searched.0 in
    let some = c.loop-pattern.invariant.searched.1 in
    let of_starts = sym c.deref.ensures.value in
    record {
      searched = (
        pattern ∷ rest,
        some_patterns pattern rest,
        c.loop-pattern.invariant.searched.2 ∙ ap (λ (l : List (List Symbol)). l ++ rest) c.in-Some-split_last.ensures.cases.0 ∙ append_assoc before (pattern ∷ []) rest,
        searches_behind c.loop-pattern.invariant.searched.3 c.in_ok-starts.ensures
            (λ store later here.
            let starts = subst (ReadsWord format trees db index pattern) of_starts here.0 in
            let rises = subst (IsStrictlySortedBy posting_cmp) of_starts here.1 in
            let places = subst (PlacesFound format trees db index rest) (sym c.deref-in-Some-split_last.ensures.value) later in
            place_before format trees db index pattern rest c.deref.result.now c.deref-in-Some-split_last.result.now c.in_ok-places-2.places.items some starts places
            (subst (λ (next : Words). ArePostings (λ p. Has c.deref.result.now p × HasWithin next c.deref-in-Some-split_last.result.now p) c.in_ok-places-2.places.items) c.between.ensures (c.in_ok-places-2.ensures rises places.2.rising)))
            (λ content has later here. words_before g.L.Layout.row_work g.L.Layout.block_rows db index content rest pattern c.args.work.now c.loop-pattern.work c.places_of_words-in-Some-split_last.new.work),
      );
    }

pub returns : goal.returns
returns g c =
    let rest = c.loop-pattern.invariant.searched.0 in
    let whole : c.args.patterns.now ≡ rest = c.loop-pattern.invariant.searched.2 ∙ ap (λ (l : List (List Symbol)). l ++ rest) (no_patterns c.loop-pattern.others.now c.in_default-split_last.ensures.cases) in
    subst (λ (l : List (List Symbol)). SearchesPhrases g.L.Layout.format g.L.Layout.row_work g.L.Layout.block_rows c.args.of.db.0 c.args.of.index l
    (state g.S.Store c.args.connection.now) (state g.S.Store c.loop-pattern.connection) c.args.work.now c.loop-pattern.work (Ok c.loop-pattern.places)) (sym whole) c.loop-pattern.invariant.searched.3

pub returns-in_err-starts : goal.returns-in_err-starts
returns-in_err-starts g c =
    let pattern = c.in-Some-split_last.pattern.now in
    let before = c.in-Some-split_last.before.now in
    let rest = c.loop-pattern.invariant.searched.0 in
    let joined : c.args.patterns.now ≡ before ++ (pattern ∷ rest) =
    c.loop-pattern.invariant.searched.2 ∙ ap (λ (l : List (List Symbol)). l ++ rest) c.in-Some-split_last.ensures.cases.0 ∙ append_assoc before (pattern ∷ []) rest in
    searches_handed_behind c.loop-pattern.invariant.searched.3 c.in_err-starts.ensures c.from_residual-in_err-starts.ensures.1
    (λ store later hidden. (pattern, subst (λ (l : List (List Symbol)). Has l pattern) (sym joined) (has_right before (pattern ∷ rest) pattern (inl refl)), hidden))

pub returns-in_err-places-2 : goal.returns-in_err-places-2
returns-in_err-places-2 g c = searches_failed_behind c.loop-pattern.invariant.searched.3 c.in_ok-starts.ensures c.from_residual-in_err-places-2.ensures.1
