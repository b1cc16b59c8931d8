use Rattle.zeb_search.proofs.Cited.{◌∷◌, [], inl, inr, refl, sym, subst, state, ReadsWord, IsStrictlySortedBy, posting_cmp}
use Rattle.zeb_search.proofs.SearchesInTurn.{searches_behind, searches_failed_behind, searches_handed, searches_handed_behind}
use Rattle.zeb_search.proofs.WordCounts.{words_behind, one_word_counted}
use Rattle.zeb_search.proofs.plans.near_hits.Goals as goal

pub returns-in_err-left : goal.returns-in_err-left
returns-in_err-left g c = searches_handed c.in_err-left.ensures c.from_residual.ensures.1 (λ store hidden. (c.args.plan.now.left, inl refl, hidden))

pub returns-in_err-right : goal.returns-in_err-right
returns-in_err-right g c = searches_handed_behind c.in_ok-left.ensures c.in_err-right.ensures c.from_residual-in_err-right.ensures.1 (λ store left hidden. (c.args.plan.now.right, inr (inl refl), hidden))

pub returns-in_err-near : goal.returns-in_err-near
returns-in_err-near g c = searches_failed_behind c.in_ok-left.ensures c.in_ok-right.ensures c.from_residual-in_err-near.ensures.1

pub returns : goal.returns
returns g c =
    let trees = (state g.S.Store c.args.connection.now).now.trees in
    let format = g.L.Layout.format in
    let row_work = g.L.Layout.row_work in
    let rows = g.L.Layout.block_rows in
    let db = c.args.database.0 in
    let plan = c.args.plan.now in
    let of_left = sym c.deref.ensures.value in
    let of_right = sym c.deref-2.ensures.value in
    searches_behind c.in_ok-left.ensures c.in_ok-right.ensures
    (λ store left right. (
      c.deref.result.now,
      c.deref-2.result.now,
      subst (ReadsWord format trees db plan.index plan.left) of_left left.0,
      subst (ReadsWord format trees db plan.index plan.right) of_right right.0,
      c.in_ok-near.ensures (subst (IsStrictlySortedBy posting_cmp) of_left left.1) (subst (IsStrictlySortedBy posting_cmp) of_right right.1),
    ))
    (λ content has left right one. words_behind row_work rows db plan.index content (plan.left ∷ []) plan.right c.args.work.now c.places_of_words.new.work c.places_of_words-2.new.work
    (one_word_counted row_work rows db plan.index content plan.left c.args.work.now c.places_of_words.new.work one))
