use Rattle.zeb_search.proofs.Cited.{Ok, Err, inl, inr, refl, subst, sym, state, Has, AreJoined, AreNumbers, PairPlan, PairOf, plan_value, PlanDict, PlanRows, PlanFinds, SearchesPlan}
use Rattle.zeb_search.proofs.PlanLaws.{plan_rises}
use Rattle.zeb_search.proofs.SearchCountLemmas.{rows_then}
use Rattle.zeb_search.proofs.SearchesInTurn.{searches_behind, searches_failed_behind, searches_handed, searches_handed_behind}
use Rattle.zeb_search.proofs.plans.+hits.Goals as goal

pub returns-in-Near : goal.returns-in-Near
returns-in-Near g t c = rw c.in-Near.is c.near_hits.ensures

pub returns-in-Term : goal.returns-in-Term
returns-in-Term g t c = rw c.in-Term.is c.term_hits.ensures

pub returns-in_err-left-in-Pair : goal.returns-in_err-left-in-Pair
returns-in_err-left-in-Pair g t c =
    let of_left = subst (λ (p : PairPlan). SearchesPlan g.L.Layout.format g.L.Layout.row_work g.L.Layout.block_rows c.args.database.0 (plan_value p.left)
    (state g.S.Store c.args.connection.now) (state g.S.Store c.hits.new.connection) c.args.work.now c.hits.new.work (Err c.in_err-left-in-Pair.field-0.0)) c.deref.ensures c.in_err-left-in-Pair.ensures in
    rw c.in-Pair.is (searches_handed of_left c.from_residual.ensures.1 (λ store hidden. inl hidden))

pub returns-in_err-right-in-Pair : goal.returns-in_err-right-in-Pair
returns-in_err-right-in-Pair g t c =
    let of_right = subst (λ (p : PairPlan). SearchesPlan g.L.Layout.format g.L.Layout.row_work g.L.Layout.block_rows c.args.database.0 (plan_value p.right)
    (state g.S.Store c.hits.new.connection) (state g.S.Store c.hits-in-Pair.new.connection) c.hits.new.work c.hits-in-Pair.new.work (Err c.in_err-right-in-Pair.field-0.0)) c.deref-in-Pair.ensures c.in_err-right-in-Pair.ensures in
    rw c.in-Pair.is (searches_handed_behind c.in_ok-left-in-Pair.ensures of_right c.from_residual-in_err-right-in-Pair.ensures.1 (λ store left hidden. inr hidden))

pub returns-in_err-joined-in-Pair : goal.returns-in_err-joined-in-Pair
returns-in_err-joined-in-Pair g t c = rw c.in-Pair.is (searches_failed_behind c.in_ok-left-in-Pair.ensures c.in_ok-right-in-Pair.ensures c.from_residual-in_err-joined-in-Pair.ensures.1)

pub returns-in_ok-joined-in-Pair : goal.returns-in_ok-joined-in-Pair
returns-in_ok-joined-in-Pair g t c =
    let mid = state g.S.Store c.hits.new.connection in
    let trees = (state g.S.Store c.args.connection.now).now.trees in
    let format = g.L.Layout.format in
    let row_work = g.L.Layout.row_work in
    let rows = g.L.Layout.block_rows in
    let db = c.args.database.0 in
    let pair : PairPlan = c.in-Pair.pair.value in
    let left = plan_value pair.left in
    let right = plan_value pair.right in
    let of_left = subst (λ (p : PairPlan). SearchesPlan format row_work rows db (plan_value p.left) (state g.S.Store c.args.connection.now) mid c.args.work.now c.hits.new.work (Ok c.in_ok-left-in-Pair.left))
    c.deref.ensures c.in_ok-left-in-Pair.ensures in
    let of_right = subst (λ (p : PairPlan). SearchesPlan format row_work rows db (plan_value p.right) mid (state g.S.Store c.hits-in-Pair.new.connection) c.hits.new.work c.hits-in-Pair.new.work (Ok c.in_ok-right-in-Pair.right))
    c.deref-in-Pair.ensures c.in_ok-right-in-Pair.ensures in
    rw c.in-Pair.is (searches_behind of_left of_right
    (λ store one two.
    let lefts = subst (PlanFinds format trees db left) (sym c.deref-in-Pair-3.ensures.value) one in
    let rights = subst (PlanFinds format trees db right) (sym c.deref-in-Pair-4.ensures.value) two in
    let joins = c.in_ok-joined-in-Pair.ensures (plan_rises format trees db left c.deref-in-Pair-3.result.now lefts) (plan_rises format trees db right c.deref-in-Pair-4.result.now rights) in (
      c.deref-in-Pair-3.result.now,
      c.deref-in-Pair-4.result.now,
      lefts,
      rights,
      subst (λ (p : PairPlan). AreNumbers (λ n. AreJoined p.operator (Has c.deref-in-Pair-3.result.now n) (Has c.deref-in-Pair-4.result.now n)) c.in_ok-joined-in-Pair.field-0.items) c.deref-in-Pair-2.ensures joins,
    ))
    (λ content has one two. rows_then (PlanDict row_work content db left) (PlanDict row_work content db right) (PlanDict row_work content db (PairOf pair.operator left right)) (PlanRows rows content db left) (PlanRows rows content db right)
    (PlanRows rows content db (PairOf pair.operator left right)) c.args.work.now c.hits.new.work c.hits-in-Pair.new.work (λ m n first second. (m, n, first, second, refl)) (λ m n first second. (m, n, first, second, refl))))
