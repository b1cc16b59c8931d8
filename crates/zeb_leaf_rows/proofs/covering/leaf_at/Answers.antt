use Rattle.zeb_leaf_rows.proofs.Cited.{state}
use Rattle.zeb_register.proofs.LooksInTurn.{looks_as, looks_failed, looks_then, looks_told}
use Rattle.zeb_leaf_rows.proofs.CoveringCalls.{gone_at, still_uncovered}
use Rattle.zeb_leaf_rows.proofs.covering.leaf_at.Goals as goal

pub returns-in_err-leaf : goal.returns-in_err-leaf
returns-in_err-leaf g c = looks_failed _ _ _ c.from_residual.result _ _ _ c.in_err-leaf.ensures c.from_residual.ensures.1

pub returns-in-Some : goal.returns-in-Some
returns-in-Some g c = looks_told _ _ _ _ _ _ _ c.in_ok-leaf.ensures (λ store covers. rw c.in-Some.is at covers)

pub returns-in-None : goal.returns-in-None
returns-in-None g c =
    let trees = (state g.S.Store c.args.conn.now).now.trees in
    looks_then _ _ _ _ c.no_leaf.result _ _ _ _ _ _ (looks_as _ _ _ _ c.in_ok-leaf.ensures) c.no_leaf.ensures
    (λ store covers. still_uncovered trees c.args.at c.args.term.now c.args.block (rw c.in-None.is at covers))
    (λ store covers found none. gone_at trees c.args.at c.args.term.now c.args.block (rw c.in-None.is at covers) found none.0 none.1)
