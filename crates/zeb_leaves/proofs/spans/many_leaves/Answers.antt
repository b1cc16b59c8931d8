use Rattle.zeb_leaves.proofs.Cited.{state}
use Rattle.zeb_register.proofs.LooksInTurn.{looks_handed, looks_so, looks_then}
use Rattle.zeb_leaves.proofs.SpanCalls.{found_span}
use Rattle.zeb_leaves.proofs.spans.many_leaves.Goals as goal

pub returns-in_err-leaf : goal.returns-in_err-leaf
returns-in_err-leaf g c = looks_handed _ _ _ c.from_residual.result _ _ _ _ c.in_err-leaf.ensures c.from_residual.ensures.1 (λ store uncovered. uncovered)

pub returns-in-Some : goal.returns-in-Some
returns-in-Some g c =
    looks_then _ _ _ _ c.span_from.result _ _ _ _ _ _ c.in_ok-leaf.ensures c.span_from.ensures (λ store found never. absurd never)
    (λ store found rows. found_span (state g.S.Store c.args.conn.now) store c.args.at c.args.first.now c.args.end.now c.in-Some.leaf (rw c.in-Some.is at found) rows.items)

pub returns-in-None : goal.returns-in-None
returns-in-None g c = looks_so _ _ _ _ _ _ _ _ c.in_ok-leaf.ensures (λ store found last is. rw (c.new.ensures.items) (rw c.in-None.is at found))
