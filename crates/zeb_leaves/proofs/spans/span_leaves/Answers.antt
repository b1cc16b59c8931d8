use Rattle.zeb_leaves.proofs.Cited.{Row, ◌∙◌, ◌++◌, ◌∷◌, List, [], IsLeafIn, ap, state, subst, sym, AreSpanLeaves}
use Rattle.zeb_register.specs.declared.faults.RowFault.TheVariants.{Memory as NoMemory}
use Rattle.zeb_register.proofs.LooksInTurn.{looks_as, looks_failed, looks_refused, looks_then, looks_told}
use Rattle.zeb_leaves.proofs.SpanCalls.{only_spans}
use Rattle.zeb_leaves.proofs.spans.span_leaves.Goals as goal

pub returns-in_err-leaf : goal.returns-in_err-leaf
returns-in_err-leaf g c = looks_failed _ _ _ c.from_residual.result _ _ _ c.in_err-leaf.ensures c.from_residual.ensures.1

pub returns-in_default : goal.returns-in_default
returns-in_default g c = looks_then _ _ _ _ c.many_leaves.result _ _ _ _ _ _ (looks_as _ _ _ _ c.in_ok-leaf.ensures) c.many_leaves.ensures (λ store found uncovered. uncovered) (λ store found rows are. are)

pub returns-in_err-push : goal.returns-in_err-push
returns-in_err-push g c = looks_refused _ _ _ NoMemory c.from_residual-in_err-push.result _ _ _ c.in_ok-leaf.ensures c.from_residual-in_err-push.ensures.1 (λ store found told. absurd (cc))

pub returns : goal.returns
returns g c =
    let Leaves = IsLeafIn (state g.S.Store c.args.conn.now).now.trees c.args.at in
    looks_told _ _ _ _ _ _ _ c.in_ok-leaf.ensures (λ store found last is.
    let items = c.in_ok-push.ensures.items ∙ ap (λ (l : List Row). l ++ c.in-Some.leaf ∷ []) c.new-rows.ensures.items in
    subst (AreSpanLeaves Leaves c.args.first.now last) (sym {A = List Row} items) (only_spans Leaves c.args.first.now c.args.end.now c.in-Some.leaf (rw c.in-Some.is at found) last is))
