use Rattle.zeb_leaf_rows.proofs.OnlyLeaf.{below_above}
use Rattle.zeb_register.proofs.LooksInTurn.{looks_as, looks_failed, looks_then, looks_told}
use Rattle.zeb_leaf_rows.proofs.neighbours.leaf_from.Goals as goal

pub only_leaf-requires : goal.only_leaf-requires
only_leaf-requires g c = rw (c.as_str.ensures.value, c.in_ok-end.ensures) (below_above c.args.first.now)

pub returns-in_err-leaf : goal.returns-in_err-leaf
returns-in_err-leaf g c = looks_failed _ _ _ c.from_residual-in_err-leaf.result _ _ _ c.in_err-leaf.ensures c.from_residual-in_err-leaf.ensures.1

pub returns-in-Some : goal.returns-in-Some
returns-in-Some g c = looks_told _ _ _ _ _ _ _ c.in_ok-leaf.ensures (λ store found. (rw c.in-Some.is at found).covers)

pub returns : goal.returns
returns g c = looks_then _ _ _ _ c.leaf_at.result _ _ _ _ _ _ (looks_as _ _ _ _ c.in_ok-leaf.ensures) c.leaf_at.ensures (λ store found uncovered. uncovered) (λ store found leaf is. is)
