use Rattle.zeb_register.proofs.LooksInTurn.{looks_handed, looks_so}
use Rattle.zeb_leaves.proofs.last_terms.no_leaf_terms.Goals as goal

pub returns-in_err-no_leaf : goal.returns-in_err-no_leaf
returns-in_err-no_leaf g c = looks_handed _ _ _ c.from_residual.result _ _ _ _ c.in_err-no_leaf.ensures c.from_residual.ensures.1 (λ store some. some)

pub returns : goal.returns
returns g c = looks_so _ _ _ _ _ _ _ _ c.in_ok-no_leaf.ensures (λ store none. (c.new.ensures.items, none.1))
