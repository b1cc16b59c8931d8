use Rattle.zeb_register.proofs.LooksInTurn.{looks_failed, looks_told}
use Rattle.zeb_leaves.proofs.between.none_between.Goals as goal

pub returns-in_err-some_row : goal.returns-in_err-some_row
returns-in_err-some_row g c = looks_failed _ _ _ c.from_residual.result _ _ _ c.in_err-some_row.ensures c.from_residual.ensures.1

pub returns : goal.returns
returns g c = looks_told _ _ _ _ _ _ _ c.in_ok-some_row.ensures (λ store some. c.new.ensures.items)
