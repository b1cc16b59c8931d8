use Rattle.zeb_register.proofs.AsksInTurn.{asks_handed, asks_so}
use Rattle.zeb_leaf_rows.proofs.CoveringLeaves.{shown_greatest}
use Rattle.zeb_leaf_rows.proofs.covering.leaf_of_terms_below.Goals as goal

pub returns-in_err-rows : goal.returns-in_err-rows
returns-in_err-rows g c = asks_handed _ _ _ c.from_residual.result _ _ c.in_err-rows.ensures c.from_residual.ensures.1

pub returns : goal.returns
returns g c = asks_so _ _ _ c.last_row.result _ _ c.in_ok-rows.ensures (λ store. shown_greatest _ c.in_ok-rows.rows.items c.last_row.result c.last_row.ensures)
