use Rattle.zeb_leaves.proofs.Cited.{rules}
use Rattle.zeb_register.specs.declared.faults.RowFault.TheVariants.{Memory as NoMemory}
use Rattle.zeb_register.proofs.LooksInTurn.{looks_failed, looks_refused, looks_told}
use Rattle.zeb_leaves.proofs.spans.span_from.Goals as goal

pub returns-in_err-rows : goal.returns-in_err-rows
returns-in_err-rows g c = looks_failed _ _ _ c.from_residual.result _ _ _ c.in_err-rows.ensures c.from_residual.ensures.1

pub returns-in_err-insert : goal.returns-in_err-insert
returns-in_err-insert g c = looks_refused _ _ _ NoMemory c.from_residual-in_err-insert.result _ _ _ c.in_ok-rows.ensures c.from_residual-in_err-insert.ensures.1 (λ store listed told. cc)

pub returns : goal.returns
returns g c = looks_told _ _ _ _ _ _ _ c.in_ok-rows.ensures (λ store listed. (c.in_ok-rows.rows.items, search rules, listed))
