use Rattle.zeb_register.proofs.Cited.{rules}
use Rattle.zeb_register.proofs.ContentLemmas.{has_at}
use Rattle.zeb_register.proofs.catalog.databases_in.Goals as goal

pub returns-in_err-database_in-clause-honest : goal.returns-in_err-database_in-clause-honest
returns-in_err-database_in-clause-honest c is known = c.in_err-database_in.ensures.honest (search rules) (known _ (has_at _ _ _ c.row-item.is c.loop-row-test.true))
