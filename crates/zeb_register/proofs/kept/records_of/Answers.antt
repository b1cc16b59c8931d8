use Rattle.zeb_register.proofs.Cited.{rules}
use Rattle.zeb_register.proofs.ContentLemmas.{has_at}
use Rattle.zeb_register.proofs.kept.records_of.Goals as goal

pub returns-in_err-record_of-clause-honest : goal.returns-in_err-record_of-clause-honest
returns-in_err-record_of-clause-honest c is known = c.in_err-record_of.ensures.honest (search rules) (known _ (has_at _ _ _ c.row-item.is c.loop-row-test.true))
