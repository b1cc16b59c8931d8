use Rattle.zeb_register.proofs.Cited.{rules}
use Rattle.zeb_register.proofs.Answered.{refused_so}
use Rattle.zeb_register.proofs.ContentLemmas.{has_at}
use Rattle.zeb_register.proofs.plain.postings_of.Goals as goal

pub returns-in_err-posting_of : goal.returns-in_err-posting_of
returns-in_err-posting_of c = refused_so _ _ c.from_residual.result c.in_err-posting_of.field-0.0 (search rules) (λ told. (c.row-item.result, has_at _ _ _ c.row-item.is c.loop-row-test.true, c.in_err-posting_of.ensures.refused.1))
