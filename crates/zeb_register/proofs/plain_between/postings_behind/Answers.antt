use Rattle.zeb_register.proofs.Cited.{rules}
use Rattle.zeb_register.proofs.Answered.{refused_so}
use Rattle.zeb_register.proofs.ContentLemmas.{has_at}
use Rattle.zeb_register.proofs.plain_between.postings_behind.Goals as goal

pub returns-in_err-posting_behind : goal.returns-in_err-posting_behind
returns-in_err-posting_behind c = refused_so _ _ c.from_residual.result c.in_err-posting_behind.field-0.0 (search rules) (λ told. (c.row-item.result, has_at _ _ _ c.row-item.is c.loop-row-test.true, c.in_err-posting_behind.ensures.refused.1))
