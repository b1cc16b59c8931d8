use Rattle.zeb_leaves.proofs.Cited.{inl, rules, refused_so}
use Rattle.zeb_leaves.proofs.terms.count_row.Goals as goal

pub returns-in_err-own : goal.returns-in_err-own
returns-in_err-own c = refused_so _ _ c.from_residual.result c.in_err-own.field-0.0 (search rules) (λ told. inl (c.in_err-own.ensures told))
