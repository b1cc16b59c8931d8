use Rattle.zeb_leaves.proofs.Cited.{inl, rules, refused_so}
use Rattle.zeb_leaves.proofs.last_terms.row_down.Goals as goal

pub returns-in_err-entries : goal.returns-in_err-entries
returns-in_err-entries c = refused_so _ _ c.from_residual.result c.in_err-entries.field-0.0 (search rules) (λ told. inl (c.in_err-entries.ensures told))
