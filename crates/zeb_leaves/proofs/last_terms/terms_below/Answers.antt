use Rattle.zeb_leaves.proofs.Cited.{rules}
use Rattle.zeb_leaves.proofs.last_terms.terms_below.Goals as goal

pub returns : goal.returns
returns c rest none = (c.in-Some.counts.items, rw c.in-Some.is at (c.in_ok-counts.ensures rest none), search rules)
