-- A number of one byte is that byte.
use Rattle.zeb_leaf.proofs.Cited.{◌∙◌, ◌++◌, List, ℕ, sym, ap, uleb-low}
use Rattle.zeb_leaf.proofs.writing.put_number.Goals as goal

pub returns-then-number-lt128-clause-ok : goal.returns-then-number-lt128-clause-ok
returns-then-number-lt128-clause-ok c = c.in_ok-push.ensures.items ∙ ap (λ (bytes : List ℕ). c.args.out.now.items ++ bytes) (sym (uleb-low c.args.number c.if-number-lt128.true))
