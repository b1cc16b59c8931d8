-- The lemma that no key is neither.
use Rattle.zeb_leaves.proofs.Cited.{state}
use Rattle.zeb_leaves.proofs.EachCount.{none_uncounted}
use Rattle.zeb_leaves.proofs.laws.each_key_counts_or_is_miscounted.Goals as goal

pub returns : goal.returns
returns g c store = none_uncounted (state g.S.Store c.args.conn.now) store
