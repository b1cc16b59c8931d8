-- The lemma that no unit is neither.
use Rattle.zeb_register.proofs.Cited.{state}
use Rattle.zeb_register.proofs.EachUnit.{none_neither}
use Rattle.zeb_register.proofs.lists.each_unit_reads_or_is_malformed.Goals as goal

pub returns : goal.returns
returns g c store format = none_neither format (state g.S.Store c.args.conn.now) store
