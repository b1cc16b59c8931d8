use Rattle.zeb_packed.proofs.Cited.{ap, refl, option_copied, first_got, state, column_is}
use Rattle.zeb_packed.proofs.KeyRows.{absent_shown}
use Rattle.zeb_packed.proofs.OpenLooks.{rows_tell}
use Rattle.zeb_packed.proofs.PackedReads.{block_is_there}
use Rattle.zeb_packed.proofs.packed_changes.block_absent.Goals as goal

pub returns-in-Some : goal.returns-in-Some
returns-in-Some g c = rows_tell c.in_ok-rows.ensures.call (λ store held is.
    block_is_there (state g.S.Store c.args.tx.now.conn.now).now.trees c.args.at _ c.args.number (column_is c.ranges.number refl) c.in_ok-rows.rows.items c.in-Some.field-0.now held (first_got c.first.ensures.value c.deref.ensures.value (ap option_copied c.in-Some.is)))

pub returns : goal.returns
returns g c = rows_tell c.in_ok-rows.ensures.call (λ store held.
    absent_shown (state g.S.Store c.args.tx.now.conn.now).now.trees c.args.at _ c.args.number (column_is c.ranges.number refl) c.in_ok-rows.rows.items held (first_got c.first.ensures.value c.deref.ensures.value (ap option_copied c.in-None.is)))
