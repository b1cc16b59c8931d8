use Rattle.zeb_packed.proofs.Cited.{ap, option_copied, state, first_is, first_got, refused_rows}
use Rattle.zeb_packed.proofs.KeyCounts.{known_clear, none_counts, none_shown, shown_counts}
use Rattle.zeb_packed.proofs.OpenLooks.{rows_tell}
use Rattle.zeb_packed.proofs.packed_changes.key_known.Goals as goal

pub returns-in-Some-clause-found : goal.returns-in-Some-clause-found
returns-in-Some-clause-found g c = rows_tell c.in_ok-rows.ensures.call (λ store held.
    shown_counts (state g.S.Store c.args.tx.now.conn.now) store c.args.db.0 c.args.key.now c.in-Some.row.now (first_is _ c.in_ok-rows.rows.items c.in-Some.row.now held (first_got c.first.ensures.value c.deref.ensures.value (ap option_copied c.in-Some.is))) c.in_ok-known_at-in-Some.field-0 c.in_ok-known_at-in-Some.ensures.ok)

pub returns-in_err-known_at-in-Some-clause-found : goal.returns-in_err-known_at-in-Some-clause-found
returns-in_err-known_at-in-Some-clause-found g c = rows_tell c.in_ok-rows.ensures.call (λ store held.
    refused_rows c.in_err-known_at-in-Some.field-0.0 c.from_residual-in_err-known_at-in-Some.result c.from_residual-in_err-known_at-in-Some.ensures.1 _ _
    (λ told. none_shown (state g.S.Store c.args.tx.now.conn.now) store c.args.db.0 c.args.key.now c.in-Some.row.now (first_is _ c.in_ok-rows.rows.items c.in-Some.row.now held (first_got c.first.ensures.value c.deref.ensures.value (ap option_copied c.in-Some.is))) c.in_err-known_at-in-Some.ensures.refused.1))

pub returns-clause-found : goal.returns-clause-found
returns-clause-found g c = rows_tell c.in_ok-rows.ensures.call (λ store held.
    none_counts (state g.S.Store c.args.tx.now.conn.now).now.trees c.args.db.0 c.args.key.now c.in_ok-rows.rows.items held (first_got c.first.ensures.value c.deref.ensures.value (ap option_copied c.in-None.is)))

pub returns-in-Some-clause-clear : goal.returns-in-Some-clause-clear
returns-in-Some-clause-clear g c = known_clear c.in-Some.row.now c.in_ok-known_at-in-Some.field-0 c.in_ok-known_at-in-Some.ensures.ok
