use Rattle.zeb_packed.proofs.Cited.{◌≡◌, ◌≢◌, [], ap, get_or, rules, state, KeyChanges}
use Rattle.zeb_packed.proofs.NewKeys.{keys_new}
use Rattle.zeb_packed.proofs.OpenLooks.{rows_tell}
use Rattle.zeb_packed.proofs.new_keys.run_known.Goals as goal

pub returns : goal.returns
returns g c = rows_tell c.in_ok-rows.ensures.call (λ store read one here is.
    let run = c.args.run.now in
    let first = c.index-run-0.result in
    let some : run ≢ [] = search rules in
    let none : c.in_ok-rows.rows.items ≡ [] = search rules in
    keys_new c.args.db.0 (get_or run 0 first).key.now run first (state g.S.Store c.args.tx.now.conn.now).now.trees read.0 c.in_ok-rows.rows.items some
    c.index-run-0.is (ap (λ (x : KeyChanges). x.key.now) c.index-run-0.is) c.requires read.1 read.2 none (c.are_of_register-are_new.ensures is) one here)
