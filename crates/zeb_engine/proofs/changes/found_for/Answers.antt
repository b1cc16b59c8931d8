use Rattle.zeb_engine.proofs.Cited.{rules, ◌≡◌, ◌≢◌, subst, state, AreCountedDatabases, IsDatabaseOf, Update, name_bytes}
use Rattle.zeb_engine.proofs.AskingInTurn.{asks_given, asks_handed, looked_done, looked_fails}
use Rattle.zeb_engine.proofs.ChangeElders.{begins_with}
use Rattle.zeb_engine.proofs.ChangeReasons.{missed_for, missed_fault}
use Rattle.zeb_engine.proofs.changes.found_for.Goals as goal

pub returns-in_err-database_of-in-Update : goal.returns-in_err-database_of-in-Update
returns-in_err-database_of-in-Update g c =
    let trees = (state g.S.Store c.args.connection.now).now.trees in
    looked_fails c.requires.idle c.in_err-database_of-in-Update.ensures (search rules) (λ store hidden.
    missed_fault c.args.setting.now.kind trees (name_bytes c.args.name.now) c.in_err-database_of-in-Update.field-0.0 (λ is. subst (λ n. ¬ AreCountedDatabases trees n) c.as_str.ensures (hidden is)))

pub returns-in_ok-database_of-in-Update : goal.returns-in_ok-database_of-in-Update
returns-in_ok-database_of-in-Update g c =
    let trees = (state g.S.Store c.args.connection.now).now.trees in
    let update : c.args.setting.now.kind ≡ Update = search rules in
    looked_done c.requires.idle c.in_ok-database_of-in-Update.ensures (λ store found.
    begins_with c.args.setting.now.kind trees (name_bytes c.args.name.now) c.in_ok-database_of-in-Update.field-0 update (subst (λ n. IsDatabaseOf trees n c.in_ok-database_of-in-Update.field-0) c.as_str.ensures found))

pub returns-in_err-database-in-Delete : goal.returns-in_err-database-in-Delete
returns-in_err-database-in-Delete g c =
    let refusal = c.in_err-database-in-Delete.field-0.0 in
    let other : c.args.setting.now.kind ≢ Update = search rules in
    asks_handed refusal c.in_err-database-in-Delete.ensures (search rules) (λ store missed.
    missed_for c.args.setting.now.kind other (state g.S.Store c.args.connection.now).now.trees (name_bytes c.args.name.now) refusal missed)

pub returns-in_ok-database-in-Delete : goal.returns-in_ok-database-in-Delete
returns-in_ok-database-in-Delete g c = asks_given c.in_ok-database-in-Delete.ensures (λ store found. found)
