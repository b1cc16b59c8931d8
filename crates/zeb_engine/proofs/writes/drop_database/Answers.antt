use Rattle.zeb_engine.proofs.Cited.{◌≡◌, Err, rules, state, name_bytes, DropsNamed}
use Rattle.zeb_engine.proofs.MadeTables.{drop_so}
use Rattle.zeb_engine.proofs.TransactedRows.{behind, looked}
use Rattle.zeb_engine.proofs.writes.drop_database.Goals as goal

pub returns-in_err-database-clause-transacts : goal.returns-in_err-database-clause-transacts
returns-in_err-database-clause-transacts g c =
    let refusal = c.in_err-database.field-0.0 in
    let told : c.from_residual.result ≡ Err refusal = search rules in
    rw told (looked (DropsNamed g.L.Layout.format (name_bytes c.args.name.now)) (state g.S.Store c.args.connection.now) (state g.S.Store c.existing_database.new.connection) refusal c.existing_database.ensures.reads.crash
    (λ clean store next. c.in_err-database.ensures.tables clean store))

pub returns-clause-transacts : goal.returns-clause-transacts
returns-clause-transacts g c =
    let format = g.L.Layout.format in
    let old = state g.S.Store c.args.connection.now in
    let did = c.in_ok-database.ensures in
    behind (DropsNamed format (name_bytes c.args.name.now)) _ old (state g.S.Store c.existing_database.new.connection) (state g.S.Store c.transact.new.connection) c.transact.result did.reads.crash did.reads.same did.reads.opened
    (λ clean store next told does. drop_so format c.args.name c.in_ok-database.database old.now next (did.tables clean store) told does) c.transact.ensures.transacts
