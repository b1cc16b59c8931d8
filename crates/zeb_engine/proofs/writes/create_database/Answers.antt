use Rattle.zeb_engine.proofs.Cited.{◌≡◌, None, Err, rules, refl, subst, inl, inr, state, AreCountedDatabases, IsDatabaseOf, Exists, name_bytes, register_refusal, CreatesDatabase}
use Rattle.zeb_engine.proofs.ListedDatabases.{fault_or_damage, named_row}
use Rattle.zeb_engine.proofs.MadeTables.{create_so}
use Rattle.zeb_engine.proofs.ReadsInTurn.{fault_few}
use Rattle.zeb_engine.proofs.TransactedRows.{behind, looked}
use Rattle.zeb_engine.proofs.writes.create_database.Goals as goal

pub returns-in_err-found-clause-transacts : goal.returns-in_err-found-clause-transacts
returns-in_err-found-clause-transacts g c =
    let old = state g.S.Store c.args.connection.now in
    let name = name_bytes c.args.name.now in
    let fault = c.in_err-found.field-0.0 in
    let told : c.from_residual.result ≡ Err (register_refusal fault) = search rules in
    rw told (looked (CreatesDatabase name) old (state g.S.Store c.database_of.new.conn) (register_refusal fault) c.database_of.ensures.call.crash (λ clean store next.
    elim (fault_or_damage (¬ AreCountedDatabases old.now.trees name) fault (λ is. subst (λ n. ¬ AreCountedDatabases old.now.trees n) c.as_str.ensures (c.in_err-found.ensures.finds clean store is))) [
      | inl failed ↦ inl failed
      | inr damaged ↦ inr (inr damaged)
    ]))

pub returns-in-Some-clause-transacts : goal.returns-in-Some-clause-transacts
returns-in-Some-clause-transacts g c =
    let old = state g.S.Store c.args.connection.now in
    let name = name_bytes c.args.name.now in
    looked (CreatesDatabase name) old (state g.S.Store c.database_of.new.conn) Exists c.database_of.ensures.call.crash (λ clean store next.
    inr (inl (refl, named_row old.now.trees c.as_str.result.now name c.as_str.ensures c.in_ok-found.found _ c.in-Some.is (c.in_ok-found.ensures.finds clean store))))

pub returns-in-None-clause-transacts : goal.returns-in-None-clause-transacts
returns-in-None-clause-transacts g c =
    let old = state g.S.Store c.args.connection.now in
    let mid = state g.S.Store c.database_of.new.conn in
    let name = name_bytes c.args.name.now in
    behind (CreatesDatabase name) _ old mid (state g.S.Store c.transact.new.connection) c.transact.result c.database_of.ensures.call.crash (λ clean. c.database_of.ensures.call.same clean c.requires.idle)
    (λ clean. let shown = (c.in_ok-found.ensures.call.ok clean).0 in (shown.was_open, shown.is_open))
    (λ clean store next told does.
    let none = subst (λ n. IsDatabaseOf old.now.trees n None) c.as_str.ensures (subst (IsDatabaseOf old.now.trees c.as_str.result.now) c.in-None.is (c.in_ok-found.ensures.finds clean store)) in
    create_so g.L.Layout.format c.args.name old.now next none told does) c.transact.ensures.transacts

pub returns-in_err-found-clause-few : goal.returns-in_err-found-clause-few
returns-in_err-found-clause-few g c = fault_few c.in_err-found.field-0.0 c.from_residual.result (search rules)
