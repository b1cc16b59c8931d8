use Rattle.zeb_engine.proofs.Cited.{rules, arith, ◌≡◌, Err, pos, state, HasCleanDisk, PutsDatabase, databases_tree, goes_keeps, goes_then, on_err, reads_goes}
use Rattle.zeb_register.specs.declared.faults.RegFault.TheVariants.{Damaged}
use Rattle.zeb_engine.proofs.OneRefusal.{not_refused}
use Rattle.zeb_engine.proofs.ChangeNumbers.{changed_still, numbered_same, row_put}
use Rattle.zeb_engine.proofs.ChangeSteps.{kept_records}
use Rattle.zeb_engine.proofs.changes.begin_change.Goals as goal

-- ---- what it does

pub returns-in_err-check_numbers-clause-call : goal.returns-in_err-check_numbers-clause-call
returns-in_err-check_numbers-clause-call g c = record {
  same = search rules;
  does = record {
    ok = search rules;
    err = λ clean inside.
        let on = c.in_ok-database.ensures.call.does.ok (omega (arith, clean, c.check_numbers.ensures.call.does.crash.clean)) inside in
        on_err c.from_residual-in_err-check_numbers.result _ (goes_keeps _ _ _ on (c.in_err-check_numbers.ensures.call.does.err clean on.mode));
    crash = search rules;
  };
}

pub returns-clause-call : goal.returns-clause-call
returns-clause-call g c = record {
  same = search rules;
  does = record {
    ok = λ clean inside.
        let on = c.in_ok-database.ensures.call.does.ok (omega (arith, clean, c.check_numbers.ensures.call.does.crash.clean)) inside in
        goes_then _ _ _ on (reads_goes _ _ (c.in_ok-check_numbers.ensures.call.does.ok clean on.mode));
    err = search rules;
    crash = search rules;
  };
}

pub returns-clause-put : goal.returns-clause-put
returns-clause-put g c clean inside store =
    let old = state g.S.Store c.args.tx.now.conn.now in
    let mid = state g.S.Store c.database_put.new.tx.conn.now in
    let new = state g.S.Store c.check_numbers.new.tx.conn.now in
    let first : HasCleanDisk mid = omega (arith, clean, c.check_numbers.ensures.call.does.crash.clean) in
    changed_still databases_tree (PutsDatabase c.in_ok-database.database.0 c.args.name.now (pos c.args.last)) old mid new (c.in_ok-database.ensures.put first inside store)
    (c.in_ok-check_numbers.ensures.call.does.ok clean (c.in_ok-database.ensures.call.does.ok first inside).mode) inside

-- the rows of records are as they were
pub returns-clause-numbers : goal.returns-clause-numbers
returns-clause-numbers g c clean inside store =
    let old = state g.S.Store c.args.tx.now.conn.now in
    let mid = state g.S.Store c.database_put.new.tx.conn.now in
    let id = c.in_ok-database.database.0 in
    let first : HasCleanDisk mid = omega (arith, clean, c.check_numbers.ensures.call.does.crash.clean) in
    let on = c.in_ok-database.ensures.call.does.ok first inside in
    let put = c.in_ok-database.ensures.put first inside store in
    numbered_same c.args.last old.now.trees mid.now.trees id (kept_records id c.args.name.now (pos c.args.last) old mid put) (c.in_ok-check_numbers.ensures.numbers clean on.mode put.layout)

-- ---- when it tells damage

pub returns-in_err-database-clause-honest : goal.returns-in_err-database-clause-honest
returns-in_err-database-clause-honest g c clean inside store damaged =
    let fault : c.database_put.result ≡ Err Damaged = search rules in
    absurd (c.database_put.ensures.honest clean inside store fault)

pub returns-in_err-check_numbers-clause-honest : goal.returns-in_err-check_numbers-clause-honest
returns-in_err-check_numbers-clause-honest g c clean inside store damaged =
    let mid = state g.S.Store c.database_put.new.tx.conn.now in
    let fault : c.check_numbers.result ≡ Err Damaged = search rules in
    let first : HasCleanDisk mid = omega (arith, clean, c.check_numbers.ensures.call.does.crash.clean) in
    let on = c.in_ok-database.ensures.call.does.ok first inside in
    let put = c.in_ok-database.ensures.put first inside store in
    record { id = c.in_ok-database.database.0; now = mid.now; put = row_put (state g.S.Store c.args.tx.now.conn.now) mid c.in_ok-database.database.0 c.args.name.now c.args.last put; unsound = c.check_numbers.ensures.honest clean on.mode put.layout fault }

pub returns-clause-honest : goal.returns-clause-honest
returns-clause-honest g c clean inside store damaged = absurd (not_refused _ Damaged damaged)
