use Rattle.zeb_engine.proofs.Cited.{rules, arith, ◌≡◌, Err, sym, subst, Database, state, HasCleanDisk, AreReadable, IsFirstFrom, goes_keeps, on_err, reads_goes, store_same, AreGiven}
use Rattle.zeb_register.specs.declared.faults.RegFault.TheVariants.{Damaged}
use Rattle.zeb_register.proofs.Answered.{damage_of}
use Rattle.zeb_engine.proofs.ChangeNumbers.{damage_wrong, if_done, kept_still, numbers_given, numbers_on, numbers_told, reads_keep, reads_then}
use Rattle.zeb_engine.proofs.changes.check_numbers.Goals as goal

-- ---- what it does to the connection

pub returns-in_err-next-clause-call : goal.returns-in_err-next-clause-call
returns-in_err-next-clause-call g c = record {
  same = search rules;
  does = record {
    ok = search rules;
    err = λ clean inside. on_err c.from_residual.result _ (kept_still (state g.S.Store c.args.tx.now.conn.now));
    crash = search rules;
  };
}

pub returns-in_err-above-clause-call : goal.returns-in_err-above-clause-call
returns-in_err-above-clause-call g c = record {
  same = search rules;
  does = record {
    ok = search rules;
    err = λ clean inside.
        let one = c.in_ok-first.ensures.found.looks.call.ok (omega (arith, clean, c.record_from_inside-2.ensures.found.looks.call.crash.clean)) inside in
        on_err c.from_residual-in_err-above.result _ (goes_keeps _ _ _ (reads_goes _ _ one) (c.in_err-above.ensures.found.looks.call.err clean one.mode));
    crash = search rules;
  };
}

pub returns-clause-call : goal.returns-clause-call
returns-clause-call g c = record {
  same = search rules;
  does =
      let old = state g.S.Store c.args.tx.now.conn.now in
      let mid = state g.S.Store c.record_from_inside.new.tx.conn.now in
      let new = state g.S.Store c.record_from_inside-2.new.tx.conn.now in
      record {
        ok = λ clean inside.
            let one = c.in_ok-first.ensures.found.looks.call.ok (omega (arith, clean, c.record_from_inside-2.ensures.found.looks.call.crash.clean)) inside in
            if_done c.check_found.result _ (reads_then old mid new one (c.in_ok-above.ensures.found.looks.call.ok clean one.mode));
        err = λ clean inside.
            let one = c.in_ok-first.ensures.found.looks.call.ok (omega (arith, clean, c.record_from_inside-2.ensures.found.looks.call.crash.clean)) inside in
            on_err c.check_found.result _ (reads_keep old new (reads_then old mid new one (c.in_ok-above.ensures.found.looks.call.ok clean one.mode)));
        crash = search rules;
      };
}

-- ---- what it tells

pub returns-clause-numbers : goal.returns-clause-numbers
returns-clause-numbers g c clean inside store =
    let old = state g.S.Store c.args.tx.now.conn.now in
    let mid = state g.S.Store c.record_from_inside.new.tx.conn.now in
    let id = c.args.database.0 in
    let next = c.in_ok-next.next in
    let is = c.in_ok-next.ensures.above in
    let first_clean : HasCleanDisk mid = omega (arith, clean, c.record_from_inside-2.ensures.found.looks.call.crash.clean) in
    let one = c.in_ok-first.ensures.found.looks.call.ok first_clean inside in
    let least = (c.in_ok-first.ensures.found.looks.finds first_clean inside store).small (omega arith) in
    let more = subst (λ (d : Database). IsFirstFrom d.trees id next c.in_ok-above.above) one.now_is
    ((c.in_ok-above.ensures.found.looks.finds clean one.mode (store_same old mid one.now_is store)).small is.1) in
    numbers_on c.check_found.result (AreGiven c.in_ok-first.first c.in_ok-above.above) _ (numbers_told old.now.trees id c.args.last next is.0 c.in_ok-first.first c.in_ok-above.above least more) c.check_found.ensures.given

-- ---- when it tells damage

pub returns-in_err-next-clause-honest : goal.returns-in_err-next-clause-honest
returns-in_err-next-clause-honest g c clean inside store damaged = λ well.
    let large = c.in_err-next.ensures.damaged.1 in
    let few = well.stored in
    omega (arith, large, few)

pub returns-in_err-first-clause-honest : goal.returns-in_err-first-clause-honest
returns-in_err-first-clause-honest g c clean inside store damaged = λ well.
    let fault : c.record_from_inside.result ≡ Err Damaged = search rules in
    damage_of _ _ _ (c.record_from_inside.ensures.found.looks.finds clean inside store) fault well.readable

pub returns-in_err-above-clause-honest : goal.returns-in_err-above-clause-honest
returns-in_err-above-clause-honest g c clean inside store damaged = λ well.
    let fault : c.record_from_inside-2.result ≡ Err Damaged = search rules in
    let one = c.in_ok-first.ensures.found.looks.call.ok (omega (arith, clean, c.record_from_inside-2.ensures.found.looks.call.crash.clean)) inside in
    let able = subst (λ (d : Database). AreReadable d.trees c.args.database.0) (sym one.now_is) well.readable in
    damage_of _ _ _ (c.record_from_inside-2.ensures.found.looks.finds clean one.mode (store_same (state g.S.Store c.args.tx.now.conn.now) (state g.S.Store c.record_from_inside.new.tx.conn.now) one.now_is store)) fault able

pub returns-clause-honest : goal.returns-clause-honest
returns-clause-honest g c clean inside store damaged = λ well.
    let old = state g.S.Store c.args.tx.now.conn.now in
    let mid = state g.S.Store c.record_from_inside.new.tx.conn.now in
    let next = c.in_ok-next.next in
    let is = c.in_ok-next.ensures.above in
    let first_clean : HasCleanDisk mid = omega (arith, clean, c.record_from_inside-2.ensures.found.looks.call.crash.clean) in
    let one = c.in_ok-first.ensures.found.looks.call.ok first_clean inside in
    let least = (c.in_ok-first.ensures.found.looks.finds first_clean inside store).small (omega arith) in
    let more = subst (λ (d : Database). IsFirstFrom d.trees c.args.database.0 next c.in_ok-above.above) one.now_is
    ((c.in_ok-above.ensures.found.looks.finds clean one.mode (store_same old mid one.now_is store)).small is.1) in
    damage_wrong c.check_found.result (¬ AreGiven c.in_ok-first.first c.in_ok-above.above) c.check_found.ensures.damaged damaged
    (numbers_given old.now.trees c.args.database.0 c.args.last next is.0 c.in_ok-first.first c.in_ok-above.above least more well.numbers)
