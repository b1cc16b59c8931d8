use Rattle.zeb_register.proofs.Cited.{Database, state, HasCleanDisk, ◌≡◌, ◌+◌, suc, Ok, Err, [], arith, drop, drop-cons, get_or, refl, rules, subst, sym, all-get_or, AllByRecursion, IsStorableChange}
use Rattle.zeb_register.proofs.Answered.{refused_so}
use Rattle.zeb_register.proofs.Calls.{goes_keeps, goes_then, on_err, reads_goes, store_same}
use Rattle.zeb_register.proofs.CallsInTurn.{quiet_then}
use Rattle.zeb_register.proofs.ListChanges.{no_change}
use Rattle.zeb_register.proofs.PlainTurns.{Answered, all_left, first_refused, one_more}
use Rattle.zeb_register.proofs.ContentTurns.{none_left}
use Rattle.zeb_register.proofs.plain_changes.key_changes_plain.Goals as goal

pub loop-change-init : goal.loop-change-init
loop-change-init g c =
    let first = state g.S.Store c.args.tx.now.conn.now in
    let second = state g.S.Store c.nothing_inside.new.tx.conn.now in
    record {
      same = search rules;
      crash = search rules;
      on = λ clean inside. reads_goes first second (c.in_ok-nothing_inside.ensures.call.does.ok clean inside);
      store = λ clean inside store. store_same first second (c.in_ok-nothing_inside.ensures.call.does.ok clean inside).now_is store;
      leads = λ clean inside store end result answers.
          subst (λ (d : Database). Answered c.args.db.0 c.args.key.now c.args.changes.now d.trees end result) (c.in_ok-nothing_inside.ensures.call.does.ok clean inside).now_is answers;
    }

pub unit_change-requires : goal.unit_change-requires
unit_change-requires g c = record {
  rising = (all-get_or IsStorableChange c.args.changes.now c.loop-change.change-index no_change c.in_ok-check_changes.ensures.stored c.loop-change-test.true).places.0;
}

pub loop-change-preserved : goal.loop-change-preserved
loop-change-preserved g c =
    let first = state g.S.Store c.args.tx.now.conn.now in
    let mid = state g.S.Store c.loop-change.tx.conn.now in
    let last = state g.S.Store c.unit_change.new.tx.conn.now in
    let db = c.args.db.0 in
    let key = c.args.key.now in
    let xs = c.args.changes.now in
    let i = c.loop-change.change-index in
    let x = get_or xs i no_change in
    let so_far = c.loop-change.invariant in
    let it = c.in_ok-unit_change.ensures in
    let is = drop-cons xs i no_change c.loop-change-test.true in
    let more : suc i ≡ i + 1 = omega arith in
    record {
      same = search rules;
      crash = search rules;
      on = λ clean inside.
          let was : HasCleanDisk mid = omega (arith, c.unit_change.ensures.call.does.crash.clean) in
          let on = so_far.on was inside in
          goes_then first mid last on (it.call.does.ok clean on.mode);
      store = λ clean inside store.
          let was : HasCleanDisk mid = omega (arith, c.unit_change.ensures.call.does.crash.clean) in
          (it.units clean (so_far.on was inside).mode (so_far.store was inside store)).0;
      leads = λ clean inside store end result answers.
          let was : HasCleanDisk mid = omega (arith, c.unit_change.ensures.call.does.crash.clean) in
          let turned = (it.units clean (so_far.on was inside).mode (so_far.store was inside store)).1 in
          let stored = all-get_or IsStorableChange xs i no_change c.in_ok-check_changes.ensures.stored c.loop-change-test.true in
          let rest = subst (λ n. Answered db key (drop n xs) last.now.trees end result) (sym more) answers in
          so_far.leads was inside store end result (subst (λ l. Answered db key l mid.now.trees end result) (sym is) (one_more db key x (drop (suc i) xs) mid.now.trees last.now.trees end result stored turned rest));
    }

pub returns-clause-units : goal.returns-clause-units
returns-clause-units g c clean inside store =
    let now = state g.S.Store c.loop-change.tx.conn.now in
    let xs = c.args.changes.now in
    let so_far = c.loop-change.invariant in
    let none : drop c.loop-change.change-index xs ≡ [] = none_left c.loop-change.change-index xs c.loop-change-test.false in (
      so_far.store clean inside store,
      so_far.leads clean inside store now.now.trees (Ok tt) (subst (λ l. Answered c.args.db.0 c.args.key.now l now.now.trees now.now.trees (Ok tt)) (sym none) (λ tree. refl)),
    )

pub returns-in_err-unit_change-clause-units : goal.returns-in_err-unit_change-clause-units
returns-in_err-unit_change-clause-units g c clean inside store =
    let mid = state g.S.Store c.loop-change.tx.conn.now in
    let db = c.args.db.0 in
    let key = c.args.key.now in
    let xs = c.args.changes.now in
    let i = c.loop-change.change-index in
    let x = get_or xs i no_change in
    let fault = c.in_err-unit_change.field-0.0 in
    let so_far = c.loop-change.invariant in
    let was : HasCleanDisk mid = omega (arith, c.unit_change.ensures.call.does.crash.clean) in
    let is = drop-cons xs i no_change c.loop-change-test.true in
    let left = all_left i xs c.in_ok-check_changes.ensures.stored in
    let refused = c.in_err-unit_change.ensures.units clean (so_far.on was inside).mode (so_far.store was inside store) in
    let here = first_refused db key x (drop (suc i) xs) mid.now.trees fault (subst (AllByRecursion IsStorableChange) is left) refused in
    refused_so _ _ c.from_residual-in_err-unit_change.result fault (search rules)
    (so_far.leads was inside store mid.now.trees (Err fault) (subst (λ l. Answered db key l mid.now.trees mid.now.trees (Err fault)) (sym is) here))

pub returns-in_err-unit_change-clause-call : goal.returns-in_err-unit_change-clause-call
returns-in_err-unit_change-clause-call g c = record {
  same = search rules;
  does = record {
    ok = search rules;
    err = λ clean inside.
        let on = c.loop-change.invariant.on (omega (arith, c.unit_change.ensures.call.does.crash.clean)) inside in
        on_err c.from_residual-in_err-unit_change.result _ (goes_keeps _ _ _ on (c.in_err-unit_change.ensures.call.does.err clean on.mode));
    crash = quiet_then _ _ _ c.loop-change.invariant.crash c.unit_change.ensures.call.does.crash;
  };
}
