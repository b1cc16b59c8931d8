use Rattle.zeb_register.proofs.Cited.{Database, state, HasCleanDisk, blocks_tree, ◌≡◌, ◌∙◌, ◌+◌, suc, Ok, Err, [], ◌∷◌, ap, arith, drop, drop-cons, refl, rules, subst, sym, all-get_or, NumbersRise, KeyChanges}
use Rattle.zeb_register.proofs.Answered.{fault_met, refused_so}
use Rattle.zeb_register.proofs.Calls.{goes_keeps, goes_then, on_err, reads_goes, store_same}
use Rattle.zeb_register.proofs.CallsInTurn.{quiet_then}
use Rattle.zeb_register.proofs.RunCounts.{none_run, work_all, work_begun, work_more}
use Rattle.zeb_register.proofs.RunTurns.{Answered, none_put, one_more, refused_first, rise_left}
use Rattle.zeb_register.proofs.registers.Layout.run_changes.Goals as goal

pub loop-one-init : goal.loop-one-init
loop-one-init g c =
    let first = state g.S.Store c.args.tx.now.conn.now in
    let second = state g.S.Store c.nothing_inside.new.tx.conn.now in
    record {
      same = search rules;
      crash = search rules;
      on = λ clean inside. reads_goes first second (c.in_ok-nothing_inside.ensures.call.does.ok clean inside);
      store = λ clean inside store. store_same first second (c.in_ok-nothing_inside.ensures.call.does.ok clean inside).now_is store;
      leads = λ clean inside store end result answers.
          subst (λ (d : Database). Answered g.Self.Layout.format c.args.db.0 c.args.run.now d.trees end result) (c.in_ok-nothing_inside.ensures.call.does.ok clean inside).now_is answers;
      work = λ clean inside store.
          work_begun g.Self.Layout.format g.Self.Layout.row_work c.args.run.now first.now.trees second.now.trees c.args.work.now (ap (λ (d : Database). d.trees blocks_tree) (c.in_ok-nothing_inside.ensures.call.does.ok clean inside).now_is);
      no_work = λ none. refl;
    }

pub key_changes-requires : goal.key_changes-requires
key_changes-requires g c = record {
  rising = subst (λ (one : KeyChanges). NumbersRise one.changes.now) (sym c.one-item.is)
      (all-get_or (λ (one : KeyChanges). NumbersRise one.changes.now) c.args.run.now c.loop-one.one-index c.one-item.result c.requires.rising.numbers c.loop-one-test.true);
}

pub loop-one-preserved : goal.loop-one-preserved
loop-one-preserved g c =
    let first = state g.S.Store c.args.tx.now.conn.now in
    let mid = state g.S.Store c.loop-one.tx.conn.now in
    let last = state g.S.Store c.key_changes.new.tx.conn.now in
    let format = g.Self.Layout.format in
    let db = c.args.db.0 in
    let xs = c.args.run.now in
    let i = c.loop-one.one-index in
    let x = c.one-item.result in
    let so_far = c.loop-one.invariant in
    let it = c.in_ok-key_changes.ensures in
    let is : drop i xs ≡ x ∷ drop (suc i) xs = drop-cons xs i x c.loop-one-test.true ∙ ap (λ y. y ∷ drop (suc i) xs) (sym c.one-item.is) in
    let more : suc i ≡ i + 1 = omega arith in
    record {
      same = search rules;
      crash = quiet_then first mid last so_far.crash c.key_changes.ensures.call.does.crash;
      on = λ clean inside.
          let was : HasCleanDisk mid = omega (arith, c.key_changes.ensures.call.does.crash.clean) in
          let on = so_far.on was inside in
          goes_then first mid last on (it.call.does.ok clean on.mode);
      store = λ clean inside store.
          let was : HasCleanDisk mid = omega (arith, c.key_changes.ensures.call.does.crash.clean) in
          (it.units clean (so_far.on was inside).mode (so_far.store was inside store)).0;
      leads = λ clean inside store end result answers.
          let was : HasCleanDisk mid = omega (arith, c.key_changes.ensures.call.does.crash.clean) in
          let put = (it.units clean (so_far.on was inside).mode (so_far.store was inside store)).1 in
          let rest = subst (λ n. Answered format db (drop n xs) last.now.trees end result) (sym more) answers in
          so_far.leads was inside store end result (subst (λ l. Answered format db l mid.now.trees end result) (sym is)
          (one_more format db x (drop (suc i) xs) (rise_left i xs x (drop (suc i) xs) is c.requires.rising.keys) mid.now.trees last.now.trees end result put rest));
      work = λ clean inside store.
          let was : HasCleanDisk mid = omega (arith, c.key_changes.ensures.call.does.crash.clean) in
          work_more format g.Self.Layout.row_work xs i x first.now.trees mid.now.trees last.now.trees c.args.work.now c.loop-one.work c.key_changes.new.work is c.counts_are_numbers.ensures (so_far.work was inside store)
          (it.work clean (so_far.on was inside).mode (so_far.store was inside store));
      no_work = λ none. c.key_changes.ensures.no_work none ∙ so_far.no_work none;
    }

pub returns-clause-units : goal.returns-clause-units
returns-clause-units g c clean inside store =
    let now = state g.S.Store c.loop-one.tx.conn.now in
    let xs = c.args.run.now in
    let so_far = c.loop-one.invariant in
    let none : drop c.loop-one.one-index xs ≡ [] = none_run c.loop-one.one-index xs c.loop-one-test.false in (
      so_far.store clean inside store,
      so_far.leads clean inside store now.now.trees (Ok tt)
          (subst (λ l. Answered g.Self.Layout.format c.args.db.0 l now.now.trees now.now.trees (Ok tt)) (sym none) (none_put g.Self.Layout.format c.args.db.0 now.now.trees)),
    )

pub returns-clause-work : goal.returns-clause-work
returns-clause-work g c clean inside store =
    let first = state g.S.Store c.args.tx.now.conn.now in
    let now = state g.S.Store c.loop-one.tx.conn.now in
    let xs = c.args.run.now in
    let i = c.loop-one.one-index in
    work_all g.Self.Layout.format g.Self.Layout.row_work xs i first.now.trees now.now.trees c.args.work.now c.loop-one.work (none_run i xs c.loop-one-test.false) (c.loop-one.invariant.work clean inside store)

pub returns-in_err-key_changes-clause-units : goal.returns-in_err-key_changes-clause-units
returns-in_err-key_changes-clause-units g c clean inside store =
    let mid = state g.S.Store c.loop-one.tx.conn.now in
    let format = g.Self.Layout.format in
    let db = c.args.db.0 in
    let xs = c.args.run.now in
    let i = c.loop-one.one-index in
    let x = c.one-item.result in
    let fault = c.in_err-key_changes.field-0.0 in
    let so_far = c.loop-one.invariant in
    let was : HasCleanDisk mid = omega (arith, c.key_changes.ensures.call.does.crash.clean) in
    let is : drop i xs ≡ x ∷ drop (suc i) xs = drop-cons xs i x c.loop-one-test.true ∙ ap (λ y. y ∷ drop (suc i) xs) (sym c.one-item.is) in
    let refused = c.in_err-key_changes.ensures.units clean (so_far.on was inside).mode (so_far.store was inside store) in
    let here = refused_first format db x (drop (suc i) xs) mid.now.trees fault refused in
    refused_so _ _ c.from_residual-in_err-key_changes.result fault (fault_met c.from_residual-in_err-key_changes.result fault c.from_residual-in_err-key_changes.ensures.1)
    (so_far.leads was inside store mid.now.trees (Err fault) (subst (λ l. Answered format db l mid.now.trees mid.now.trees (Err fault)) (sym is) here))

pub returns-in_err-key_changes-clause-call : goal.returns-in_err-key_changes-clause-call
returns-in_err-key_changes-clause-call g c = record {
  same = search rules;
  does = record {
    ok = search rules;
    err = λ clean inside.
        let first = state g.S.Store c.args.tx.now.conn.now in
        let mid = state g.S.Store c.loop-one.tx.conn.now in
        let last = state g.S.Store c.key_changes.new.tx.conn.now in
        let was : HasCleanDisk mid = omega (arith, c.key_changes.ensures.call.does.crash.clean) in
        let on = c.loop-one.invariant.on was inside in
        on_err c.from_residual-in_err-key_changes.result _ (goes_keeps first mid last on (c.in_err-key_changes.ensures.call.does.err clean on.mode));
    crash = quiet_then _ _ _ c.loop-one.invariant.crash c.key_changes.ensures.call.does.crash;
  };
}
