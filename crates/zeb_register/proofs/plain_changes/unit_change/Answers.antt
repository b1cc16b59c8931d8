use Rattle.zeb_register.proofs.Cited.{state, HasCleanDisk, ◌≡◌, ◌∙◌, arith, rules, sym, true, false, Inside, GoesOn}
use Rattle.zeb_register.proofs.Answered.{refused_so}
use Rattle.zeb_register.proofs.Calls.{changes_after, goes_keeps, goes_then, on_err, reads_goes, store_same}
use Rattle.zeb_register.proofs.CallsInTurn.{quiet_then}
use Rattle.zeb_register.proofs.PlaceLemmas.{beside}
use Rattle.zeb_register.proofs.PlainTurns.{unit_turned}
use Rattle.zeb_register.proofs.plain_changes.unit_change.Goals as goal

pub returns-clause-units : goal.returns-clause-units
returns-clause-units g c clean inside store =
    let first = state g.S.Store c.args.tx.now.conn.now in
    let second = state g.S.Store c.holds_places.new.tx.conn.now in
    let third = state g.S.Store c.places_take.new.tx.conn.now in
    let last = state g.S.Store c.places_put.new.tx.conn.now in
    let clean2 : HasCleanDisk third = omega (arith, clean, c.places_put.ensures.call.does.crash.clean) in
    let clean1 : HasCleanDisk second = omega (arith, clean2, c.places_take.ensures.call.does.crash.clean) in
    let reads = c.in_ok-holds_places.ensures.found.looks.call.ok clean1 inside in
    let taken = c.in_ok-places_take.ensures.call.does.ok clean2 reads.mode in
    let done = changes_after _ _ _ _ _ reads inside (taken.rows (store_same _ _ reads.now_is store)) in
    let found = (c.in_ok-holds_places.ensures.found.looks.finds clean1 inside store).0 (search rules) in
    unit_turned c.args.db.0 c.args.key.now c.args.sysno c.args.old.now c.args.new.now first third last c.in_ok-holds_places.ensures.text found c.requires.rising
    done.rows (beside first.now.trees third.now.trees done.others) (c.in_ok-places_put.ensures.put clean taken.on.mode done.layout)

pub returns-in_err-places_put-clause-call : goal.returns-in_err-places_put-clause-call
returns-in_err-places_put-clause-call g c = record {
  same = search rules;
  does =
      let first = state g.S.Store c.args.tx.now.conn.now in
      let second = state g.S.Store c.holds_places.new.tx.conn.now in
      let third = state g.S.Store c.places_take.new.tx.conn.now in
      let last = state g.S.Store c.places_put.new.tx.conn.now in
      let it : Inside first last c.from_residual-in_err-places_put.result (λ _. GoesOn) = record {
        ok = λ clean inside. search rules;
        err = λ clean inside.
            let clean2 : HasCleanDisk third = omega (arith, clean, c.places_put.ensures.call.does.crash.clean) in
            let clean1 : HasCleanDisk second = omega (arith, clean2, c.places_take.ensures.call.does.crash.clean) in
            let reads = c.in_ok-holds_places.ensures.found.looks.call.ok clean1 inside in
            let taken = c.in_ok-places_take.ensures.call.does.ok clean2 reads.mode in
            on_err _ _ (goes_keeps first third last (goes_then first second third (reads_goes first second reads) taken.on) (c.in_err-places_put.ensures.call.does.err clean taken.on.mode));
        crash = quiet_then first second last c.holds_places.ensures.found.looks.call.crash (quiet_then second third last c.places_take.ensures.call.does.crash c.places_put.ensures.call.does.crash);
      } in
      it;
}

pub returns-then-not-branch-clause-units : goal.returns-then-not-branch-clause-units
returns-then-not-branch-clause-units g c clean inside store told reads =
    let e : true ≡ false = sym ((c.in_ok-holds_places.ensures.found.looks.finds clean inside store).1 reads) ∙ c.if-not-branch.true in
    cc

pub returns-in_err-holds_places-clause-units : goal.returns-in_err-holds_places-clause-units
returns-in_err-holds_places-clause-units g c clean inside store = refused_so _ _ c.from_residual.result c.in_err-holds_places.field-0.0 (search rules) (c.in_err-holds_places.ensures.found.looks.finds clean inside store)

pub returns-clause-call : goal.returns-clause-call
returns-clause-call g c = record {
  same = search rules;
  does = record {
    ok = λ clean inside.
        let clean2 : HasCleanDisk (state g.S.Store c.places_take.new.tx.conn.now) = omega (arith, clean, c.places_put.ensures.call.does.crash.clean) in
        let clean1 : HasCleanDisk (state g.S.Store c.holds_places.new.tx.conn.now) = omega (arith, clean2, c.places_take.ensures.call.does.crash.clean) in
        let reads = c.in_ok-holds_places.ensures.found.looks.call.ok clean1 inside in
        let taken = c.in_ok-places_take.ensures.call.does.ok clean2 reads.mode in
        goes_then _ _ _ (goes_then _ _ _ (reads_goes _ _ reads) taken.on) (c.in_ok-places_put.ensures.call.does.ok clean taken.on.mode taken.on.is_open);
    err = λ clean inside. tt;
    crash = quiet_then _ _ _ c.holds_places.ensures.found.looks.call.crash (quiet_then _ _ _ c.places_take.ensures.call.does.crash c.places_put.ensures.call.does.crash);
  };
}
