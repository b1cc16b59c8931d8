use Rattle.zeb_engine.proofs.Cited.{rules, arith, state, HasCleanDisk, Inside, GoesOn, goes_keeps, goes_then, on_err, quiet_then}
use Rattle.zeb_engine.proofs.Beginning.{texts_put}
use Rattle.zeb_engine.proofs.writes.put_texts.Goals as goal

pub returns-clause-put : goal.returns-clause-put
returns-clause-put g c clean inside store none =
    let first = state g.S.Store c.args.tx.now.conn.now in
    let second = state g.S.Store c.meta_put.new.tx.conn.now in
    let third = state g.S.Store c.meta_put-2.new.tx.conn.now in
    let last = state g.S.Store c.meta_put-3.new.tx.conn.now in
    let clean3 : HasCleanDisk third = omega (arith, c.meta_put-3.ensures.call.does.crash.clean) in
    let clean2 : HasCleanDisk second = omega (arith, c.meta_put-3.ensures.call.does.crash.clean, c.meta_put-2.ensures.call.does.crash.clean) in
    let one = c.in_ok-meta_put.ensures.call.does.ok clean2 inside in
    let two = c.in_ok-meta_put-2.ensures.call.does.ok clean3 one.on.mode in
    let three = c.in_ok-meta_put-3.ensures.call.does.ok clean two.on.mode in
    let rows1 = one.rows store in
    let rows2 = two.rows rows1.layout in
    texts_put first second third last c.args.version.now c.args.text.now c.args.pattern.now (c.utf8.version, c.utf8.text, c.utf8.pattern) none rows1 rows2 (three.rows rows2.layout)

pub returns-in_err-meta_put-3-clause-call : goal.returns-in_err-meta_put-3-clause-call
returns-in_err-meta_put-3-clause-call g c = record {
  same = search rules;
  does =
      let first = state g.S.Store c.args.tx.now.conn.now in
      let second = state g.S.Store c.meta_put.new.tx.conn.now in
      let third = state g.S.Store c.meta_put-2.new.tx.conn.now in
      let last = state g.S.Store c.meta_put-3.new.tx.conn.now in
      let it : Inside first last c.from_residual-in_err-meta_put-3.result (λ _. GoesOn) = record {
        ok = λ clean inside. search rules;
        err = λ clean inside.
            let clean3 : HasCleanDisk third = omega (arith, c.meta_put-3.ensures.call.does.crash.clean) in
            let clean2 : HasCleanDisk second = omega (arith, c.meta_put-3.ensures.call.does.crash.clean, c.meta_put-2.ensures.call.does.crash.clean) in
            let one = c.in_ok-meta_put.ensures.call.does.ok clean2 inside in
            let two = c.in_ok-meta_put-2.ensures.call.does.ok clean3 one.on.mode in
            on_err _ _ (goes_keeps first third last (goes_then first second third one.on two.on) (c.in_err-meta_put-3.ensures.call.does.err clean two.on.mode));
        crash = quiet_then first second last c.meta_put.ensures.call.does.crash (quiet_then second third last c.meta_put-2.ensures.call.does.crash c.meta_put-3.ensures.call.does.crash);
      } in
      it;
}
