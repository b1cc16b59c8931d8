-- The first leaf is put, and then those behind it.
use Rattle.zeb_leaves.proofs.Cited.{rules, arith, length, refl, pos, state, HasCleanDisk, goes_keeps, goes_then, on_err, quiet_then}
use Rattle.zeb_leaves.proofs.WrittenLeaves.{all_put}
use Rattle.zeb_register.proofs.HandedOn.{shows_none}
use Rattle.zeb_leaves.proofs.writes.leaves_put.Goals as goal

pub returns-clause-call : goal.returns-clause-call
returns-clause-call g c = record {
  same = search rules;
  does =
      let first = state g.S.Store c.args.tx.now.conn.now in
      let mid = state g.S.Store c.leaf_put.new.tx.conn.now in
      let last = state g.S.Store c.new_leaves_add.new.tx.conn.now in
      record {
        ok = λ clean inside.
            let was : HasCleanDisk mid = omega (arith, c.new_leaves_add.ensures.call.does.crash.clean) in
            let goes = (c.in_ok-leaf_put.ensures.call.does.ok was inside).on in
            goes_then first mid last goes (c.in_ok-new_leaves_add.ensures.call.does.ok clean goes.mode goes.is_open);
        err = λ clean inside. tt;
        crash = quiet_then first mid last c.leaf_put.ensures.call.does.crash c.new_leaves_add.ensures.call.does.crash;
      };
}

pub returns-in_err-new_leaves_add-clause-call : goal.returns-in_err-new_leaves_add-clause-call
returns-in_err-new_leaves_add-clause-call g c = record {
  same = search rules;
  does =
      let first = state g.S.Store c.args.tx.now.conn.now in
      let mid = state g.S.Store c.leaf_put.new.tx.conn.now in
      let last = state g.S.Store c.new_leaves_add.new.tx.conn.now in
      record {
        ok = λ clean inside. shows_none _ c.from_residual-in_err-new_leaves_add.result _ c.from_residual-in_err-new_leaves_add.ensures.1;
        err = λ clean inside.
            let was : HasCleanDisk mid = omega (arith, c.new_leaves_add.ensures.call.does.crash.clean) in
            let goes = (c.in_ok-leaf_put.ensures.call.does.ok was inside).on in
            on_err c.from_residual-in_err-new_leaves_add.result _ (goes_keeps first mid last goes (c.in_err-new_leaves_add.ensures.call.does.err clean goes.mode));
        crash = quiet_then first mid last c.leaf_put.ensures.call.does.crash c.new_leaves_add.ensures.call.does.crash;
      };
}

pub returns-clause-put : goal.returns-clause-put
returns-clause-put g c clean inside store =
    let first = state g.S.Store c.args.tx.now.conn.now in
    let mid = state g.S.Store c.leaf_put.new.tx.conn.now in
    let last = state g.S.Store c.new_leaves_add.new.tx.conn.now in
    let was : HasCleanDisk mid = omega (arith, c.new_leaves_add.ensures.call.does.crash.clean) in
    let put = c.in_ok-leaf_put.ensures.call.does.ok was inside in
    let one = put.rows store in
    all_put c.args.at c.args.term.now (pos c.args.block) c.args.bytes.now c.args.is_there c.args.leaves.now first mid last one (c.in_ok-new_leaves_add.ensures.put clean put.on.mode one.layout)

pub returns-clause-rows : goal.returns-clause-rows
returns-clause-rows g c clean inside store =
    let mid = state g.S.Store c.leaf_put.new.tx.conn.now in
    let was : HasCleanDisk mid = omega (arith, c.new_leaves_add.ensures.call.does.crash.clean) in
    let put = c.in_ok-leaf_put.ensures.call.does.ok was inside in
    let came = c.in_ok-leaf_put.ensures.rows was inside store in
    let more = c.in_ok-new_leaves_add.ensures.rows clean put.on.mode (put.rows store).layout in
    (length c.args.leaves.now, refl, omega (arith, came, more))
