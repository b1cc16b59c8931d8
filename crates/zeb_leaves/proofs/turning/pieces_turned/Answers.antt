use Rattle.zeb_leaves.proofs.Cited.{rules, HasCleanDisk, ◌∙◌, ◌+◌, arith, length, refl, state, stays_still, stays_then, quiet_still, quiet_then, both_leaves, leaves_still, more_leaves}
use Rattle.zeb_leaves.proofs.PiecesLeft.{all_put, count_within, leads_more, left_are, left_refused, some_left}
use Rattle.zeb_leaves.proofs.HandedOn.{refused_met}
use Rattle.zeb_leaves.proofs.TurningCalls.{stays_failed, stays_on}
use Rattle.zeb_leaves.proofs.turning.pieces_turned.Goals as goal

pub loop-done-init : goal.loop-done-init
loop-done-init g c =
    let first = state g.S.Store c.args.tx.now.conn.now in
    record {
      same = refl;
      within = omega arith;
      crash = quiet_still first;
      stays = λ clean inside. stays_still first inside;
      store = λ clean inside store. store;
      work = λ clean inside store. leaves_still 0 first.now.trees first.now.trees c.args.work.now refl;
      leads = λ clean inside store end result answers. answers;
    }

pub front_turned-requires-clause-some : goal.front_turned-requires-clause-some
front_turned-requires-clause-some g c = some_left c.args.pieces.now c.loop-done.done c.loop-done-test.true

pub front_turned-requires-clause-pieces : goal.front_turned-requires-clause-pieces
front_turned-requires-clause-pieces g c = left_are c.args.pieces.now c.loop-done.done c.requires

pub loop-done-preserved : goal.loop-done-preserved
loop-done-preserved g c =
    let first = state g.S.Store c.args.tx.now.conn.now in
    let mid = state g.S.Store c.loop-done.tx.conn.now in
    let last = state g.S.Store c.front_turned.new.tx.conn.now in
    let pieces = c.args.pieces.now in
    let done = c.loop-done.done in
    let count = c.in_ok-done.field-0 in
    let so_far = c.loop-done.invariant in
    let it = c.in_ok-done.ensures in
    record {
      same = it.call.same ∙ so_far.same;
      within = count_within pieces done count so_far.within it.turned.further.1;
      crash = quiet_then first mid last so_far.crash c.front_turned.ensures.call.does.crash;
      stays = λ clean inside.
          let was : HasCleanDisk mid = omega (arith, c.front_turned.ensures.call.does.crash.clean) in
          let before = so_far.stays was inside in
          stays_then first mid last before (it.call.does.ok clean before.inside);
      store = λ clean inside store.
          let was : HasCleanDisk mid = omega (arith, c.front_turned.ensures.call.does.crash.clean) in
          (it.turned.puts clean (so_far.stays was inside).inside (so_far.store was inside store)).0;
      work = λ clean inside store.
          let was : HasCleanDisk mid = omega (arith, c.front_turned.ensures.call.does.crash.clean) in
          let one = it.work clean (so_far.stays was inside).inside (so_far.store was inside store) in
          more_leaves (done + 1) (done + count) first.now.trees last.now.trees c.args.work.now c.front_turned.new.work (omega (arith, it.turned.further.0))
          (both_leaves done 1 first.now.trees mid.now.trees last.now.trees c.args.work.now c.loop-done.work c.front_turned.new.work c.counts_are_numbers.ensures (so_far.work was inside store) one);
      leads = λ clean inside store.
          let was : HasCleanDisk mid = omega (arith, c.front_turned.ensures.call.does.crash.clean) in
          leads_more pieces done c.requires c.args.db.0 first.now.trees mid.now.trees (so_far.leads was inside store) count last.now.trees
          (it.turned.puts clean (so_far.stays was inside).inside (so_far.store was inside store)).1;
    }

pub returns-clause-units : goal.returns-clause-units
returns-clause-units g c clean inside store =
    let first = state g.S.Store c.args.tx.now.conn.now in
    let now = state g.S.Store c.loop-done.tx.conn.now in
    let so_far = c.loop-done.invariant in
    (so_far.store clean inside store, all_put c.args.pieces.now c.loop-done.done c.requires c.args.db.0 first.now.trees now.now.trees (so_far.leads clean inside store) c.loop-done-test.false)

pub returns-in_err-done-clause-units : goal.returns-in_err-done-clause-units
returns-in_err-done-clause-units g c clean inside store =
    let first = state g.S.Store c.args.tx.now.conn.now in
    let mid = state g.S.Store c.loop-done.tx.conn.now in
    let so_far = c.loop-done.invariant in
    let was : HasCleanDisk mid = omega (arith, c.front_turned.ensures.call.does.crash.clean) in
    let fault = c.in_err-done.field-0.0 in
    refused_met _ _ c.from_residual.result fault c.from_residual.ensures.1
    (left_refused c.args.pieces.now c.loop-done.done c.requires c.args.db.0 first.now.trees mid.now.trees (so_far.leads was inside store) fault
    (c.in_err-done.ensures.turned.puts clean (so_far.stays was inside).inside (so_far.store was inside store)))

pub returns-clause-work : goal.returns-clause-work
returns-clause-work g c clean inside store =
    let first = state g.S.Store c.args.tx.now.conn.now in
    let now = state g.S.Store c.loop-done.tx.conn.now in
    let so_far = c.loop-done.invariant in
    more_leaves c.loop-done.done (length c.args.pieces.now) first.now.trees now.now.trees c.args.work.now c.loop-done.work so_far.within (so_far.work clean inside store)

pub returns-clause-call : goal.returns-clause-call
returns-clause-call g c = record { same = search rules; does = let so_far = c.loop-done.invariant in stays_on _ _ so_far.crash so_far.stays tt }

pub returns-in_err-done-clause-call : goal.returns-in_err-done-clause-call
returns-in_err-done-clause-call g c = record {
  same = search rules;
  does =
      let so_far = c.loop-done.invariant in
      stays_failed _ _ so_far.crash so_far.stays _ _ _ c.from_residual.result _ _ c.in_err-done.ensures.call.does c.from_residual.ensures.1;
}
