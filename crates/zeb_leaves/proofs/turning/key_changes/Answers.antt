use Rattle.zeb_leaves.proofs.Cited.{rules, ◌∙◌, ◌+◌, ap, arith, blocks_tree, length, refl, state, sym, IsStore, Database, on_ok_so, leaves_still, more_leaves, KeyChanges}
use Rattle.zeb_leaves.proofs.LastTold.{some_there}
use Rattle.zeb_leaves.proofs.OneKey.{one_answered, one_run}
use Rattle.zeb_leaves.proofs.TurningCalls.{read_goes_on}
use Rattle.zeb_leaves.proofs.turning.key_changes.Goals as goal

pub run_changes-requires : goal.run_changes-requires
run_changes-requires g c = record { rising = one_run _ c.requires.rising }

pub returns-clause-units : goal.returns-clause-units
returns-clause-units g c clean inside store =
    let s0 = state g.S.Store c.args.tx.now.conn.now in
    let s1 = state g.S.Store c.run_changes.new.tx.conn.now in
    let one : KeyChanges = record { key = c.args.key; changes = c.args.changes } in
    let changes = c.args.changes.now in
    one_answered c.args.db.0 one (some_there changes (length changes) refl (sym c.is_empty.ensures ∙ c.if-is_empty.false)) c.in_ok-check_changes.ensures.stored s0.now.trees s1.now.trees (IsStore s1) c.run_changes.result (c.run_changes.ensures.units clean inside store)

pub returns-then-is_empty-clause-work : goal.returns-then-is_empty-clause-work
returns-then-is_empty-clause-work g c clean inside store =
    let s0 = state g.S.Store c.args.tx.now.conn.now in
    let s1 = state g.S.Store c.nothing_inside.new.tx.conn.now in
    leaves_still (length c.args.changes.now) s0.now.trees s1.now.trees c.args.work.now (ap (λ (d : Database). d.trees blocks_tree) (c.in_ok-nothing_inside.ensures.call.does.ok clean inside).now_is)

pub returns-clause-work : goal.returns-clause-work
returns-clause-work g c clean inside store =
    let s0 = state g.S.Store c.args.tx.now.conn.now in
    let s1 = state g.S.Store c.run_changes.new.tx.conn.now in
    let many = length c.args.changes.now in
    on_ok_so c.run_changes.result _ _ (more_leaves (many + 0) many s0.now.trees s1.now.trees c.args.work.now c.run_changes.new.work (omega arith)) (c.run_changes.ensures.work clean inside store)

pub returns-then-is_empty-clause-call : goal.returns-then-is_empty-clause-call
returns-then-is_empty-clause-call g c = record { same = search rules; does = read_goes_on _ _ _ tt c.in_ok-nothing_inside.ensures.call.does }

pub returns-clause-call : goal.returns-clause-call
returns-clause-call g c = record { same = search rules; does = c.run_changes.ensures.call.does }
