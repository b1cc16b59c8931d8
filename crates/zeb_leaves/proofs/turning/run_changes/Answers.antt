use Rattle.zeb_leaves.proofs.Cited.{rules, HasCleanDisk, ◌≤◌, List, arith, length, state, subst, sym, IsStore, Database, ArePieces, on_ok_so, store_same, more_leaves, Answers, packed_leaves, IsRunRefusedAs, PutsKeys, changes_in, WorksOnLeaves, KeyChanges}
use Rattle.zeb_leaves.proofs.CountedLeaves.{pieces_few}
use Rattle.zeb_leaves.proofs.PiecesOfRuns.{run_answered}
use Rattle.zeb_leaves.proofs.TurningCalls.{reads_then_goes}
use Rattle.zeb_leaves.proofs.turning.run_changes.Goals as goal

pub pieces_turned-requires : goal.pieces_turned-requires
pieces_turned-requires g c = subst ArePieces (sym c.deref.ensures.value) c.in_ok-pieces.ensures.pieces

pub returns-clause-call : goal.returns-clause-call
returns-clause-call g c = record { same = search rules; does = reads_then_goes _ _ _ _ c.pieces_turned.result c.in_ok-alloc.ensures.call.does c.pieces_turned.ensures.call.does }

pub returns-clause-units : goal.returns-clause-units
returns-clause-units g c clean inside store =
    let s0 = state g.S.Store c.args.tx.now.conn.now in
    let s1 = state g.S.Store c.nothing_inside.new.tx.conn.now in
    let s2 = state g.S.Store c.pieces_turned.new.tx.conn.now in
    let db = c.args.db.0 in
    let pieces = c.in_ok-pieces.pieces.items in
    let clean1 : HasCleanDisk s1 = omega (arith, c.pieces_turned.ensures.call.does.crash.clean) in
    let read = c.in_ok-alloc.ensures.call.does.ok clean1 inside in
    let told = c.pieces_turned.ensures.units clean read.mode (store_same s0 s1 read.now_is store) in
    let here = subst (λ (l : List KeyChanges). Answers (IsRunRefusedAs packed_leaves db l s1.now.trees) (λ done. IsStore s2 × PutsKeys packed_leaves db l s1.now.trees s2.now.trees) c.pieces_turned.result) c.deref.ensures.value told in
    run_answered db c.args.run.now pieces c.in_ok-pieces.ensures.parts c.in_ok-pieces.ensures.pieces s0.now.trees s2.now.trees (IsStore s2) c.pieces_turned.result
    (subst (λ (d : Database). Answers (IsRunRefusedAs packed_leaves db pieces d.trees) (λ done. IsStore s2 × PutsKeys packed_leaves db pieces d.trees s2.now.trees) c.pieces_turned.result) read.now_is here)

pub returns-clause-work : goal.returns-clause-work
returns-clause-work g c clean inside store =
    let s0 = state g.S.Store c.args.tx.now.conn.now in
    let s1 = state g.S.Store c.nothing_inside.new.tx.conn.now in
    let s2 = state g.S.Store c.pieces_turned.new.tx.conn.now in
    let run = c.args.run.now in
    let cut = c.deref.result.now in
    let clean1 : HasCleanDisk s1 = omega (arith, c.pieces_turned.ensures.call.does.crash.clean) in
    let read = c.in_ok-alloc.ensures.call.does.ok clean1 inside in
    let few : length cut ≤ changes_in run = subst (λ (l : List KeyChanges). length l ≤ changes_in run) (sym c.deref.ensures.value) (pieces_few run c.in_ok-pieces.pieces.items c.in_ok-pieces.ensures.parts c.in_ok-pieces.ensures.pieces.each) in
    on_ok_so c.pieces_turned.result _ _
    (λ works. more_leaves (length cut) (changes_in run) s0.now.trees s2.now.trees c.args.work.now c.pieces_turned.new.work few
    (subst (λ (d : Database). WorksOnLeaves (length cut) d.trees s2.now.trees c.args.work.now c.pieces_turned.new.work) read.now_is works))
    (c.pieces_turned.ensures.work clean read.mode (store_same s0 s1 read.now_is store))
