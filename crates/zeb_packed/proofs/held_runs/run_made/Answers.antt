use Rattle.zeb_packed.proofs.Cited.{packed_blocks, arith, rules, state, HasCleanDisk, refused_so, IsRunRefusedAs}
use Rattle.zeb_packed.proofs.HeldRuns.{RunAnswers, run_answers}
use Rattle.zeb_packed.proofs.KnownKeys.{always_ok}
use Rattle.zeb_packed.proofs.OpenCalls.{open_err, open_then, reads_then}
use Rattle.zeb_packed.proofs.OpenLooks.{behind_look}
use Rattle.zeb_packed.proofs.held_runs.run_made.Goals as goal

pub returns-clause-call : goal.returns-clause-call
returns-clause-call g c = reads_then c.in_ok-known.ensures (open_then c.in_ok-held.ensures.call c.held_put.ensures.call)

pub returns-clause-units : goal.returns-clause-units
returns-clause-units g c =
    let third = state g.S.Store c.keys_turned.new.tx.conn.now in
    let last = state g.S.Store c.held_put.new.tx.conn.now in
    let db = c.args.db.0 in
    let run = c.args.run.now in
    behind_look (λ trees. RunAnswers db run trees last c.held_put.result) c.in_ok-known.ensures (open_then c.in_ok-held.ensures.call c.held_put.ensures.call) (λ opened clean inside store told.
    let was : HasCleanDisk third = omega (arith, c.held_put.ensures.call.crash.clean) in
    let goes = (c.in_ok-held.ensures.call.does opened).ok was inside in
    let held = c.in_ok-held.ensures.holds opened was inside store told in
    run_answers db run (state g.S.Store c.run_known.new.tx.conn.now).now.trees third.now.trees last c.in_ok-held.held c.held_put.result held.1 (c.held_put.ensures.put goes.is_open held.1.apart clean goes.mode held.0))

pub returns-in_err-held-clause-call : goal.returns-in_err-held-clause-call
returns-in_err-held-clause-call g c = reads_then c.in_ok-known.ensures (open_err c.in_err-held.ensures.call c.from_residual-in_err-held.result (search rules))

pub returns-in_err-held-clause-units : goal.returns-in_err-held-clause-units
returns-in_err-held-clause-units g c clean inside store = refused_so _ _ c.from_residual-in_err-held.result c.in_err-held.field-0.0 (search rules)
    (behind_look (λ trees. IsRunRefusedAs packed_blocks c.args.db.0 c.args.run.now trees c.in_err-held.field-0.0) c.in_ok-known.ensures c.in_err-held.ensures.call c.in_err-held.ensures.holds clean inside store)

pub returns-clause-work : goal.returns-clause-work
returns-clause-work g c = always_ok c.held_put.result _ c.in_ok-held.ensures.work

pub run_known-requires : goal.run_known-requires
run_known-requires g c = c.requires.rising.keys
