use Rattle.zeb_packed.proofs.Cited.{Err, ap, arith, rules, state, HasCleanDisk, refused_so}
use Rattle.zeb_packed.proofs.KeyPuts.{blocks_allowed, key_answers}
use Rattle.zeb_packed.proofs.OpenCalls.{open_err, open_of, open_ok, open_then}
use Rattle.zeb_packed.proofs.packed_runs.known_put.Goals as goal

pub returns-clause-call : goal.returns-clause-call
returns-clause-call g c = open_ok (open_then (open_of c.in_ok-after.ensures.call (λ x opened goes. goes opened)) (open_of c.in_ok-dict_write.ensures.call (λ x opened alters. alters.on)))

pub returns-in_err-dict_write-clause-call : goal.returns-in_err-dict_write-clause-call
returns-in_err-dict_write-clause-call g c =
    open_err (open_then (open_of c.in_ok-after.ensures.call (λ x opened goes. goes opened)) (open_of c.in_err-dict_write.ensures.call (λ x opened alters. alters.on))) c.from_residual-in_err-dict_write.result (search rules)

pub returns-in_err-after-clause-call : goal.returns-in_err-after-clause-call
returns-in_err-after-clause-call g c = open_err (open_of c.in_err-after.ensures.call (λ x opened goes. goes opened)) c.from_residual.result (search rules)

pub returns-clause-units : goal.returns-clause-units
returns-clause-units g c opened clean inside store counts =
    let first = state g.S.Store c.args.tx.now.conn.now in
    let mid = state g.S.Store c.runs_put.new.tx.conn.now in
    let was : HasCleanDisk mid = omega (arith, c.dict_write.ensures.call.does.crash.clean) in
    let goes = c.in_ok-after.ensures.call.does.ok was inside opened in
    key_answers c.args.db.0 c.args.key.now c.args.changes.now c.args.known c.in_ok-after.after first mid (state g.S.Store c.dict_write.new.tx.conn.now)
    counts c.requires.clear c.requires.text c.requires.stored c.requires.rising (c.in_ok-after.ensures.turned was inside store) (c.in_ok-dict_write.ensures.call.does.ok clean goes.mode)

pub returns-in_err-after-clause-units : goal.returns-in_err-after-clause-units
returns-in_err-after-clause-units g c opened clean inside store counts = refused_so _ _ c.from_residual.result c.in_err-after.field-0.0 (search rules) (
  λ none. absurd (none c.requires.stored),
  λ told. (
    c.requires.stored,
    λ were are allows.
        let first = state g.S.Store c.args.tx.now.conn.now in
        let here = blocks_allowed c.args.db.0 c.args.key.now c.args.changes.now c.args.known first.now.trees were are c.requires.clear counts c.requires.stored allows in
        c.in_err-after.ensures.damaged clean inside store (ap Err told) here,
  ),
)
