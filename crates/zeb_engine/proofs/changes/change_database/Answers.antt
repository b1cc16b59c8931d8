use Rattle.zeb_engine.proofs.Cited.{rules, arith, ◌≡◌, Ok, Err, Result, inl, inr, refl, Option, Database as Rows, state, Refusal, Reply, name_bytes, BeginsWith, last_of, AppliesChange, ChangesDatabase, Asked, Work}
use Rattle.zeb_register.specs.declared.catalog.Database.{Database}
use Rattle.zeb_change.specs.declared.refusals.Refusal.TheVariants.{Memory}
use Rattle.zeb_engine.proofs.CommandedConnections.{commanded_then, reads_command}
use Rattle.zeb_engine.proofs.CommandsDone.{unread_as}
use Rattle.zeb_engine.proofs.Readers.{untouched}
use Rattle.zeb_engine.proofs.ReadsInTurn.{asked_unread}
use Rattle.zeb_engine.proofs.TransactedRows.{behind, looked}
use Rattle.zeb_engine.proofs.changes.change_database.Goals as goal

-- of what was found
of_found : (Fine : Type 0) (a : Asked) (work worked : Work) (found : Option Database) (old new : Rows) (result : Result Reply Refusal) → BeginsWith a.setting.kind old.trees (name_bytes a.name) found
    → AppliesChange Fine a (last_of found) work worked old new result → ChangesDatabase Fine a work worked old new result
of_found Fine a work worked found old new (Ok told) begins does = record { found = found; begins = begins; applies = does }
of_found Fine a work worked found old new (Err refusal) begins does = inr (record { found = found; begins = begins; applies = does })

pub returns-in_err-found-clause-transacts : goal.returns-in_err-found-clause-transacts
returns-in_err-found-clause-transacts g c =
    let refusal = c.in_err-found.field-0.0 in
    let told : c.from_residual.result ≡ Err refusal = search rules in
    rw told (looked _ (state g.S.Store c.args.connection.now) (state g.S.Store c.found_for.new.connection) refusal c.found_for.ensures.reads.crash (λ clean store new. inl (c.in_err-found.ensures.tables clean store)))

pub returns-in_err-buffer-clause-transacts : goal.returns-in_err-buffer-clause-transacts
returns-in_err-buffer-clause-transacts g c =
    let told : c.from_residual-in_err-buffer.result ≡ Err Memory = search rules in
    rw told (looked _ (state g.S.Store c.args.connection.now) (state g.S.Store c.found_for.new.connection) Memory c.found_for.ensures.reads.crash (λ clean store new. inl (inr (inr (inr refl)))))

pub returns-clause-transacts : goal.returns-clause-transacts
returns-clause-transacts g c =
    behind _ _ (state g.S.Store c.args.connection.now) (state g.S.Store c.found_for.new.connection) (state g.S.Store c.transact.new.connection) c.transact.result
    c.found_for.ensures.reads.crash c.found_for.ensures.reads.same c.in_ok-found.ensures.reads.opened
    (λ clean store next told does. of_found _ _ _ _ c.in_ok-found.found _ next told (c.in_ok-found.ensures.tables clean store) does) c.transact.ensures.transacts

-- ---- what it does to the connection

pub returns-in_err-found-clause-commanded : goal.returns-in_err-found-clause-commanded
returns-in_err-found-clause-commanded g c =
    let told : c.from_residual.result ≡ Err c.in_err-found.field-0.0 = search rules in
    rw told (record { idle = c.found_for.ensures.reads.idle; call = reads_command _ _ (Err c.in_err-found.field-0.0) (λ clean. tt) c.found_for.ensures.reads.same c.found_for.ensures.reads.crash })

pub returns-in_err-buffer-clause-commanded : goal.returns-in_err-buffer-clause-commanded
returns-in_err-buffer-clause-commanded g c =
    let told : c.from_residual-in_err-buffer.result ≡ Err Memory = search rules in
    rw told (record { idle = c.found_for.ensures.reads.idle; call = reads_command _ _ (Err Memory) (λ clean. tt) c.found_for.ensures.reads.same c.found_for.ensures.reads.crash })

pub returns-clause-commanded : goal.returns-clause-commanded
returns-clause-commanded g c =
    record {
      idle = c.transact.ensures.commanded.idle;
      call = commanded_then _ _ _ c.transact.result (λ clean. omega (arith, clean, c.transact.ensures.transacts.survives.clean))
          c.found_for.ensures.reads.crash c.in_ok-found.ensures.reads.opened c.found_for.ensures.reads.same c.transact.ensures.commanded.call;
    }

-- ---- readers that fail

pub returns-in_err-found-clause-faults : goal.returns-in_err-found-clause-faults
returns-in_err-found-clause-faults g c =
    let refusal = c.in_err-found.field-0.0 in
    let told : c.from_residual.result ≡ Err refusal = search rules in
    untouched g.R.Source.may_fail g.R.Source.has_failed c.args.readers.now refusal c.from_residual.result told (unread_as {A = Option Database} {T = Reply} refusal (asked_unread {T = Option Database} (Err refusal) c.in_err-found.ensures.few))

pub returns-in_err-buffer-clause-faults : goal.returns-in_err-buffer-clause-faults
returns-in_err-buffer-clause-faults g c =
    let told : c.from_residual-in_err-buffer.result ≡ Err Memory = search rules in
    untouched g.R.Source.may_fail g.R.Source.has_failed c.args.readers.now Memory c.from_residual-in_err-buffer.result told (λ file is. cc)
