use Rattle.zeb_engine.proofs.Cited.{rules, arith, ◌≡◌, Ok, Err, IsTrue, inl, refl, sym, subst, subst₂, Held, state, Survives, quiet_then, Store, register_refusal, Done, Write, Transacts, DamagesWrite, WriteDoes, IsWriteRefusal}
use Rattle.zeb_engine.specs.declared.writes.Write.TheVariants as write
use Rattle.zeb_engine.proofs.CommandsDone.{nothing_commits}
use Rattle.zeb_engine.proofs.CommitCrashes.{commit_survives, survives_inside}
use Rattle.zeb_engine.proofs.ListedDatabases.{fault_or_damage}
use Rattle.zeb_engine.proofs.TransactedRows.{committed, uncommitted, undone}
use Rattle.zeb_engine.proofs.writes.transact.Goals as goal

-- ---- what is done to the rows

pub returns-in_err-apply-clause-transacts : goal.returns-in_err-apply-clause-transacts
returns-in_err-apply-clause-transacts g c =
    let begun = c.transaction-tx.ensures.begun in
    let inside = c.transaction-tx.result.conn.now in
    let fault = c.in_err-apply.field-0.0 in
    let end = c.drop-tx.new.self.0 in
    let same : end ≡ c.connection-1.given.0 = search rules in
    let told : c.from_residual.result ≡ Err (register_refusal fault) = search rules in
    let Does = WriteDoes g.L.Layout.format c.args.write.now in
    subst₂ (λ h r. Transacts Does (state g.S.Store c.args.connection.now) (state g.S.Store h) r) same (sym told)
    (undone Does g.S.Store c.args.connection.now inside (state g.S.Store c.apply.new.tx.conn.now) begun c.apply.ensures.call.does.crash end (register_refusal fault) c.drop-tx.ensures.survives
    (λ clean store new. fault_or_damage (DamagesWrite c.args.write.now (state g.S.Store inside).now.trees) fault (c.in_err-apply.ensures.works clean (rw begun refl) store)))

pub returns-in_err-commit-clause-transacts : goal.returns-in_err-commit-clause-transacts
returns-in_err-commit-clause-transacts g c =
    let begun = c.transaction-tx.ensures.begun in
    let end = c.commit.new.self.0 in
    let same : end ≡ c.connection-2-1.given.0 = search rules in
    let told : c.from_residual-in_err-commit.result ≡ Err Store = search rules in
    let Does = WriteDoes g.L.Layout.format c.args.write.now in
    subst₂ (λ h r. Transacts Does (state g.S.Store c.args.connection.now) (state g.S.Store h) r) same (sym told)
    (uncommitted Does g.S.Store c.args.connection.now c.transaction-tx.result.conn.now (state g.S.Store c.apply.new.tx.conn.now) begun c.apply.ensures.call.does.crash end Done c.commit.ensures.survives
    (λ clean store. (refl, c.in_ok-apply.ensures.works clean (rw begun refl) store)) Store (λ new. inl (inl refl)))

pub returns-clause-transacts : goal.returns-clause-transacts
returns-clause-transacts g c =
    let begun = c.transaction-tx.ensures.begun in
    let end = c.commit.new.self.0 in
    let same : end ≡ c.connection-2-1.given.0 = search rules in
    let Does = WriteDoes g.L.Layout.format c.args.write.now in
    subst (λ h. Transacts Does (state g.S.Store c.args.connection.now) (state g.S.Store h) (Ok Done)) same
    (committed Does g.S.Store c.args.connection.now c.transaction-tx.result.conn.now (state g.S.Store c.apply.new.tx.conn.now) begun c.apply.ensures.call.does.crash end Done c.commit.ensures.survives
    (λ clean store. (refl, c.in_ok-apply.ensures.works clean (rw begun refl) store)) (λ clean. (c.in_ok-commit.ensures.ok clean).1))

-- ---- nothing is committed of a connection that is shut

pub returns-in_err-apply-clause-opened : goal.returns-in_err-apply-clause-opened
returns-in_err-apply-clause-opened g c =
    let begun = c.transaction-tx.ensures.begun in
    let old = c.args.connection.now in
    let inside = c.transaction-tx.result.conn.now in
    let end = c.drop-tx.new.self.0 in
    let same : end ≡ c.connection-1.given.0 = search rules in
    subst (λ (h : Held _). Survives (state g.S.Store old) (state g.S.Store h) (λ _. IsTrue (state g.S.Store old).is_open)) same
    (nothing_commits (state g.S.Store old) (state g.S.Store end) _ (survives_inside g.S.Store old inside (state g.S.Store end) (λ _. ⊥) begun
    (quiet_then (state g.S.Store inside) (state g.S.Store c.apply.new.tx.conn.now) (state g.S.Store end) c.apply.ensures.call.does.crash c.drop-tx.ensures.survives)))

pub returns-in_err-commit-clause-opened : goal.returns-in_err-commit-clause-opened
returns-in_err-commit-clause-opened g c =
    let begun = c.transaction-tx.ensures.begun in
    let old = c.args.connection.now in
    let end = c.commit.new.self.0 in
    let same : end ≡ c.connection-2-1.given.0 = search rules in
    subst (λ (h : Held _). Survives (state g.S.Store old) (state g.S.Store h) (λ _. IsTrue (state g.S.Store old).is_open)) same
    (commit_survives g.S.Store old c.transaction-tx.result.conn.now (state g.S.Store c.apply.new.tx.conn.now) (state g.S.Store end) _ begun c.apply.ensures.call.does.crash c.commit.ensures.survives
    (λ clean db is. subst (λ (h : Held _). IsTrue (state g.S.Store h).is_open) begun (c.in_ok-apply.ensures.call.does.ok (omega (arith, clean, c.commit.ensures.survives.clean)) (rw begun refl)).was_open))

pub returns-clause-opened : goal.returns-clause-opened
returns-clause-opened g c =
    let begun = c.transaction-tx.ensures.begun in
    let old = c.args.connection.now in
    let end = c.commit.new.self.0 in
    let same : end ≡ c.connection-2-1.given.0 = search rules in
    subst (λ (h : Held _). Survives (state g.S.Store old) (state g.S.Store h) (λ _. IsTrue (state g.S.Store old).is_open)) same
    (commit_survives g.S.Store old c.transaction-tx.result.conn.now (state g.S.Store c.apply.new.tx.conn.now) (state g.S.Store end) _ begun c.apply.ensures.call.does.crash c.commit.ensures.survives
    (λ clean db is. subst (λ (h : Held _). IsTrue (state g.S.Store h).is_open) begun (c.in_ok-apply.ensures.call.does.ok (omega (arith, clean, c.commit.ensures.survives.clean)) (rw begun refl)).was_open))

-- ---- which refusals it gives

store_few : (w : Write) → IsWriteRefusal w Store
store_few (write.Init profile pattern) = inl refl
store_few _ = tt

pub returns-in_err-apply-clause-few : goal.returns-in_err-apply-clause-few
returns-in_err-apply-clause-few g c =
    let told : c.from_residual.result ≡ Err (register_refusal c.in_err-apply.field-0.0) = search rules in
    rw told c.in_err-apply.ensures.few

pub returns-in_err-commit-clause-few : goal.returns-in_err-commit-clause-few
returns-in_err-commit-clause-few g c =
    let told : c.from_residual-in_err-commit.result ≡ Err Store = search rules in
    rw told (store_few c.args.write.now)
