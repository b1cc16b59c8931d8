use Rattle.zeb_engine.proofs.Cited.{rules, ◌≡◌, ◌∙◌, map, Ok, Err, inl, refl, sym, subst, subst₂, state, Store, Reply, NoneFailed, last_of, AppliesChange, Transacts, asked}
use Rattle.zeb_engine.proofs.Readers.{passed_on, read_through}
use Rattle.zeb_engine.proofs.TransactedRows.{committed, uncommitted, undone}
use Rattle.zeb_engine.proofs.changes.transact.Goals as goal

pub returns-in_err-reply-clause-transacts : goal.returns-in_err-reply-clause-transacts
returns-in_err-reply-clause-transacts g c =
    let change = c.args.change.now in
    let begun = c.transaction-tx.ensures.begun in
    let refusal = c.in_err-reply.field-0.0 in
    let end = c.drop-tx.new.self.0 in
    let same : end ≡ c.connection-1.given.0 = search rules in
    let told : c.from_residual.result ≡ Err refusal = search rules in
    let Does = AppliesChange (NoneFailed g.R.Source.has_failed c.apply.new.readers) (asked change.setting g.L.Layout.format g.L.Layout.row_work change.name.now (map g.R.Source.remaining c.args.readers.now)) (last_of change.found)
    c.args.work.now c.apply.new.work in
    subst₂ (λ h r. Transacts Does (state g.S.Store c.args.connection.now) (state g.S.Store h) r) same (sym told)
    (undone Does g.S.Store c.args.connection.now c.transaction-tx.result.conn.now (state g.S.Store c.apply.new.tx.conn.now) begun c.apply.ensures.inside.does.crash end refusal c.drop-tx.ensures.survives
    (λ clean store new. c.in_err-reply.ensures.applies clean (rw begun refl) store))

pub returns-in_err-commit-clause-transacts : goal.returns-in_err-commit-clause-transacts
returns-in_err-commit-clause-transacts g c =
    let change = c.args.change.now in
    let begun = c.transaction-tx.ensures.begun in
    let end = c.commit.new.self.0 in
    let same : end ≡ c.connection-2-1.given.0 = search rules in
    let told : c.from_residual-in_err-commit.result ≡ Err Store = search rules in
    let Does = AppliesChange (NoneFailed g.R.Source.has_failed c.apply.new.readers) (asked change.setting g.L.Layout.format g.L.Layout.row_work change.name.now (map g.R.Source.remaining c.args.readers.now)) (last_of change.found)
    c.args.work.now c.apply.new.work in
    subst₂ (λ h r. Transacts Does (state g.S.Store c.args.connection.now) (state g.S.Store h) r) same (sym told)
    (uncommitted Does g.S.Store c.args.connection.now c.transaction-tx.result.conn.now (state g.S.Store c.apply.new.tx.conn.now) begun c.apply.ensures.inside.does.crash end c.in_ok-reply.reply c.commit.ensures.survives
    (λ clean store. c.in_ok-reply.ensures.applies clean (rw begun refl) store) Store (λ new. inl (inl refl)))

pub returns-clause-transacts : goal.returns-clause-transacts
returns-clause-transacts g c =
    let change = c.args.change.now in
    let begun = c.transaction-tx.ensures.begun in
    let end = c.commit.new.self.0 in
    let same : end ≡ c.connection-2-1.given.0 = search rules in
    let Does = AppliesChange (NoneFailed g.R.Source.has_failed c.apply.new.readers) (asked change.setting g.L.Layout.format g.L.Layout.row_work change.name.now (map g.R.Source.remaining c.args.readers.now)) (last_of change.found)
    c.args.work.now c.apply.new.work in
    subst (λ h. Transacts Does (state g.S.Store c.args.connection.now) (state g.S.Store h) (Ok c.in_ok-reply.reply)) same
    (committed Does g.S.Store c.args.connection.now c.transaction-tx.result.conn.now (state g.S.Store c.apply.new.tx.conn.now) begun c.apply.ensures.inside.does.crash end c.in_ok-reply.reply c.commit.ensures.survives
    (λ clean store. c.in_ok-reply.ensures.applies clean (rw begun refl) store) (λ clean. (c.in_ok-commit.ensures.ok clean).1))

-- ---- readers that fail

pub returns-in_err-reply-clause-faults : goal.returns-in_err-reply-clause-faults
returns-in_err-reply-clause-faults g c =
    let refusal = c.in_err-reply.field-0.0 in
    let told : c.from_residual.result ≡ Err refusal = search rules in
    passed_on g.R.Source.may_fail g.R.Source.has_failed {S = Reply} c.args.readers.now c.apply.new.readers refusal c.from_residual.result told c.in_err-reply.ensures.faults

pub returns-in_err-commit-clause-faults : goal.returns-in_err-commit-clause-faults
returns-in_err-commit-clause-faults g c =
    let told : c.from_residual-in_err-commit.result ≡ Err Store = search rules in
    read_through g.R.Source.may_fail g.R.Source.has_failed {S = Reply} c.args.readers.now c.apply.new.readers c.in_ok-reply.reply c.from_residual-in_err-commit.result (λ file is. let both = sym told ∙ is in cc) c.in_ok-reply.ensures.faults
