use Rattle.zeb_engine.proofs.Cited.{rules, arith, ◌≡◌, ◌∙◌, ℕ, List, map, IsTrue, Result, Ok, Err, inl, inr, refl, sym, ap, subst, subst₂, state, HasCleanDisk, Split, RegFault, IsStore, Refusal, register_refusal, fault_fails, goes_on, continues_then, kept_then, quiet_then, NoneFailed, FoldsFiles, OfReaders, name_bytes, HasNumbersTo, last_of, AppliesChange, Asked, FoldsInto, IsMisnumbered, PutsRow, asked, Work, Database, no_register_reads}
use Rattle.zeb_register.specs.declared.RegFault.TheVariants as register
use Rattle.zeb_change.proofs.ChangeLaws.{passes}
use Rattle.zeb_engine.proofs.ChangeNumbers.{row_put}
use Rattle.zeb_engine.proofs.Readers.{passed_on, read_through, untouched}
use Rattle.zeb_engine.proofs.changes.apply.Given as given
use Rattle.zeb_engine.proofs.changes.apply.Goals.{After-fold_files}
use Rattle.zeb_engine.proofs.changes.apply.Goals as goal

-- ---- what it does to the connection

pub returns-in_err-database-clause-inside : goal.returns-in_err-database-clause-inside
returns-in_err-database-clause-inside g c = record {
  same = search rules;
  does =
      let told : c.from_residual.result ≡ Err (register_refusal c.in_err-database.field-0.0) = search rules in
      rw told (record { stays = c.in_err-database.ensures.call.does.err; crash = c.begin_change.ensures.call.does.crash });
}

pub returns-in_err-fold_files-clause-inside : goal.returns-in_err-fold_files-clause-inside
returns-in_err-fold_files-clause-inside g c = record {
  same = search rules;
  does =
      let told : c.from_residual-in_err-fold_files.result ≡ Err c.in_err-fold_files.field-0.0 = search rules in
      rw told (record {
        stays = λ clean mode.
            let on = c.in_ok-database.ensures.call.does.ok (omega (arith, clean, c.fold_files.ensures.inside.does.crash.clean)) mode in
            kept_then _ _ _ (goes_on _ _ on) (c.in_err-fold_files.ensures.inside.does.stays clean on.mode);
        crash = quiet_then _ _ _ c.begin_change.ensures.call.does.crash c.fold_files.ensures.inside.does.crash;
      });
}

pub returns-in_err-database_put-clause-inside : goal.returns-in_err-database_put-clause-inside
returns-in_err-database_put-clause-inside g c = record {
  same = search rules;
  does =
      let told : c.from_residual-in_err-database_put.result ≡ Err (register_refusal c.in_err-database_put.field-0.0) = search rules in
      rw told (record {
        stays = λ clean mode.
            let second : HasCleanDisk (state g.S.Store c.fold_files.new.tx.conn.now) = omega (arith, clean, c.database_put.ensures.call.does.crash.clean) in
            let on = c.in_ok-database.ensures.call.does.ok (omega (arith, second, c.fold_files.ensures.inside.does.crash.clean)) mode in
            let further = c.in_ok-fold_files.ensures.inside.does.stays second on.mode in
            kept_then _ _ _ (goes_on _ _ on) (kept_then _ _ _ further (c.in_err-database_put.ensures.call.does.err clean further.mode));
        crash = quiet_then _ _ _ c.begin_change.ensures.call.does.crash (quiet_then _ _ _ c.fold_files.ensures.inside.does.crash c.database_put.ensures.call.does.crash);
      });
}

pub returns-clause-inside : goal.returns-clause-inside
returns-clause-inside g c = record {
  same = search rules;
  does = record {
    stays = λ clean mode.
        let second : HasCleanDisk (state g.S.Store c.fold_files.new.tx.conn.now) = omega (arith, clean, c.database_put.ensures.call.does.crash.clean) in
        let on = c.in_ok-database.ensures.call.does.ok (omega (arith, second, c.fold_files.ensures.inside.does.crash.clean)) mode in
        let further = c.in_ok-fold_files.ensures.inside.does.stays second on.mode in
        continues_then _ _ _ (goes_on _ _ on) (continues_then _ _ _ further (goes_on _ _ (c.in_ok-database_put.ensures.call.does.ok clean further.mode)));
    crash = quiet_then _ _ _ c.begin_change.ensures.call.does.crash (quiet_then _ _ _ c.fold_files.ensures.inside.does.crash c.database_put.ensures.call.does.crash);
  };
}

pub returns-clause-no_work : goal.returns-clause-no_work
returns-clause-no_work g c none = c.fold_files.ensures.steps.work none

-- ---- readers that fail

pub returns-in_err-database-clause-faults : goal.returns-in_err-database-clause-faults
returns-in_err-database-clause-faults g c =
    let fault = c.in_err-database.field-0.0 in
    let told : c.from_residual.result ≡ Err (register_refusal fault) = search rules in
    untouched g.R.Source.may_fail g.R.Source.has_failed c.args.readers.now (register_refusal fault) c.from_residual.result told (no_register_reads fault)

pub returns-in_err-fold_files-clause-faults : goal.returns-in_err-fold_files-clause-faults
returns-in_err-fold_files-clause-faults g c =
    let refusal = c.in_err-fold_files.field-0.0 in
    let told : c.from_residual-in_err-fold_files.result ≡ Err refusal = search rules in
    passed_on g.R.Source.may_fail g.R.Source.has_failed {S = Unit {0}} c.args.readers.now c.fold_files.new.readers refusal c.from_residual-in_err-fold_files.result told c.in_err-fold_files.ensures.faults

pub returns-in_err-database_put-clause-faults : goal.returns-in_err-database_put-clause-faults
returns-in_err-database_put-clause-faults g c =
    let fault = c.in_err-database_put.field-0.0 in
    let told : c.from_residual-in_err-database_put.result ≡ Err (register_refusal fault) = search rules in
    read_through g.R.Source.may_fail g.R.Source.has_failed {S = Unit {0}} c.args.readers.now c.fold_files.new.readers tt c.from_residual-in_err-database_put.result
    (λ file is. no_register_reads fault file (sym told ∙ is)) c.in_ok-fold_files.ensures.faults

pub returns-clause-faults : goal.returns-clause-faults
returns-clause-faults g c =
    read_through g.R.Source.may_fail g.R.Source.has_failed {S = Unit {0}} c.args.readers.now c.fold_files.new.readers tt (Ok c.changed.result) (λ file is. cc) c.in_ok-fold_files.ensures.faults

-- ---- what it does, in rows

-- it can't begin
not_begun : (Fine : Type 0) (a : Asked) (last : ℕ) (work worked : Work) (old new : Database) (fault : RegFault) → (fault ≡ register.Damaged → IsMisnumbered (name_bytes a.name) last old)
    → AppliesChange Fine a last work worked old new (Err (register_refusal fault))
not_begun Fine a last work worked old new register.Damaged wrong = inr (inl (refl, wrong refl))
not_begun Fine a last work worked old new register.Store wrong = inl (inl refl)
not_begun Fine a last work worked old new register.Memory wrong = inl (inr refl)

pub returns-in_err-database-clause-applies : goal.returns-in_err-database-clause-applies
returns-in_err-database-clause-applies g c clean inside store =
    let old = (state g.S.Store c.args.tx.now.conn.now).now in
    let fault = c.in_err-database.field-0.0 in
    let told : c.from_residual.result ≡ Err (register_refusal fault) = search rules in
    rw told (not_begun _ _ _ c.args.work.now c.args.work.now old old fault (λ is.
    subst₂ (λ n (l : ℕ). IsMisnumbered n l old) c.as_str-name.ensures c.last-last.ensures (c.in_err-database.ensures.honest clean inside store (ap Err is))))

-- the files are folded in, up to where this ends
folded : (g : given.Over) (c : After-fold_files g) → HasCleanDisk (state g.S.Store c.begin_change.new.tx.conn.now) → IsTrue (state g.S.Store c.args.tx.now.conn.now).in_transaction
    → IsStore (state g.S.Store c.args.tx.now.conn.now) → (result : Result (Unit {0}) Refusal)
    → OfReaders (NoneFailed g.R.Source.has_failed c.fold_files.new.readers) (map g.R.Source.remaining c.args.readers.now)
    (λ (splits : List Split). FoldsFiles c.args.change.now.setting g.L.Layout.format g.L.Layout.row_work c.in_ok-database.database.0 splits (state g.S.Store c.begin_change.new.tx.conn.now).now
    (state g.S.Store c.fold_files.new.tx.conn.now).now (record { progress = record { database = c.in_ok-database.database; last = c.last-last.result; work = c.args.work.now }; tally = c.new.result }) c.fold_files.new.fold) result
    → FoldsInto (NoneFailed g.R.Source.has_failed c.fold_files.new.readers) (asked c.args.change.now.setting g.L.Layout.format g.L.Layout.row_work c.args.change.now.name.now (map g.R.Source.remaining c.args.readers.now))
    (last_of c.args.change.now.found) c.args.work.now (state g.S.Store c.args.tx.now.conn.now).now result
folded g c first inside store result folds =
    let old = state g.S.Store c.args.tx.now.conn.now in
    let mid = state g.S.Store c.begin_change.new.tx.conn.now in
    let id = c.in_ok-database.database.0 in
    record {
      mid = mid.now;
      now = (state g.S.Store c.fold_files.new.tx.conn.now).now;
      first = record { progress = record { database = c.in_ok-database.database; last = c.last-last.result; work = c.args.work.now }; tally = c.new.result };
      fold = c.fold_files.new.fold;
      at_first = record { last_is = c.last-last.ensures; work_is = refl; taken = c.new.ensures.0; inserted = c.new.ensures.1; updated = c.new.ensures.2; deleted = c.new.ensures.3 };
      put = subst₂ (λ n (l : ℕ). PutsRow id n l old.now mid.now) c.as_str-name.ensures c.last-last.ensures (row_put old mid id c.as_str-name.result.now c.last-last.result (c.in_ok-database.ensures.put first inside store));
      numbers = subst (λ (l : ℕ). HasNumbersTo l old.now.trees id) c.last-last.ensures (c.in_ok-database.ensures.numbers first inside store);
      folds = folds;
    }

pub returns-in_err-fold_files-clause-applies : goal.returns-in_err-fold_files-clause-applies
returns-in_err-fold_files-clause-applies g c clean inside store =
    let refusal = c.in_err-fold_files.field-0.0 in
    let told : c.from_residual-in_err-fold_files.result ≡ Err refusal = search rules in
    let first : HasCleanDisk (state g.S.Store c.begin_change.new.tx.conn.now) = omega (arith, c.fold_files.ensures.inside.does.crash.clean) in
    rw told (inr (inr (folded g (goal.at.returns-in_err-fold_files-clause-applies g c).After-fold_files first inside store (Err refusal)
    (c.in_err-fold_files.ensures.changes clean (c.in_ok-database.ensures.call.does.ok first inside).mode (c.in_ok-database.ensures.put first inside store).layout))))

pub returns-in_err-database_put-clause-applies : goal.returns-in_err-database_put-clause-applies
returns-in_err-database_put-clause-applies g c clean inside store =
    let mid = state g.S.Store c.begin_change.new.tx.conn.now in
    let now = state g.S.Store c.fold_files.new.tx.conn.now in
    let fault = c.in_err-database_put.field-0.0 in
    let told : c.from_residual-in_err-database_put.result ≡ Err (register_refusal fault) = search rules in
    let second : HasCleanDisk now = omega (arith, c.database_put.ensures.call.does.crash.clean) in
    let first : HasCleanDisk mid = omega (arith, c.fold_files.ensures.inside.does.crash.clean) in
    let on = c.in_ok-database.ensures.call.does.ok first inside in
    let layout = (c.in_ok-database.ensures.put first inside store).layout in
    let of = c.in_ok-fold_files.ensures.changes second on.mode layout in
    let kept = passes _ _ _ _ of.0 mid now _ _ layout of.2 in
    rw told (inl (fault_fails fault (λ is. c.in_err-database_put.ensures.honest clean (c.in_ok-fold_files.ensures.inside.does.stays second on.mode).mode kept.store (ap Err is))))

pub returns-clause-applies : goal.returns-clause-applies
unfolding folded
returns-clause-applies g c clean inside store =
    let mid = state g.S.Store c.begin_change.new.tx.conn.now in
    let now = state g.S.Store c.fold_files.new.tx.conn.now in
    let new = state g.S.Store c.database_put.new.tx.conn.now in
    let last = c.fold_files.new.fold.progress.last in
    let again = c.in_ok-database_put.field-0.0 in
    let second : HasCleanDisk now = omega (arith, c.database_put.ensures.call.does.crash.clean) in
    let first : HasCleanDisk mid = omega (arith, c.fold_files.ensures.inside.does.crash.clean) in
    let on = c.in_ok-database.ensures.call.does.ok first inside in
    let layout = (c.in_ok-database.ensures.put first inside store).layout in
    let of = c.in_ok-fold_files.ensures.changes second on.mode layout in
    let put = c.in_ok-database_put.ensures.put clean (c.in_ok-fold_files.ensures.inside.does.stays second on.mode).mode (passes _ _ _ _ of.0 mid now _ _ layout of.2).store in
    record {
      folded = folded g (goal.at.returns-clause-applies g c).After-fold_files first inside store (Ok tt) of;
      id = again;
      put = subst (λ n. PutsRow again n last now.now new.now) c.as_str-name.ensures (row_put now new again c.as_str-name.result.now last put);
      told_is = c.changed.ensures;
      work_is = refl;
    }
