use Rattle.zeb_change.proofs.Cited.{rules, arith, ◌≡◌, ◌∙◌, IsTrue, map, Ok, Err, inl, inr, refl, sym, ap, subst, state, HasCleanDisk, IsStore, fold_refusal, register_refusal, NoneFailed, ChangesFiles, OfReaders, TakesFiles, at}
use Rattle.zeb_change.proofs.FoldParts.{advances_worked, files_stores, of_more, settled_at, store_of, stores, write_failed}
use Rattle.zeb_change.proofs.KeptStill.{beside_id}
use Rattle.zeb_change.proofs.ReadFaults.{no_register_reads}
use Rattle.zeb_change.proofs.SettledChanges.{at_id, worked}
use Rattle.zeb_change.proofs.TransactionLemmas.{continues_then}
use Rattle.zeb_change.proofs.files.take_files.Given as given
use Rattle.zeb_change.proofs.files.take_files.Goals.{After-write_pending}
use Rattle.zeb_change.proofs.files.take_files.Goals as goal

pub returns-clause-inside : goal.returns-clause-inside
returns-clause-inside g c = record {
  same = search rules;
  does = record {
    stays = λ clean mode.
        let was : HasCleanDisk (state g.S.Store c.fold_readers.new.tx.conn.now) = omega (arith, c.write_pending.ensures.call.does.crash.clean) in
        let stays = c.in_ok-fold_readers.ensures.inside.does.stays was mode in
        continues_then _ _ _ stays (c.in_ok-write_pending.ensures.call.does.stays clean stays.mode);
    crash = search rules;
  };
}

pub returns-in_err-write_pending-clause-steps : goal.returns-in_err-write_pending-clause-steps
returns-in_err-write_pending-clause-steps g c = advances_worked _ _ _ _ _ _ c.fold_readers.ensures.steps c.write_pending.ensures.no_work

pub returns-clause-steps : goal.returns-clause-steps
returns-clause-steps g c = advances_worked _ _ _ _ _ _ c.fold_readers.ensures.steps c.write_pending.ensures.no_work

-- ---- readers that fail

pub returns-in_err-fold_readers-clause-faults : goal.returns-in_err-fold_readers-clause-faults
returns-in_err-fold_readers-clause-faults g c =
    let told : c.from_residual.result ≡ Err (fold_refusal c.in_err-fold_readers.field-0.0) = search rules in
    let faults = c.in_err-fold_readers.ensures.faults in
    record { failed = λ none file at. told ∙ faults.failed none file at; fault = λ file is. faults.fault file (sym told ∙ is); able = faults.able }

pub returns-in_err-write_pending-clause-faults : goal.returns-in_err-write_pending-clause-faults
returns-in_err-write_pending-clause-faults g c =
    let faults = c.in_ok-fold_readers.ensures.faults in
    let told : c.from_residual-in_err-write_pending.result ≡ Err (register_refusal c.in_err-write_pending.field-0.0) = search rules in
    record {
      failed = λ none file at. let no = faults.failed none file at in absurd (cc);
      fault = λ file is. absurd (no_register_reads c.in_err-write_pending.field-0.0 file (sym told ∙ is));
      able = faults.able;
    }

pub returns-clause-faults : goal.returns-clause-faults
returns-clause-faults g c =
    let faults = c.in_ok-fold_readers.ensures.faults in
    record { failed = λ none file at. let no = faults.failed none file at in absurd (cc); fault = λ file is. absurd (cc); able = faults.able }

-- ---- what is done, in rows

pub returns-in_err-fold_readers-clause-changes : goal.returns-in_err-fold_readers-clause-changes
returns-in_err-fold_readers-clause-changes g c clean mode store =
    let refusal = fold_refusal c.in_err-fold_readers.field-0.0 in
    let told : c.from_residual.result ≡ Err refusal = search rules in
    let first = at (state g.S.Store c.args.tx.now.conn.now) c.args.pending.now c.args.fold.now in
    let new = at (state g.S.Store c.fold_readers.new.tx.conn.now) c.fold_readers.new.pending c.fold_readers.new.fold in
    let db = c.args.fold.now.progress.database.0 in
    subst (OfReaders (NoneFailed g.R.Source.has_failed c.fold_readers.new.readers) (map g.R.Source.remaining c.args.readers.now)
    (λ splits. ChangesFiles c.args.setting.now g.L.Layout.format g.L.Layout.row_work db splits first new)) (sym told)
    (of_more (NoneFailed g.R.Source.has_failed c.fold_readers.new.readers) (map g.R.Source.remaining c.args.readers.now)
    (λ splits. TakesFiles c.args.setting.now g.L.Layout.format g.L.Layout.row_work db 1 splits first new) (λ splits. ChangesFiles c.args.setting.now g.L.Layout.format g.L.Layout.row_work db splits first new)
    (Err refusal) (λ splits takes. (inr (inl takes), tt)) (c.in_err-fold_readers.ensures.takes clean mode store))

-- what is noted, where all files were taken in
taken : (g : given.Over) (c : After-write_pending g) → HasCleanDisk (state g.S.Store c.write_pending.new.tx.conn.now) → IsTrue (state g.S.Store c.args.tx.now.conn.now).in_transaction
    → IsStore (state g.S.Store c.args.tx.now.conn.now)
    → OfReaders (NoneFailed g.R.Source.has_failed c.fold_readers.new.readers) (map g.R.Source.remaining c.args.readers.now)
    (λ splits. TakesFiles c.args.setting.now g.L.Layout.format g.L.Layout.row_work c.args.fold.now.progress.database.0 1 splits
    (at (state g.S.Store c.args.tx.now.conn.now) c.args.pending.now c.args.fold.now) (at (state g.S.Store c.fold_readers.new.tx.conn.now) c.fold_readers.new.pending c.fold_readers.new.fold)) (Ok tt)
    × IsTrue (state g.S.Store c.fold_readers.new.tx.conn.now).in_transaction × IsStore (state g.S.Store c.fold_readers.new.tx.conn.now)
taken g c clean mode store =
    let was : HasCleanDisk (state g.S.Store c.fold_readers.new.tx.conn.now) = omega (arith, c.write_pending.ensures.call.does.crash.clean) in
    let takes = c.in_ok-fold_readers.ensures.takes was mode store in (
      takes,
      (c.in_ok-fold_readers.ensures.inside.does.stays was mode).mode,
      store_of (state g.S.Store c.fold_readers.new.tx.conn.now) (files_stores c.args.setting.now g.L.Layout.format g.L.Layout.row_work c.args.fold.now.progress.database.0 takes.0 1
          (at (state g.S.Store c.args.tx.now.conn.now) c.args.pending.now c.args.fold.now) (at (state g.S.Store c.fold_readers.new.tx.conn.now) c.fold_readers.new.pending c.fold_readers.new.fold)
          (stores (state g.S.Store c.args.tx.now.conn.now) store) takes.2),
    )

pub returns-in_err-write_pending-clause-changes : goal.returns-in_err-write_pending-clause-changes
returns-in_err-write_pending-clause-changes g c clean mode store =
    let f = c.in_err-write_pending.field-0.0 in
    let told : c.from_residual-in_err-write_pending.result ≡ Err (register_refusal f) = search rules in
    let db = c.args.fold.now.progress.database.0 in
    let first = at (state g.S.Store c.args.tx.now.conn.now) c.args.pending.now c.args.fold.now in
    let mid = at (state g.S.Store c.fold_readers.new.tx.conn.now) c.fold_readers.new.pending c.fold_readers.new.fold in
    let new = at (state g.S.Store c.write_pending.new.tx.conn.now) c.write_pending.new.pending (worked c.fold_readers.new.fold c.write_pending.new.work) in
    let takes = taken g (goal.at.returns-in_err-write_pending-clause-changes g c).After-write_pending clean mode store in
    let does = at_id (ap (λ d. d.0) c.fold_readers.ensures.steps.database) c.in_err-write_pending.ensures.call.does in (
      takes.0.0,
      λ _. takes.0.1 (inr refl),
      subst (λ r. ChangesFiles c.args.setting.now g.L.Layout.format g.L.Layout.row_work db takes.0.0 first new r) (sym told) (
        write_failed g.L.Layout.format g.L.Layout.row_work db (TakesFiles c.args.setting.now g.L.Layout.format g.L.Layout.row_work db 1 takes.0.0) first mid new takes.0.2
            f (λ is. does.honest clean takes.1 takes.2 (ap Err is)) (Err (register_refusal f)) refl,
        tt,
      ),
    )

pub returns-clause-changes : goal.returns-clause-changes
returns-clause-changes g c clean mode store =
    let mid = state g.S.Store c.fold_readers.new.tx.conn.now in
    let new = state g.S.Store c.write_pending.new.tx.conn.now in
    let takes = taken g (goal.at.returns-clause-changes g c).After-write_pending clean mode store in
    let same : c.fold_readers.new.fold.progress.database.0 ≡ c.args.fold.now.progress.database.0 = ap (λ d. d.0) c.fold_readers.ensures.steps.database in
    let does = at_id same c.in_ok-write_pending.ensures.call.does in (
      takes.0.0,
      λ _. takes.0.1 (inr refl),
      (
        (
          at mid c.fold_readers.new.pending c.fold_readers.new.fold,
          takes.0.2,
          settled_at g.L.Layout.format g.L.Layout.row_work c.args.fold.now.progress.database.0 mid new c.fold_readers.new.pending c.write_pending.new.pending c.fold_readers.new.fold c.write_pending.new.work
              (does.written clean takes.1 takes.2)
              (beside_id c.fold_readers.new.fold.progress.database.0 c.args.fold.now.progress.database.0 mid.now.trees new.now.trees same (c.in_ok-write_pending.ensures.keeps clean takes.1 takes.2).beside)
              (c.in_ok-write_pending.ensures.keeps clean takes.1 takes.2).malformed c.counts_are_numbers.ensures,
        ),
        c.in_ok-write_pending.ensures.all,
      ),
    )
