use Rattle.zeb_change.proofs.Cited.{rules, arith, ◌≡◌, ◌≢◌, ◌∙◌, ◌∷◌, ◌+◌, ◌≤◌, ◌<◌, ℕ, false, drop, length, map, get_or, get_or-set_other, get_or-set_same, slice_set, length-set, Ok, Err, refl, sym, ap, subst, subst₂, state, HasCleanDisk, HasFailedAt, NoneFailed, ReadFault, as_refusal, fold_refusal, OfReaders, TakesFiles, TakesReader, TakesReaders, StayAble, StaysAble, at}
use Rattle.zeb_change.proofs.FoldAll.{all_same, all_zip_set, drop_all, failed_here, failed_now, fine_at, fine_more, none_at}
use Rattle.zeb_change.proofs.FoldParts.{advances_then, files_end, files_further, files_refused, next_remains, of_refused, rest_stores, sound, store_of, stores}
use Rattle.zeb_change.proofs.TransactionLemmas.{continues_then}
use Rattle.zeb_change.proofs.files.fold_readers.Given as given
use Rattle.zeb_change.proofs.files.fold_readers.Goals.{After-fold_file}
use Rattle.zeb_change.proofs.files.fold_readers.Goals as goal

pub loop-index-init : goal.loop-index-init
loop-index-init g c = record {
  same = refl;
  able = all_same _ (λ reader sound. (sound, refl)) c.args.readers.now;
  crash = search rules;
  stays = search rules;
  steps = record { database = refl; most = λ most below limit. below; work = λ none. refl };
  unread = λ j d behind. refl;
  fine = λ j none d. absurd (omega (arith, none));
  store = λ clean mode store. store;
  takes = λ clean mode store failed end result goes. goes;
}

-- readers that can't fail, once the file of one of them is read
able_on : (g : given.Over) (c : After-fold_file g) → StayAble g.R.Source.may_fail g.R.Source.has_failed c.args.readers.now (slice_set c.loop-index.readers c.loop-index.index c.fold_file.new.reader)
able_on g c =
    all_zip_set (StaysAble g.R.Source.may_fail g.R.Source.has_failed) c.args.readers.now c.loop-index.readers c.loop-index.index c.index-readers-index.result c.fold_file.new.reader c.loop-index.invariant.able
    (subst (λ r. StaysAble g.R.Source.may_fail g.R.Source.has_failed r c.fold_file.new.reader) (c.loop-index.invariant.unread c.loop-index.index c.index-readers-index.result (omega arith)) c.fold_file.ensures.faults.able)

-- what the readers from here on would tell at first
here : (g : given.Over) (c : After-fold_file g)
    → map g.R.Source.remaining (drop c.loop-index.index c.args.readers.now)
    ≡ g.R.Source.remaining (get_or c.loop-index.readers c.loop-index.index c.index-readers-index.result) ∷ map g.R.Source.remaining (drop (c.loop-index.index + 1) c.args.readers.now)
here g c =
    next_remains g.R.Source.remaining c.args.readers.now c.loop-index.index c.index-readers-index.result (omega (arith, c.loop-index-test.true, c.loop-index.auto.readers))
    ∙ ap (λ r. g.R.Source.remaining r ∷ map g.R.Source.remaining (drop (c.loop-index.index + 1) c.args.readers.now)) (sym (c.loop-index.invariant.unread c.loop-index.index c.index-readers-index.result (omega arith)))

pub loop-index-preserved : goal.loop-index-preserved
loop-index-preserved g c =
    let at_here = (goal.at.loop-index-preserved g c).After-fold_file in
    let index = c.loop-index.index in
    let readers = c.loop-index.readers in
    let now = at (state g.S.Store c.loop-index.tx.conn.now) c.loop-index.pending c.loop-index.fold in
    let next = at (state g.S.Store c.fold_file.new.tx.conn.now) c.fold_file.new.pending c.fold_file.new.fold in
    let fine : g.R.Source.has_failed c.fold_file.new.reader ≡ false = sound (g.R.Source.has_failed c.fold_file.new.reader) (λ failed. let no = c.in_ok-fold_file.ensures.faults.failed failed in absurd (cc)) in
    record {
      same = search rules;
      able = able_on g at_here;
      crash = search rules;
      stays = λ clean mode.
          let was : HasCleanDisk (state g.S.Store c.loop-index.tx.conn.now) = omega (arith, c.fold_file.ensures.inside.does.crash.clean) in
          let so_far = c.loop-index.invariant.stays was mode in
          continues_then _ _ _ so_far (c.in_ok-fold_file.ensures.inside.does.stays clean so_far.mode);
      steps = advances_then _ _ _ _ _ _ c.loop-index.invariant.steps c.fold_file.ensures.steps;
      unread = λ j d behind.
          let other : j ≢ index = omega (arith, behind) in
          get_or-set_other readers index j _ d other ∙ c.loop-index.invariant.unread j d (omega (arith, behind));
      fine = fine_more g.R.Source.has_failed readers index c.loop-index.invariant.fine c.fold_file.new.reader (omega (arith, c.loop-index-test.true, c.loop-index.auto.readers)) fine;
      store = λ clean mode store.
          let was : HasCleanDisk (state g.S.Store c.loop-index.tx.conn.now) = omega (arith, c.fold_file.ensures.inside.does.crash.clean) in
          let mid = c.loop-index.invariant.store was mode store in
          let took = c.in_ok-fold_file.ensures.takes clean (c.loop-index.invariant.stays was mode).mode mid in
          store_of (state g.S.Store c.fold_file.new.tx.conn.now) (rest_stores c.args.setting.now g.L.Layout.format g.L.Layout.row_work c.loop-index.fold.progress.database.0 (index + 1) took.0.slices took.0.fault 1 now next
          (stores (state g.S.Store c.loop-index.tx.conn.now) mid) took.2);
      takes = λ clean mode store failed end result goes.
          let was : HasCleanDisk (state g.S.Store c.loop-index.tx.conn.now) = omega (arith, c.fold_file.ensures.inside.does.crash.clean) in
          let took = subst₂ (λ i f. TakesReader c.args.setting.now g.L.Layout.format g.L.Layout.row_work i f (g.R.Source.remaining (get_or readers index c.index-readers-index.result)) (index + 1) 1 now next (Ok tt))
          (ap (λ d. d.0) c.loop-index.invariant.steps.database) fine
          (c.in_ok-fold_file.ensures.takes clean (c.loop-index.invariant.stays was mode).mode (c.loop-index.invariant.store was mode store)) in
          c.loop-index.invariant.takes was mode store failed end result
          (subst (λ remains. TakesReaders c.args.setting.now g.L.Layout.format g.L.Layout.row_work c.args.fold.now.progress.database.0 failed remains (index + 1) now end result) (sym (here g at_here))
          (files_further failed c.args.setting.now g.L.Layout.format g.L.Layout.row_work c.args.fold.now.progress.database.0 (index + 1) (g.R.Source.remaining (get_or readers index c.index-readers-index.result))
          (map g.R.Source.remaining (drop (index + 1) c.args.readers.now)) now next took.0 took.1 took.2 end result goes));
    }

pub returns-clause-takes : goal.returns-clause-takes
returns-clause-takes g c clean mode store =
    let now = at (state g.S.Store c.loop-index.tx.conn.now) c.loop-index.pending c.loop-index.fold in
    let db = c.args.fold.now.progress.database.0 in
    let none : length c.args.readers.now ≤ c.loop-index.index = omega (arith, c.loop-index-test.false, c.loop-index.auto.readers) in
    let all = c.loop-index.invariant.takes clean mode store false now (Ok tt)
    (subst (λ rs. TakesReaders c.args.setting.now g.L.Layout.format g.L.Layout.row_work db false (map g.R.Source.remaining rs) (c.loop-index.index + 1) now now (Ok tt)) (sym (drop_all c.args.readers.now c.loop-index.index none))
    (files_end false c.args.setting.now g.L.Layout.format g.L.Layout.row_work db (c.loop-index.index + 1) now)) in
    (all.0, λ _. all.1 refl, all.2)

pub returns-in_err-fold_file-clause-takes : goal.returns-in_err-fold_file-clause-takes
returns-in_err-fold_file-clause-takes g c clean mode store =
    let refusal = fold_refusal c.in_err-fold_file.field-0.0 in
    let result : c.from_residual.result ≡ Err c.in_err-fold_file.field-0.0 = search rules in
    let index = c.loop-index.index in
    let readers = c.loop-index.readers in
    let db = c.args.fold.now.progress.database.0 in
    let setting = c.args.setting.now in
    let failed = g.R.Source.has_failed c.fold_file.new.reader in
    let within : index < length (slice_set readers index c.fold_file.new.reader) = subst (λ n. index < n) (sym (length-set readers index c.fold_file.new.reader)) (omega (arith, c.loop-index-test.true, c.loop-index.auto.readers)) in
    let set : get_or (slice_set readers index c.fold_file.new.reader) index c.fold_file.new.reader ≡ c.fold_file.new.reader = get_or-set_same readers index _ _ (omega (arith, c.loop-index-test.true, c.loop-index.auto.readers)) in
    let first = at (state g.S.Store c.args.tx.now.conn.now) c.args.pending.now c.args.fold.now in
    let now = at (state g.S.Store c.loop-index.tx.conn.now) c.loop-index.pending c.loop-index.fold in
    let next = at (state g.S.Store c.fold_file.new.tx.conn.now) c.fold_file.new.pending c.fold_file.new.fold in
    let was : HasCleanDisk (state g.S.Store c.loop-index.tx.conn.now) = omega (arith, c.fold_file.ensures.inside.does.crash.clean) in
    let took = subst (λ i. TakesReader setting g.L.Layout.format g.L.Layout.row_work i failed (g.R.Source.remaining (get_or readers index c.index-readers-index.result)) (index + 1) 1 now next (Err refusal))
    (ap (λ d. d.0) c.loop-index.invariant.steps.database)
    (c.in_err-fold_file.ensures.takes clean (c.loop-index.invariant.stays was mode).mode (c.loop-index.invariant.store was mode store)) in
    let all = c.loop-index.invariant.takes was mode store failed next (Err refusal)
    (subst (λ remains. TakesReaders setting g.L.Layout.format g.L.Layout.row_work db failed remains (index + 1) now next (Err refusal)) (sym (here g (goal.at.returns-in_err-fold_file-clause-takes g c).After-fold_file))
    (files_refused failed setting g.L.Layout.format g.L.Layout.row_work db (index + 1) (g.R.Source.remaining (get_or readers index c.index-readers-index.result))
    (map g.R.Source.remaining (drop (index + 1) c.args.readers.now)) now next refusal took)) in
    subst (OfReaders (NoneFailed g.R.Source.has_failed (slice_set readers index c.fold_file.new.reader)) (map g.R.Source.remaining c.args.readers.now)
    (λ splits. TakesFiles setting g.L.Layout.format g.L.Layout.row_work db 1 splits first next)) (sym (ap (as_refusal fold_refusal) result))
    (of_refused failed (NoneFailed g.R.Source.has_failed (slice_set readers index c.fold_file.new.reader)) (map g.R.Source.remaining c.args.readers.now)
    (λ splits. TakesFiles setting g.L.Layout.format g.L.Layout.row_work db 1 splits first next) refusal
    (λ fine. ap g.R.Source.has_failed (sym set) ∙ fine_at g.R.Source.has_failed (slice_set readers index c.fold_file.new.reader) index c.fold_file.new.reader fine within) all)

pub returns-in_err-fold_file-clause-steps : goal.returns-in_err-fold_file-clause-steps
returns-in_err-fold_file-clause-steps g c = advances_then _ _ _ _ _ _ c.loop-index.invariant.steps c.fold_file.ensures.steps

-- ---- readers that fail

pub returns-clause-faults : goal.returns-clause-faults
returns-clause-faults g c = record {
  failed = λ none file at.
      absurd (none_at g.R.Source.has_failed c.loop-index.readers c.loop-index.index c.loop-index.invariant.fine (omega (arith, c.loop-index-test.false, c.loop-index.auto.readers)) file at);
  fault = λ file told. absurd (cc);
  able = c.loop-index.invariant.able;
}

pub returns-in_err-fold_file-clause-faults : goal.returns-in_err-fold_file-clause-faults
returns-in_err-fold_file-clause-faults g c =
    let failed = g.R.Source.has_failed in
    let readers = c.loop-index.readers in
    let index = c.loop-index.index in
    let within : index < length readers = omega (arith, c.loop-index-test.true, c.loop-index.auto.readers) in
    let given : c.from_residual.result ≡ Err c.in_err-fold_file.field-0.0 = search rules in
    let faults = c.in_err-fold_file.ensures.faults in
    record {
      failed = λ none file at.
          let here = failed_here failed readers index c.loop-index.invariant.fine c.fold_file.new.reader within c.args.readers.now c.loop-index.auto.readers none c.loop-index.invariant.unread file at in
          ap (as_refusal fold_refusal) given ∙ faults.failed here.1 ∙ ap (λ (f : ℕ). Err (ReadFault f)) (sym here.0);
      fault = λ file told.
          let fault = faults.fault file (sym (ap (as_refusal fold_refusal) given) ∙ told) in
          subst (HasFailedAt failed (slice_set readers index c.fold_file.new.reader)) (sym fault.0) (failed_now failed readers index c.loop-index.invariant.fine c.fold_file.new.reader within fault.1);
      able = able_on g (goal.at.returns-in_err-fold_file-clause-faults g c).After-fold_file;
    }
