use Rattle.zeb_change.proofs.Cited.{rules, arith, ◌≡◌, ◌∙◌, true, false, Ok, Err, refl, sym, ap, subst, subst₂, state, HasCleanDisk, Refusal, as_refusal, fold_refusal, take_refusal, ReadsRecord, TakesReader, TakesRecord, at}
use Rattle.zeb_change.proofs.FoldParts.{advances_then, rest_ends, rest_fault, rest_further, rest_refused, store_of}
use Rattle.zeb_change.proofs.ReadFaults.{never_reads}
use Rattle.zeb_change.proofs.TransactionLemmas.{continues_then}
use Rattle.zeb_change.specs.declared.part_faults.FoldFault.TheVariants.{Take}
use Rattle.zeb_change.proofs.files.fold_file.Given as given
use Rattle.zeb_change.proofs.files.fold_file.Goals.{After-take_record}
use Rattle.zeb_change.proofs.files.fold_file.Goals as goal

pub loop-nth-init : goal.loop-nth-init
loop-nth-init g c = record {
  same = refl;
  able = λ sound. (sound, refl);
  crash = search rules;
  stays = search rules;
  steps = record { database = refl; most = λ most below limit. below; work = λ none. refl };
  counted = refl;
  store = λ clean mode store. store;
  takes = λ clean mode store failed end result goes. goes;
}

-- a record is read
record_read : (g : given.Over) (c : After-take_record g)
    → ReadsRecord (g.R.Source.has_failed c.read_record.new.reader) (g.R.Source.remaining c.loop-nth.reader) (Ok true) c.read_record.new.buffer (g.R.Source.remaining c.read_record.new.reader)
record_read g c =
    let found : c.in-Ok.found ≡ true = search rules in
    subst (λ b. ReadsRecord (g.R.Source.has_failed c.read_record.new.reader) (g.R.Source.remaining c.loop-nth.reader) (Ok b) c.read_record.new.buffer (g.R.Source.remaining c.read_record.new.reader)) found
    c.in-Ok.ensures.reads

pub loop-nth-preserved : goal.loop-nth-preserved
loop-nth-preserved g c =
    let at_here = (goal.at.loop-nth-preserved g c).After-take_record in
    let now = at (state g.S.Store c.loop-nth.tx.conn.now) c.loop-nth.pending c.loop-nth.fold in
    let next = at (state g.S.Store c.take_record.new.tx.conn.now) c.take_record.new.pending c.take_record.new.fold in
    let read = record_read g at_here in
    record {
      same = search rules;
      able = λ sound.
          let so_far = c.loop-nth.invariant.able sound in
          let read_on = c.in-Ok.ensures.able so_far.0 in
          (read_on.0, read_on.1 ∙ so_far.1);
      crash = search rules;
      stays = λ clean mode.
          let was : HasCleanDisk (state g.S.Store c.loop-nth.tx.conn.now) = omega (arith, c.take_record.ensures.inside.does.crash.clean) in
          let so_far = c.loop-nth.invariant.stays was mode in
          continues_then _ _ _ so_far (c.in_ok-take_record.ensures.inside.does.stays clean so_far.mode);
      steps = advances_then _ _ _ _ _ _ c.loop-nth.invariant.steps c.take_record.ensures.steps;
      counted = omega (arith, c.loop-nth.invariant.counted, c.in_ok-take_record.ensures.counted);
      store = λ clean mode store.
          let was : HasCleanDisk (state g.S.Store c.loop-nth.tx.conn.now) = omega (arith, c.take_record.ensures.inside.does.crash.clean) in
          let takes = c.in_ok-take_record.ensures.takes clean (c.loop-nth.invariant.stays was mode).mode (c.loop-nth.invariant.store was mode store) in
          store_of (state g.S.Store c.take_record.new.tx.conn.now) takes.2.store;
      takes = λ clean mode store failed end result goes.
          let was : HasCleanDisk (state g.S.Store c.loop-nth.tx.conn.now) = omega (arith, c.take_record.ensures.inside.does.crash.clean) in
          let took = subst₂ (λ i bytes. TakesRecord c.args.setting.now g.L.Layout.format g.L.Layout.row_work i c.args.file c.loop-nth.nth bytes now next (Ok tt)) (ap (λ d. d.0) c.loop-nth.invariant.steps.database) c.bytes.ensures
          (c.in_ok-take_record.ensures.takes clean (c.loop-nth.invariant.stays was mode).mode (c.loop-nth.invariant.store was mode store)) in
          c.loop-nth.invariant.takes was mode store failed end result
          (rest_further failed c.args.setting.now g.L.Layout.format g.L.Layout.row_work c.args.fold.now.progress.database.0 c.args.file c.loop-nth.nth (g.R.Source.remaining c.loop-nth.reader) now
          c.read_record.new.buffer (g.R.Source.remaining c.read_record.new.reader) read.1 next took end result goes);
    }

pub returns-in-Err-clause-takes : goal.returns-in-Err-clause-takes
returns-in-Err-clause-takes g c clean mode store =
    let failed = g.R.Source.has_failed c.read_record.new.reader in
    let first = at (state g.S.Store c.args.tx.now.conn.now) c.args.pending.now c.args.fold.now in
    let now = at (state g.S.Store c.loop-nth.tx.conn.now) c.loop-nth.pending c.loop-nth.fold in
    subst (λ (r : Refusal). TakesReader c.args.setting.now g.L.Layout.format g.L.Layout.row_work c.args.fold.now.progress.database.0 failed (g.R.Source.remaining c.args.reader.now) c.args.file 1 first now (Err r)) (sym c.of_marc.ensures)
    (c.loop-nth.invariant.takes clean mode store failed now _
    (rest_fault failed c.args.setting.now g.L.Layout.format g.L.Layout.row_work c.args.fold.now.progress.database.0 c.args.file c.loop-nth.nth (g.R.Source.remaining c.loop-nth.reader) now c.in-Err.fault c.in-Err.ensures.reads))

pub returns-in_err-take_record-clause-faults : goal.returns-in_err-take_record-clause-faults
returns-in_err-take_record-clause-faults g c = record {
  failed = search rules;
  fault = λ other told. absurd (never_reads c.in_err-take_record.field-0.0 c.from_residual.result (search rules) other told);
  able = search rules;
}

pub returns-then-not-found-clause-takes : goal.returns-then-not-found-clause-takes
returns-then-not-found-clause-takes g c clean mode store =
    let failed = g.R.Source.has_failed c.read_record.new.reader in
    let now = at (state g.S.Store c.loop-nth.tx.conn.now) c.loop-nth.pending c.loop-nth.fold in
    let none : c.in-Ok.found ≡ false = search rules in
    let read = subst (λ b. ReadsRecord failed (g.R.Source.remaining c.loop-nth.reader) (Ok b) c.read_record.new.buffer (g.R.Source.remaining c.read_record.new.reader)) none
    c.in-Ok.ensures.reads in
    c.loop-nth.invariant.takes clean mode store failed now (Ok tt)
    (rest_ends failed c.args.setting.now g.L.Layout.format g.L.Layout.row_work c.args.fold.now.progress.database.0 c.args.file c.loop-nth.nth (g.R.Source.remaining c.loop-nth.reader) now read.1)

pub returns-in_err-take_record-clause-takes : goal.returns-in_err-take_record-clause-takes
returns-in_err-take_record-clause-takes g c clean mode store =
    let refusal = take_refusal c.in_err-take_record.field-0.0 in
    let result : c.from_residual.result ≡ Err (Take c.in_err-take_record.field-0.0) = search rules in
    let failed = g.R.Source.has_failed c.read_record.new.reader in
    let first = at (state g.S.Store c.args.tx.now.conn.now) c.args.pending.now c.args.fold.now in
    let now = at (state g.S.Store c.loop-nth.tx.conn.now) c.loop-nth.pending c.loop-nth.fold in
    let next = at (state g.S.Store c.take_record.new.tx.conn.now) c.take_record.new.pending c.take_record.new.fold in
    let was : HasCleanDisk (state g.S.Store c.loop-nth.tx.conn.now) = omega (arith, c.take_record.ensures.inside.does.crash.clean) in
    let took = subst₂ (λ i bytes. TakesRecord c.args.setting.now g.L.Layout.format g.L.Layout.row_work i c.args.file c.loop-nth.nth bytes now next (Err refusal)) (ap (λ d. d.0) c.loop-nth.invariant.steps.database) c.bytes.ensures
    (c.in_err-take_record.ensures.takes clean (c.loop-nth.invariant.stays was mode).mode (c.loop-nth.invariant.store was mode store)) in
    subst (TakesReader c.args.setting.now g.L.Layout.format g.L.Layout.row_work c.args.fold.now.progress.database.0 failed (g.R.Source.remaining c.args.reader.now) c.args.file 1 first next) (sym (ap (as_refusal fold_refusal) result))
    (c.loop-nth.invariant.takes was mode store failed next (Err refusal)
    (rest_refused failed c.args.setting.now g.L.Layout.format g.L.Layout.row_work c.args.fold.now.progress.database.0 c.args.file c.loop-nth.nth (g.R.Source.remaining c.loop-nth.reader) now
    c.read_record.new.buffer (g.R.Source.remaining c.read_record.new.reader) (record_read g (goal.at.returns-in_err-take_record-clause-takes g c).After-take_record).1 next refusal took))

pub returns-in_err-take_record-clause-steps : goal.returns-in_err-take_record-clause-steps
returns-in_err-take_record-clause-steps g c = advances_then _ _ _ _ _ _ c.loop-nth.invariant.steps c.take_record.ensures.steps
