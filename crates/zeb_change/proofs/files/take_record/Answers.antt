use Rattle.zeb_change.proofs.Cited.{rules, arith, ◌≡◌, IsTrue, Ok, Err, inl, inr, sym, ap, subst, state, HasCleanDisk, IsStore, as_refusal, take_refusal, FoldsRecord, TakesRecord, at, Turn}
use Rattle.zeb_change.specs.declared.part_faults.TakeFault.TheVariants.{Change}
use Rattle.zeb_change.specs.declared.part_faults.TurnFault.TheVariants.{Register}
use Rattle.zeb_change.proofs.FoldParts.{advanced, advances_worked, folded_stores, settled_at, store_of, stores, write_failed}
use Rattle.zeb_change.proofs.KeptStill.{beside_id}
use Rattle.zeb_change.proofs.SettledChanges.{at_id, worked}
use Rattle.zeb_change.proofs.TransactionLemmas.{continues_then}
use Rattle.zeb_change.proofs.files.take_record.Given as given
use Rattle.zeb_change.proofs.files.take_record.Goals.{After-write_where_full}
use Rattle.zeb_change.proofs.files.take_record.Goals as goal

pub returns-clause-inside : goal.returns-clause-inside
returns-clause-inside g c = record {
  same = search rules;
  does = record {
    stays = λ clean mode.
        let was : HasCleanDisk (state g.S.Store c.note_record.new.tx.conn.now) = omega (arith, c.write_where_full.ensures.call.does.crash.clean) in
        let stays = c.in_ok-note_record.ensures.inside.does.stays was mode in
        continues_then _ _ _ stays (c.in_ok-write_where_full.ensures.call.does.stays clean stays.mode);
    crash = search rules;
  };
}

-- ---- how far it goes

pub returns-in_err-note_record-clause-steps : goal.returns-in_err-note_record-clause-steps
returns-in_err-note_record-clause-steps g c = advanced _ _ _ _ _ c.note_record.ensures.steps

pub returns-in_err-write_where_full-clause-steps : goal.returns-in_err-write_where_full-clause-steps
returns-in_err-write_where_full-clause-steps g c = advances_worked _ _ _ _ _ _ (advanced _ _ _ _ _ c.note_record.ensures.steps) c.write_where_full.ensures.no_work

pub returns-clause-steps : goal.returns-clause-steps
returns-clause-steps g c = advances_worked _ _ _ _ _ _ (advanced _ _ _ _ _ c.note_record.ensures.steps) c.write_where_full.ensures.no_work

-- ---- what is done, in rows

pub returns-in_err-note_record-clause-takes : goal.returns-in_err-note_record-clause-takes
returns-in_err-note_record-clause-takes g c clean mode store =
    let told : c.from_residual.result ≡ Err c.in_err-note_record.field-0.0 = search rules in
    subst (TakesRecord c.args.setting.now g.L.Layout.format g.L.Layout.row_work c.args.fold.now.progress.database.0 c.args.incoming.file c.args.incoming.nth c.args.incoming.bytes.now
    (at (state g.S.Store c.args.tx.now.conn.now) c.args.pending.now c.args.fold.now) (at (state g.S.Store c.note_record.new.tx.conn.now) c.note_record.new.pending c.note_record.new.fold)) (sym (ap (as_refusal take_refusal) told))
    (inr (inl (c.in_err-note_record.ensures.folds clean mode store)))

-- what is noted, where its record was taken in
noted : (g : given.Over) (c : After-write_where_full g) → HasCleanDisk (state g.S.Store c.write_where_full.new.tx.conn.now) → IsTrue (state g.S.Store c.args.tx.now.conn.now).in_transaction
    → IsStore (state g.S.Store c.args.tx.now.conn.now)
    → FoldsRecord c.args.setting.now c.args.fold.now.progress.database.0 c.args.incoming.file c.args.incoming.nth c.args.incoming.bytes.now
    (at (state g.S.Store c.args.tx.now.conn.now) c.args.pending.now c.args.fold.now) (at (state g.S.Store c.note_record.new.tx.conn.now) c.note_record.new.pending c.note_record.new.fold) (Ok tt)
    × IsTrue (state g.S.Store c.note_record.new.tx.conn.now).in_transaction × IsStore (state g.S.Store c.note_record.new.tx.conn.now)
noted g c clean mode store =
    let was : HasCleanDisk (state g.S.Store c.note_record.new.tx.conn.now) = omega (arith, c.write_where_full.ensures.call.does.crash.clean) in
    let folds = c.in_ok-note_record.ensures.folds was mode store in (
      folds,
      (c.in_ok-note_record.ensures.inside.does.stays was mode).mode,
      store_of (state g.S.Store c.note_record.new.tx.conn.now) (folded_stores c.args.setting.now c.args.fold.now.progress.database.0 c.args.incoming.file c.args.incoming.nth c.args.incoming.bytes.now
          (at (state g.S.Store c.args.tx.now.conn.now) c.args.pending.now c.args.fold.now) (at (state g.S.Store c.note_record.new.tx.conn.now) c.note_record.new.pending c.note_record.new.fold)
          (stores (state g.S.Store c.args.tx.now.conn.now) store) folds),
    )

pub returns-in_err-write_where_full-clause-takes : goal.returns-in_err-write_where_full-clause-takes
returns-in_err-write_where_full-clause-takes g c clean mode store =
    let f = c.in_err-write_where_full.field-0.0 in
    let told : c.from_residual-in_err-write_where_full.result ≡ Err (Change (Turn (Register f))) = search rules in
    let db = c.args.fold.now.progress.database.0 in
    let first = at (state g.S.Store c.args.tx.now.conn.now) c.args.pending.now c.args.fold.now in
    let mid = at (state g.S.Store c.note_record.new.tx.conn.now) c.note_record.new.pending c.note_record.new.fold in
    let new = at (state g.S.Store c.write_where_full.new.tx.conn.now) c.write_where_full.new.pending (worked c.note_record.new.fold c.write_where_full.new.work) in
    let folds = noted g (goal.at.returns-in_err-write_where_full-clause-takes g c).After-write_where_full clean mode store in
    let does = at_id (ap (λ d. d.0) c.note_record.ensures.steps.database) c.in_err-write_where_full.ensures.call.does in
    write_failed g.L.Layout.format g.L.Layout.row_work db (FoldsRecord c.args.setting.now db c.args.incoming.file c.args.incoming.nth c.args.incoming.bytes.now) first mid new folds.0
    f (λ is. does.honest clean folds.1 folds.2 (ap Err is)) (as_refusal take_refusal c.from_residual-in_err-write_where_full.result) (ap (as_refusal take_refusal) told)

pub returns-clause-takes : goal.returns-clause-takes
returns-clause-takes g c clean mode store =
    let mid = state g.S.Store c.note_record.new.tx.conn.now in
    let new = state g.S.Store c.write_where_full.new.tx.conn.now in
    let folds = noted g (goal.at.returns-clause-takes g c).After-write_where_full clean mode store in
    let same : c.note_record.new.fold.progress.database.0 ≡ c.args.fold.now.progress.database.0 = ap (λ d. d.0) c.note_record.ensures.steps.database in
    let does = at_id same c.in_ok-write_where_full.ensures.call.does in (
      at mid c.note_record.new.pending c.note_record.new.fold,
      folds.0,
      settled_at g.L.Layout.format g.L.Layout.row_work c.args.fold.now.progress.database.0 mid new c.note_record.new.pending c.write_where_full.new.pending c.note_record.new.fold c.write_where_full.new.work
          (does.written clean folds.1 folds.2)
          (beside_id c.note_record.new.fold.progress.database.0 c.args.fold.now.progress.database.0 mid.now.trees new.now.trees same (c.in_ok-write_where_full.ensures.keeps clean folds.1 folds.2).beside)
          (c.in_ok-write_where_full.ensures.keeps clean folds.1 folds.2).malformed c.counts_are_numbers.ensures,
    )
