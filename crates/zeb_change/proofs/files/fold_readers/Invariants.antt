use Rattle.zeb_change.proofs.Cited.{◌≡◌, ◌≤◌, ◌<◌, ◌+◌, Bool, false, ℕ, drop, map, get_or, IsTrue, Result, state, HasCleanDisk, Survives, IsStore, Refusal, Continues, Advances, At, TakesReaders, StayAble, at}
use Rattle.zeb_change.proofs.files.fold_readers.Given as goal

abbrev pub invariant-loop-index : goal.invariant-loop-index
invariant-loop-index g l =
    let old = state g.S.Store l.fn.tx.conn.now in
    let now = state g.S.Store l.tx.conn.now in
    record {
      same : l.tx.conn.ghost_name ≡ l.fn.tx.conn.ghost_name;
      able : StayAble g.R.Source.may_fail g.R.Source.has_failed l.fn.readers l.readers;
      crash : Survives old now (λ _. ⊥);
      stays : HasCleanDisk now → IsTrue old.in_transaction → Continues old now;
      steps : Advances l.setting.limits g.L.Layout.format g.L.Layout.row_work l.fn.fold.progress l.fold.progress;
      unread : (j : ℕ) (d : g.row.R.Denot) → l.index ≤ j → get_or l.readers j d ≡ get_or l.fn.readers j d;
      fine : (j : ℕ) → j < l.index → (d : g.row.R.Denot) → g.R.Source.has_failed (get_or l.readers j d) ≡ false;
      store : HasCleanDisk now → IsTrue old.in_transaction → IsStore old → IsStore now;
      takes : HasCleanDisk now → IsTrue old.in_transaction → IsStore old → (failed : Bool) (end : At) (result : Result (Unit {0}) Refusal)
          → TakesReaders l.setting g.L.Layout.format g.L.Layout.row_work l.fn.fold.progress.database.0 failed (map g.R.Source.remaining (drop l.index l.fn.readers)) (l.index + 1) (at now l.pending l.fold) end result
          → TakesReaders l.setting g.L.Layout.format g.L.Layout.row_work l.fn.fold.progress.database.0 failed (map g.R.Source.remaining l.fn.readers) 1 (at old l.fn.pending l.fn.fold) end result;
    }
