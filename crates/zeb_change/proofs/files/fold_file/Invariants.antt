use Rattle.zeb_change.proofs.Cited.{◌≡◌, ◌+◌, Bool, IsTrue, Result, state, HasCleanDisk, Survives, IsStore, Refusal, Continues, Advances, At, TakesReader, StaysAble, at}
use Rattle.zeb_change.proofs.files.fold_file.Given as goal

abbrev pub invariant-loop-nth : goal.invariant-loop-nth
invariant-loop-nth g l =
    let old = state g.S.Store l.fn.tx.conn.now in
    let now = state g.S.Store l.tx.conn.now in
    record {
      same : l.tx.conn.ghost_name ≡ l.fn.tx.conn.ghost_name;
      able : StaysAble g.R.Source.may_fail g.R.Source.has_failed l.fn.reader l.reader;
      crash : Survives old now (λ _. ⊥);
      stays : HasCleanDisk now → IsTrue old.in_transaction → Continues old now;
      steps : Advances l.setting.limits g.L.Layout.format g.L.Layout.row_work l.fn.fold.progress l.fold.progress;
      counted : l.fold.tally.records + 1 ≡ l.fn.fold.tally.records + l.nth;
      store : HasCleanDisk now → IsTrue old.in_transaction → IsStore old → IsStore now;
      takes : HasCleanDisk now → IsTrue old.in_transaction → IsStore old → (failed : Bool) (end : At) (result : Result (Unit {0}) Refusal)
          → TakesReader l.setting g.L.Layout.format g.L.Layout.row_work l.fn.fold.progress.database.0 failed (g.R.Source.remaining l.reader) l.file l.nth (at now l.pending l.fold) end result
          → TakesReader l.setting g.L.Layout.format g.L.Layout.row_work l.fn.fold.progress.database.0 failed (g.R.Source.remaining l.fn.reader) l.file 1 (at old l.fn.pending l.fn.fold) end result;
    }
