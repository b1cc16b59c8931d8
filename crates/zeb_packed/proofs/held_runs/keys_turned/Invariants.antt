-- The keys so far are changed, or their rows held.
use Rattle.zeb_packed.proofs.Cited.{Ok, GoesOnOpenOf, RegFault, IsTrue, drop, state, HasCleanDisk, IsStore, AreToldNew, packed_blocks}
use Rattle.zeb_packed.proofs.HeldRuns.{HoldsSoFar}
use Rattle.zeb_register.proofs.RunCounts.{WorksSoFar}
use Rattle.zeb_packed.proofs.held_runs.keys_turned.Given as goal

abbrev pub invariant-loop-one : goal.invariant-loop-one
invariant-loop-one g l =
    let old = state g.S.Store l.fn.tx.conn.now in
    let now = state g.S.Store l.tx.conn.now in
    record {
      call : GoesOnOpenOf {A = Unit {0}} {E = RegFault} g.S.Store l.fn.tx.conn l.tx.conn (Ok tt);
      holds : HasCleanDisk now → IsTrue old.in_transaction → IsTrue old.is_open → IsStore old → AreToldNew l.of_run.are_new l.db.0 l.run old.now.trees
          → IsStore now × AreToldNew l.of_run.are_new l.db.0 (drop l.one-index l.run) now.now.trees × HoldsSoFar l.db.0 l.run (drop l.one-index l.run) old.now.trees now.now.trees l.held;
      work : WorksSoFar packed_blocks 1 l.run l.one-index old.now.trees now.now.trees l.fn.work l.work;
    }
