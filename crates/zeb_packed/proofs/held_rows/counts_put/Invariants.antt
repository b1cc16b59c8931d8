-- The rows so far are put.
use Rattle.zeb_packed.proofs.Cited.{Ok, GoesOnOpenOf, Error, ◌≤◌, ◌-◌, IsTrue, length, map, take, state, HasCleanDisk, Changes, IsStore, dict_tree, GainsAll, new_count_row}
use Rattle.zeb_packed.proofs.held_rows.counts_put.Given as goal

abbrev pub invariant-loop-done : goal.invariant-loop-done
invariant-loop-done g l =
    let old = state g.S.Store l.fn.tx.conn.now in
    let now = state g.S.Store l.tx.conn.now in
    record {
      call : GoesOnOpenOf {A = Unit {0}} {E = Error} g.S.Store l.fn.tx.conn l.tx.conn (Ok tt);
      within : l.done ≤ length l.counts;
      put : HasCleanDisk now → IsTrue old.in_transaction → IsTrue old.is_open → IsStore old → Changes dict_tree (GainsAll (map (new_count_row l.db.0) (take l.done l.counts))) old now;
    }

abbrev pub decreases-loop-done : goal.decreases-loop-done
decreases-loop-done g l = length l.counts - l.done
