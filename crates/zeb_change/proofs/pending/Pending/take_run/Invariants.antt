use Rattle.zeb_change.proofs.Cited.{◌<◌, length}
use Rattle.zeb_change.proofs.TakenKeys.{AreTakenSoFar}
use Rattle.zeb_change.proofs.pending.Pending.take_run.Given as goal

abbrev pub invariant-loop-key : goal.invariant-loop-key
invariant-loop-key l = record {
  few : l.changes < 4096;
  so_far : AreTakenSoFar l.run.items l.fn.self l.self;
}

abbrev pub decreases-loop-key : goal.decreases-loop-key
decreases-loop-key l = length l.self.notes.entries
