use Rattle.zeb_change.proofs.Cited.{take, AreOfKey}
use Rattle.zeb_change.proofs.changed_keys.run_length.Given as goal

abbrev pub invariant-loop-index : goal.invariant-loop-index
invariant-loop-index l = record { so_far : AreOfKey l.key (take l.index l.occurrences) }
