use Rattle.zeb_engine.proofs.Cited.{◌≡◌, targets_below}
use Rattle.zeb_engine.proofs.stat.targets_of.Given as goal

abbrev pub invariant-loop-index : goal.invariant-loop-index
invariant-loop-index l = l.targets.items ≡ targets_below l.fn.profile l.index
