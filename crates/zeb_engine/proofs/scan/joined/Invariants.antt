use Rattle.zeb_engine.proofs.Cited.{◌≡◌, ◌++◌}
use Rattle.zeb_engine.proofs.scan.joined.Given as goal

abbrev pub invariant-loop-entry : goal.invariant-loop-entry
invariant-loop-entry l = l.all.items ≡ l.fn.first.items ++ l.yielded
