use Rattle.zeb_profile.proofs.Cited.{◌≡◌, ◌++◌, drop, map, pair_of}
use Rattle.zeb_profile.proofs.resolved.pairs_of.Given as goal

abbrev pub invariant-loop-target : goal.invariant-loop-target
invariant-loop-target l = l.pairs.items ++ map (pair_of l.indexes.names.items) (drop l.target-index l.targets) ≡ map (pair_of l.indexes.names.items) l.targets
