-- The leaves so far, and any leaves of the rest behind them, are the leaves of all.
use Rattle.zeb_leaf.proofs.Cited.{◌++◌, List, length, AllByRecursion, IsEntry, entry_cmp, AreCut, bytes_above}
use Rattle.std.specs.List.Sorted.{IsStrictlySortedBy}
use Rattle.zeb_leaf.specs.declared.parting.NewLeaf.{NewLeaf}
use Rattle.zeb_leaf.proofs.parting.leaves_of.Given as goal

abbrev pub invariant-loop-rest : goal.invariant-loop-rest
invariant-loop-rest l = record {
  rising : IsStrictlySortedBy entry_cmp l.rest;
  each : AllByRecursion IsEntry l.rest;
  leads : (more : List NewLeaf) → AreCut (bytes_above l.filling) more l.rest → AreCut (bytes_above l.filling) (l.leaves.items ++ more) l.entries;
}

abbrev pub decreases-loop-rest : goal.decreases-loop-rest
decreases-loop-rest l = length l.rest
