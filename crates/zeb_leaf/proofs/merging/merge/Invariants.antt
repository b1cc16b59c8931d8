-- What is left leads from here to any end as all of it does from the start.
use Rattle.zeb_leaf.proofs.Cited.{◌≡◌, ◌++◌, List, length, Entry}
use Rattle.std.specs.Vec.Iter.{into_iter_items, into_iter_len}
use Rattle.zeb_leaf.proofs.MergedLists.{MergesAll}
use Rattle.zeb_leaf.proofs.merging.merge.Given as goal

abbrev pub invariant-loop-change : goal.invariant-loop-change
invariant-loop-change l = record {
  left : into_iter_len l.change-iterator ≡ length (into_iter_items l.change-iterator);
  leads : (end : List Entry) → MergesAll (into_iter_items l.change-iterator) l.left.items end → MergesAll l.fn.changes.items l.fn.entries.items (l.merged.items ++ end);
}
