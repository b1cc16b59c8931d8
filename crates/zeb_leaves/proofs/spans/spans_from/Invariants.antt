-- What stands in the rows that are left leads from here to the whole; the row at hand is one of them.
use Rattle.zeb_leaves.proofs.Cited.{Has, ◌++◌, ◌∷◌, List, drop, ShowSpans}
use Rattle.zeb_leaf.specs.declared.entries.Held.{Held}
use Rattle.zeb_leaves.proofs.spans.spans_from.Given as goal

abbrev pub invariant-loop-next : goal.invariant-loop-next
invariant-loop-next l = record {
  leads : (rest : List Held) → ShowSpans l.end l.from.term.now l.from.block l.row (drop l.next-index l.behind) rest → ShowSpans l.end l.first 0 l.leaf l.behind (l.held.items ++ rest);
  among : Has (l.leaf ∷ l.behind) l.row;
}
