-- What is left leads from here to any end as all of it does from the start, and where all can be turned, what is left can.
use Rattle.zeb_leaves.proofs.Cited.{drop, LiesIn, block_of, packed_leaves, units_of, KeyUnits, TurnsUnits}
use Rattle.zeb_leaves.proofs.TurnedEntries.{CanTurn}
use Rattle.zeb_leaves.proofs.turned_entries.postings_after.Given as goal

abbrev pub invariant-loop-change : goal.invariant-loop-change
invariant-loop-change l = record {
  lies : LiesIn (block_of l.changes) l.list.items;
  turned : (end : KeyUnits) → TurnsUnits packed_leaves (drop l.change-index l.changes) (units_of l.list.items 0) end → TurnsUnits packed_leaves l.changes (units_of l.initial.list.items 0) end;
  left : CanTurn l.changes (units_of l.initial.list.items 0) → CanTurn (drop l.change-index l.changes) (units_of l.list.items 0);
}
