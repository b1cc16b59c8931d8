use Rattle.zeb_packed.proofs.Cited.{packed_blocks, ◌≡◌, ◌≤◌, drop, LiesIn, units_of, KeyUnits, TurnsUnits}
use Rattle.zeb_packed.proofs.packed_parts.KeyBlock.changed_by.Given as goal

abbrev pub invariant-loop-change : goal.invariant-loop-change
invariant-loop-change l = record {
  lies : LiesIn l.initial.held.block l.held.list.items;
  block : l.held.block ≡ l.initial.held.block;
  few : l.held.records ≤ 999999999;
  turned : (end : KeyUnits) → TurnsUnits packed_blocks (drop l.change-index l.changes) (units_of l.held.list.items l.held.records) end → TurnsUnits packed_blocks l.changes (units_of l.initial.held.list.items l.initial.held.records) end;
  left : (end : KeyUnits) → TurnsUnits packed_blocks l.changes (units_of l.initial.held.list.items l.initial.held.records) end → TurnsUnits packed_blocks (drop l.change-index l.changes) (units_of l.held.list.items l.held.records) end;
}
