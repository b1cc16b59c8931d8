-- The rows of the blocks so far: in any tables that have them beside their own, what is left leads on as all changes do from the start.
use Rattle.zeb_packed.proofs.Cited.{◌≤◌, ◌-◌, length}
use Rattle.zeb_packed.proofs.BegunBlocks.{AreBegun}
use Rattle.zeb_packed.proofs.new_rows.blocks_begun.Given as goal

abbrev pub invariant-loop-done : goal.invariant-loop-done
invariant-loop-done l = record {
  within : l.done ≤ length l.changes;
  few : l.known.records ≤ 999999999;
  begun : AreBegun l.key l.changes l.fn.known l.known l.done l.blocks.items;
}

abbrev pub decreases-loop-done : goal.decreases-loop-done
decreases-loop-done l = length l.changes - l.done
