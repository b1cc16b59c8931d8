use Rattle.zeb_packed.proofs.Cited.{◌≡◌, ◌⊎◌, ◌<◌, ◌^◌, Ok, true, take, state, LooksInto}
use Rattle.zeb_packed.proofs.PackedTotals.{AreGoneOver}
use Rattle.zeb_packed.proofs.blocks.BlocksLayout.totals.Given as goal

abbrev pub invariant-loop-term : goal.invariant-loop-term
invariant-loop-term g l = record {
  looks : LooksInto (λ _. ⊥) (λ trees _. AreGoneOver trees l.at.db.0 l.at.index l.at.register l.term-items (take l.term-index l.term-items) l.occurrences l.initial.work.block_read l.work.block_read)
      (state g.S.Store l.fn.conn) (state g.S.Store l.conn) (Ok true);
  others : l.work ≡ record l.initial.work { block_read = l.work.block_read };
  fits : (l.work.block_read ≡ l.initial.work.block_read) ⊎ (l.work.block_read < 2 ^ 64);
}
