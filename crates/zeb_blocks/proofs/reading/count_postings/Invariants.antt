-- The postings so far, and what is left behind them.
use Rattle.zeb_blocks.proofs.Cited.{length}
use Rattle.zeb_blocks.proofs.Counting.{IsReadUpTo}
use Rattle.zeb_blocks.proofs.reading.count_postings.Given as goal

abbrev pub invariant-loop-left : goal.invariant-loop-left
invariant-loop-left l = IsReadUpTo l.fn.start l.bytes l.count l.last l.left

abbrev pub decreases-loop-left : goal.decreases-loop-left
decreases-loop-left l = length l.left
