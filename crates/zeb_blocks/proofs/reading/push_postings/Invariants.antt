-- The postings that were put there so far, and what is left behind them.
use Rattle.zeb_blocks.proofs.Cited.{length}
use Rattle.zeb_blocks.proofs.Walking.{IsWalked}
use Rattle.zeb_blocks.proofs.reading.push_postings.Given as goal

abbrev pub invariant-loop-left : goal.invariant-loop-left
invariant-loop-left l = IsWalked l.fn.start l.bytes l.initial.postings.items l.postings.items l.last l.left l.records

abbrev pub decreases-loop-left : goal.decreases-loop-left
decreases-loop-left l = length l.left
