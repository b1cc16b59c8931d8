-- So many bytes are shared, and how many more are is told by what is behind them.
use Rattle.zeb_leaf.proofs.Cited.{◌≡◌, ◌+◌, ◌-◌, ◌≤◌, drop, length, shared_of}
use Rattle.zeb_leaf.proofs.writing.shared_len.Given as goal

abbrev pub invariant-loop-len : goal.invariant-loop-len
invariant-loop-len l = record {
  in_before : l.len ≤ length l.before;
  in_term : l.len ≤ length l.term;
  shared : shared_of l.before l.term ≡ l.len + shared_of (drop l.len l.before) (drop l.len l.term);
}

abbrev pub decreases-loop-len : goal.decreases-loop-len
decreases-loop-len l = length l.before - l.len
