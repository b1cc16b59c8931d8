-- Those so far are counted.
use Rattle.zeb_leaves.proofs.Cited.{take, CountAll}
use Rattle.zeb_leaves.proofs.terms.count_entries.Given as goal

abbrev pub invariant-loop-entry : goal.invariant-loop-entry
invariant-loop-entry l = CountAll (take l.entry-index l.own) l.fn.counts.items l.counts.items
