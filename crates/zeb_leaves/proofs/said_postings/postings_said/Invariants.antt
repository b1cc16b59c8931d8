-- What those so far say.
use Rattle.zeb_leaves.proofs.Cited.{take, SayAll}
use Rattle.zeb_leaves.proofs.said_postings.postings_said.Given as goal

abbrev pub invariant-loop-one : goal.invariant-loop-one
invariant-loop-one l = SayAll (take l.one-index l.held) l.postings.items
