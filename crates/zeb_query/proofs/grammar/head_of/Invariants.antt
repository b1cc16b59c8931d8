use Rattle.zeb_query.proofs.Cited.{length, head_value, IsRead, SpellsHead, more_structures}
use Rattle.zeb_query.proofs.grammar.head_of.Given as goal

abbrev pub invariant-loop-head : goal.invariant-loop-head
invariant-loop-head l = IsRead more_structures more_structures l.fn.rest l.rest (SpellsHead l.fn.rest l.rest (head_value l.head))

abbrev pub decreases-loop-head : goal.decreases-loop-head
decreases-loop-head l = length l.rest.words.now
