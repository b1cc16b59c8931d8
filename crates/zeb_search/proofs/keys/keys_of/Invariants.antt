use Rattle.zeb_search.proofs.Cited.{AreTaken}
use Rattle.zeb_search.proofs.keys.keys_of.Given as goal

abbrev pub invariant-loop-term : goal.invariant-loop-term
invariant-loop-term l = AreTaken l.index l.register l.wanted l.yielded l.keys.items
