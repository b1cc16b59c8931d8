use Rattle.zeb_search.proofs.Cited.{take, TermsRise}
use Rattle.zeb_search.proofs.NeighbourLemmas.{IsWalked}
use Rattle.zeb_search.proofs.keys.stand_together.Given as goal

abbrev pub invariant-loop-term : goal.invariant-loop-term
invariant-loop-term l = TermsRise l.terms → IsWalked l.wanted (take l.term-index l.terms) l.has_begun l.has_ended
