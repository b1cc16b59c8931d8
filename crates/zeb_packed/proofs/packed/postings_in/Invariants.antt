use Rattle.zeb_packed.proofs.Cited.{take, AreSpelled}
use Rattle.zeb_packed.proofs.packed.postings_in.Given as goal

abbrev pub invariant-loop-row : goal.invariant-loop-row
invariant-loop-row l = AreSpelled (take l.row-index l.rows) l.postings.items
