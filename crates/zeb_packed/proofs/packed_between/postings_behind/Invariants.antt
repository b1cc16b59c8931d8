use Rattle.zeb_packed.proofs.Cited.{map, take, two_behind, AreSpelled}
use Rattle.zeb_packed.proofs.packed_between.postings_behind.Given as goal

abbrev pub invariant-loop-row : goal.invariant-loop-row
invariant-loop-row l = AreSpelled (map two_behind (take l.row-index l.rows)) l.postings.items
