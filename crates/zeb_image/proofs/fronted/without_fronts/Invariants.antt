use Rattle.zeb_image.proofs.Cited.{◌≡◌, ◌++◌, length, map, reverse, bare}
use Rattle.zeb_image.proofs.fronted.without_fronts.Given as goal

abbrev pub invariant-loop-last : goal.invariant-loop-last
invariant-loop-last l = record {
  taken : map bare l.initial.fronted.items ≡ map bare l.fronted.items ++ reverse l.postings.items;
}

abbrev pub decreases-loop-last : goal.decreases-loop-last
decreases-loop-last l = length l.fronted.items
