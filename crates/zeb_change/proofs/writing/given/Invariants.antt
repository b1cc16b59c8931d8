use Rattle.zeb_change.proofs.Cited.{◌≡◌, length}
use Rattle.zeb_change.proofs.LeadsToContent.{AreGivenSoFar}
use Rattle.zeb_change.proofs.writing.given.Given as goal

abbrev pub invariant-loop-count : goal.invariant-loop-count
invariant-loop-count l = record {
  many : length l.given.items ≡ l.count-index;
  told : AreGivenSoFar l.counts l.places l.count-index l.left l.given.items;
}
