-- What stands in the rows that are left leads from here to the whole, and so does what is hidden there.
use Rattle.zeb_leaves.proofs.Cited.{◌++◌, List, [], drop, Entry, CountAll, HideOwns, IsNoText, ShowOwns}
use Rattle.zeb_leaves.proofs.terms.counts_from.Given as goal

abbrev pub invariant-loop-next : goal.invariant-loop-next
invariant-loop-next l = record {
  leads : (done : List Entry) × CountAll done [] l.counts.items × ((rest : List Entry) → ShowOwns l.from.term.now l.from.block l.row (drop l.next-index l.behind) rest → ShowOwns l.first 0 l.leaf l.behind (done ++ rest));
  hides : HideOwns IsNoText l.from.term.now l.from.block l.row (drop l.next-index l.behind) → HideOwns IsNoText l.first 0 l.leaf l.behind;
}
