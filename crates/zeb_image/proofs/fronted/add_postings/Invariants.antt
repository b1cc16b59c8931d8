use Rattle.zeb_image.proofs.Cited.{◌≡◌, ◌++◌, map, into_iter_items, bare, posting_of}
use Rattle.zeb_image.proofs.fronted.add_postings.Given as goal

abbrev pub invariant-loop-occurrence : goal.invariant-loop-occurrence
invariant-loop-occurrence l = record {
  items : into_iter_items l.initial.occurrence-iterator ≡ l.yielded ++ into_iter_items l.occurrence-iterator;
  added : map bare l.postings.items ≡ map bare l.initial.postings.items ++ map (posting_of l.sysno) l.yielded;
}
