-- What is left of the entries takes the postings that are left, where all of them take those of the list.
use Rattle.zeb_leaves.proofs.Cited.{◌↔◌, ◌≤◌, List, length, drop, TakeEntries, leaf_of, KeyPosting}
use Rattle.zeb_leaves.proofs.agreeing_entries.entries_end.Given as goal

abbrev pub invariant-loop-entry : goal.invariant-loop-entry
invariant-loop-entry l =
    (l.end ≤ length l.postings)
    × ((rest : List KeyPosting) → TakeEntries (leaf_of l.leaf).key l.entries (drop l.at l.postings) rest ↔ TakeEntries (leaf_of l.leaf).key (drop l.entry-index l.entries) (drop l.end l.postings) rest)
