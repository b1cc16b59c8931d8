-- What stands in the rows that are left leads from here to the whole, and so does what is hidden there.
use Rattle.zeb_leaves.proofs.Cited.{◌≡◌, ◌++◌, ℕ, List, drop, Entry, HideOwns, SayMany, SaysNone, ShowOwns, capped}
use Rattle.zeb_leaves.proofs.term_totals.postings_from.Given as goal

abbrev pub invariant-loop-next : goal.invariant-loop-next
invariant-loop-next l = record {
  leads : (done : List Entry) × (sum : ℕ) × SayMany done sum × (l.many ≡ capped sum) × ((rest : List Entry) → ShowOwns l.from.term.now l.from.block l.row (drop l.next-index l.behind) rest → ShowOwns l.first 0 l.leaf l.behind (done ++ rest));
  hides : HideOwns SaysNone l.from.term.now l.from.block l.row (drop l.next-index l.behind) → HideOwns SaysNone l.first 0 l.leaf l.behind;
}
