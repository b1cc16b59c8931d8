-- What becomes of the entries that are left, becomes of all.
use Rattle.zeb_leaves.proofs.Cited.{List, drop, TermCount, Bool, CountUntil, MeetNoText}
use Rattle.zeb_leaves.proofs.until_enough.entries_until.Given as goal

abbrev pub invariant-loop-entry : goal.invariant-loop-entry
invariant-loop-entry l = record {
  counts : (new : List TermCount) (enough : Bool) → CountUntil l.n (drop l.entry-index l.own) l.counts.items new enough → CountUntil l.n l.own l.fn.counts.items new enough;
  hides : MeetNoText l.n (drop l.entry-index l.own) l.counts.items → MeetNoText l.n l.own l.fn.counts.items;
}
