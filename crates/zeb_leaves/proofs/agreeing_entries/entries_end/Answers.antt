use Rattle.zeb_leaves.proofs.Cited.{◌+◌, drop, subst, sym, TakeEntries, leaf_of, drop_got}
use Rattle.zeb_leaves.proofs.AgreeingEnds.{takes_more}
use Rattle.zeb_leaves.proofs.agreeing_entries.entries_end.Goals as goal

pub loop-entry-preserved : goal.loop-entry-preserved
loop-entry-preserved c =
    let key = (leaf_of c.args.leaf.now).key in
    let i = c.loop-entry.entry-index in
    let left = drop c.loop-entry.end c.args.postings.now in
    let it = rw c.in-Some.is at c.in_ok-next.ensures in
    let front = drop_got c.args.entries.now i c.entry-item.result c.loop-entry-test.true c.entry-item.is in (
      it.0,
      λ rest.
          let more = takes_more key c.entry-item.result (drop (i + 1) c.args.entries.now) left (drop c.in-Some.next c.args.postings.now) it.1.0 it.1.1 it.1.2 rest in
          let so = c.loop-entry.invariant.1 rest in
          (λ h. more.0 (subst (λ l. TakeEntries key l left rest) front (so.0 h)), λ h. so.1 (subst (λ l. TakeEntries key l left rest) (sym front) (more.1 h))),
    )
